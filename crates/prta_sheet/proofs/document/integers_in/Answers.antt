use Rattle.std.proofs.Common.{None, refl, arith, sym}
use Rattle.prta_sheet.specs.Reading.{integers_in}
use Rattle.prta_sheet.proofs.Items.{not_two}
use Rattle.prta_sheet.proofs.document.integers_in.Goals as goal

pub returns-in_default : goal.returns-in_default
returns-in_default c = sym (not_two None integers_in refl (λ a. refl) (λ a b d rest. refl) c.args.items.now.items (λ e. omega arith))

pub returns-in_default-2 : goal.returns-in_default-2
returns-in_default-2 c = sym (not_two None integers_in refl (λ a. refl) (λ a b d rest. refl) c.args.items.now.items (λ e. omega arith))
