use Rattle.std.proofs.Common.{append_assoc}
use Rattle.std.proofs.lemmas.Result.{IfOk-equal}
use Rattle.prta_sheet.specs.Canonical.{support_line}
use Rattle.prta_sheet.proofs.text.push_support_line.Goals as goal

pub returns : goal.returns
unfolding support_line
returns c =
    IfOk-equal c.push-3.result _ _ _ c.push-3.ensures
    (rw (c.in_ok-push_number-2.ensures, c.in_ok-push-2.ensures, c.in_ok-push_number.ensures, c.in_ok-push.ensures) (simp append_assoc))
