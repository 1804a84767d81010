use Rattle.std.proofs.Common.{append_assoc}
use Rattle.std.proofs.lemmas.Result.{IfOk-equal}
use Rattle.prta_sheet.specs.Canonical.{settings_text}
use Rattle.prta_sheet.proofs.text.push_settings.Goals as goal

pub returns : goal.returns
unfolding settings_text
returns c =
    IfOk-equal c.push_support.result _ _ _ c.push_support.ensures
    (rw (c.in_ok-push_number_line-4.ensures, c.in_ok-push_number_line-3.ensures, c.in_ok-push_number_line-2.ensures, c.in_ok-push_number_line.ensures) (simp append_assoc))
