use Rattle.std.proofs.Common.{◌≡◌, Bool, true, false, not, Option, Some, None, is_some, is_none, refl, ◌∙◌}
use Rattle.prta_writer.proofs.Checks.{none_fails}
use Rattle.prta_writer.proofs.slack.slack_page.Goals as goal

none_is : {A : Type 0} (found : Option A) (b : Bool) → is_some found ≡ not b → b ≡ is_none found
none_is None true e = refl
none_is None false e = cc
none_is (Some x) true e = cc
none_is (Some x) false e = refl

pub returns-clause-passes : goal.returns-clause-passes
returns-clause-passes c =
    none_is c.first_by-failing.result c.is_none.result c.is_none.ensures ∙ none_fails c.args.sheet.now c.first_by-failing.result c.first_by-failing.ensures.first
