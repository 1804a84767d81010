use Rattle.std.proofs.Common.{◌∙◌, ap₂}
use Rattle.std.proofs.lemmas.List.{get_or_default}
use Rattle.prta_sheet.specs.Job.{Job}
use Rattle.prta_sheet.specs.Machine.{goes_before}
use Rattle.prta_ticksim.proofs.serving.is_ahead.Goals as goal

pub returns-in-Some : goal.returns-in-Some
returns-in-Some c =
    let listed = rw c.in-Some.is at c.requires.first in
    rw c.in-Some.is
    (c.goes_before.ensures ∙ ap₂ (λ (a b : Job). goes_before c.args.order.now a b)
    (c.index-jobs-i.is ∙ get_or_default c.args.jobs.now c.args.i _ _ c.requires.job)
    (c.index-jobs-k.is ∙ get_or_default c.args.jobs.now c.in-Some.k _ _ listed))
