-- None of the tasks of the sheet waits.
use Rattle.std.proofs.Common.{◌≡◌, false, length, ap, subst, arith}
use Rattle.prta_jobs.specs.TaskSet.{holds}
use Rattle.prta_response.specs.Coming.{ComingState}
use Rattle.prta_response.proofs.Walk.{none_waits}
use Rattle.prta_response.proofs.coming.Coming.next.Goals as goal

pub step-requires-clause-none : goal.step-requires-clause-none
step-requires-clause-none c =
    none_waits (holds c.loop-task.self.waiting) c.args.sheet.now.tasks c.loop-task.self.at
    (λ i low. subst (λ (s : ComingState). holds s.waiting i ≡ false) c.self.view_is (c.in_default.ensures i (omega (arith, low, ap length c.tasks.ensures.tasks))))
