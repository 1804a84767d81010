-- what the jobs so far give
use Rattle.std.proofs.Common.{◌≡◌, ◌*◌, ◌^◌, ◌≤◌}
use Rattle.prta_sheet.specs.Job.{nth_job}
use Rattle.prta_sheet.specs.Work.{job_work}
use Rattle.prta_sheet.proofs.Below.{sum_below}
use Rattle.prta_sheet.proofs.work.own_work.Given as goal

abbrev pub invariant-loop-k : goal.invariant-loop-k
invariant-loop-k l = (l.work ≡ sum_below (λ k. job_work l.tasks (nth_job l.tasks l.i k)) l.k) × (l.work ≤ 2 ^ 49 * l.k)
