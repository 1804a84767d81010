-- for the jobs so far
use Rattle.std.proofs.Common.{◌≡◌, ◌*◌, ◌^◌, ◌≤◌, length}
use Rattle.prta_sheet.specs.Job.{nth_job}
use Rattle.prta_sheet.specs.Work.{between}
use Rattle.prta_sheet.proofs.Below.{sum_below}
use Rattle.prta_backlog.proofs.room.between_own.Given as goal

abbrev pub invariant-loop-k : goal.invariant-loop-k
invariant-loop-k l = (l.jobs ≡ sum_below (λ k. length (between l.tasks (nth_job l.tasks l.i k))) l.k) × (l.jobs ≤ 2 ^ 32 * l.k)
