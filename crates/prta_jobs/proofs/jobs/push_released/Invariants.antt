-- the jobs of the tasks so far
use Rattle.std.proofs.Common.{◌≡◌, ◌++◌, take}
use Rattle.prta_sheet.specs.Job.{released_at}
use Rattle.prta_jobs.proofs.jobs.push_released.Given as goal

abbrev pub invariant-loop-i : goal.invariant-loop-i
invariant-loop-i l = l.jobs.items ≡ l.fn.jobs.items ++ released_at 0 (take l.i l.tasks) l.at
