-- the greatest number of the tasks so far
use Rattle.std.proofs.Common.{◌≡◌}
use Rattle.prta_sheet.specs.Counts.{job_count}
use Rattle.prta_resample.specs.Resample.{largest}
use Rattle.prta_writer.proofs.room.most_jobs.Given as goal

abbrev pub invariant-loop-i : goal.invariant-loop-i
invariant-loop-i l = l.most ≡ largest l.i (job_count l.sheet)
