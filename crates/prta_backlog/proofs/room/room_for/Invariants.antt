-- the greatest number of the tasks so far
use Rattle.std.proofs.Common.{◌≡◌, ◌^◌, ◌≤◌}
use Rattle.prta_resample.specs.Resample.{largest}
use Rattle.prta_backlog.specs.Room.{jobs_between}
use Rattle.prta_backlog.proofs.room.room_for.Given as goal

abbrev pub invariant-loop-i : goal.invariant-loop-i
invariant-loop-i l = (l.most ≡ largest l.i (jobs_between l.sheet)) × (l.most ≤ 2 ^ 60)
