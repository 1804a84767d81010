-- the tasks so far
use Rattle.std.proofs.Common.{◌≡◌, map, take}
use Rattle.prta_times.specs.Counts.{with_counted}
use Rattle.prta_times.proofs.tasks.tasks_with.Given as goal

abbrev pub invariant-loop-i : goal.invariant-loop-i
invariant-loop-i l = l.made.items ≡ map (with_counted l.points l.counts) (take l.i l.tasks)
