-- the tallies of the tasks so far, none of which has too many points
use Rattle.std.proofs.Common.{◌≡◌, ◌≤◌, ◌<◌, ℕ, map, take, length}
use Rattle.prta_sheet.specs.Sheet.{task_at}
use Rattle.prta_times.specs.Points.{most_times}
use Rattle.prta_times.specs.Counts.{counted}
use Rattle.prta_times.proofs.tallies.tallies_of.Given as goal

abbrev pub invariant-loop-i : goal.invariant-loop-i
invariant-loop-i l = record {
  tallies : l.tallies.items ≡ map (λ task. counted task.name l.counts) (take l.i l.tasks);
  few : (k : ℕ) → k < l.i → length (counted (task_at l.tasks k).name l.counts) ≤ most_times l.fn.points;
}
