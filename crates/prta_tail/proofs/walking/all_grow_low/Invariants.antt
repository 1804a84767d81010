-- the tasks so far grow low
use Rattle.std.proofs.Common.{◌≡◌, true, not, ◌||◌}
use Rattle.std.specs.List.{list_all, range_with_len}
use Rattle.prta_sheet.specs.Sheet.{task_at}
use Rattle.prta_jobs.specs.TaskSet.{holds}
use Rattle.prta_tail.specs.Walk.{grows_low}
use Rattle.prta_tail.proofs.walking.all_grow_low.Given as goal

abbrev pub invariant-loop-i : goal.invariant-loop-i
invariant-loop-i l = list_all (λ i. not (holds l.level i) || list_all (grows_low l.ratio) (task_at l.sheet.tasks i).cycle) (range_with_len 0 l.i) ≡ true
