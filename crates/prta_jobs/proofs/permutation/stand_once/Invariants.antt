-- the tasks so far
use Rattle.std.proofs.Common.{◌≡◌, true}
use Rattle.std.specs.List.{list_all, range_with_len}
use Rattle.prta_jobs.specs.Permutation.{stands_once}
use Rattle.prta_jobs.proofs.permutation.stand_once.Given as goal

abbrev pub invariant-loop-task : goal.invariant-loop-task
invariant-loop-task l = list_all (stands_once l.tasks) (range_with_len 0 l.task) ≡ true
