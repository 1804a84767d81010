-- the tasks so far, none of which is the task
use Rattle.std.proofs.Common.{◌≡◌, ℕ, false, nat_eq, take}
use Rattle.std.specs.List.{list_any}
use Rattle.prta_jobs.specs.TaskSet.{holds}
use Rattle.prta_jobs.proofs.permutation.tasks_before.Given as goal

abbrev pub invariant-loop-other : goal.invariant-loop-other
invariant-loop-other l =
    ((i : ℕ) → holds l.before i ≡ list_any (λ other. nat_eq other i) (take l.other-index l.order))
    × (list_any (λ other. nat_eq other l.task) (take l.other-index l.order) ≡ false)
