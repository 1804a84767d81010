-- The greedy as the code makes it: on a set of unplaced tasks, and on an order whose last places are filled.
use Rattle.std.specs.Prelude.{◌≡◌, ℕ, ◌<◌, Bool, true, false, Option, Some, None, List, filter, length}
use Rattle.std.specs.List.{range_with_len}
use Rattle.prta_sheet.specs.declared.limits.TheConstants.{TASK_LIMIT}
use Rattle.prta_jobs.specs.TaskSet.{holds}
use Rattle.prta_audsley.specs.Greedy.{Outcome, Through, Stuck}
use Rattle.prta_audsley.specs.Verdict.{other_tasks}

-- the tasks of a set, in sheet order
abbrev pub tasks_in : ℕ → (ℕ → Bool) → List ℕ
tasks_in n set = filter set (range_with_len 0 n)

-- a set of some of n tasks
pub record IsSetOf (n : ℕ) (set : List Bool) : Type 0 where
  pub flags : length set ≡ TASK_LIMIT
  pub listed : (i : ℕ) → holds set i ≡ true → i < n

-- task i of the set fails with the others of it above it
abbrev pub Fails : ((ℕ → Bool) → ℕ → Bool) → List Bool → ℕ → Type 0
Fails passes set i = holds set i ≡ true → passes (other_tasks set i) i ≡ false

-- this task of the set passes with the others of it above it, and none before it does
pub record IsFirst (passes : (ℕ → Bool) → ℕ → Bool) (n : ℕ) (set : List Bool) (task : ℕ) : Type 0 where
  pub listed : task < n
  pub held : holds set task ≡ true
  pub passing : passes (other_tasks set task) task ≡ true
  pub earlier : (i : ℕ) → i < task → Fails passes set i

-- the first of the set that does, or none does
abbrev pub IsFirstPassing : ((ℕ → Bool) → ℕ → Bool) → ℕ → List Bool → Option ℕ → Type 0
IsFirstPassing passes n set (Some task) = IsFirst passes n set task
IsFirstPassing passes n set None = (i : ℕ) → i < n → Fails passes set i

-- an order, or the unplaced tasks where there are some
abbrev pub outcome_of : ℕ → List ℕ → Option (List Bool) → Outcome
outcome_of n order None = Through order
outcome_of n order (Some set) = Stuck (tasks_in n (holds set))
