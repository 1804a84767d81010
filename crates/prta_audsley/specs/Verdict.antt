-- The verdict of the assignment, and what it says.
use Rattle.std.specs.Prelude.{◌≡◌, ◌↔◌, ℕ, ◌<◌, Bool, true, false, not, ◌&&◌, nat_eq, List, map, length}
use Rattle.std.specs.List.{range_with_len}
use Rattle.prta_mass.specs.declared.direction.Dir.{Dir}
use Rattle.prta_mass.specs.declared.direction.Dir.TheVariants.{Up, Down}
use Rattle.prta_sheet.specs.Sheet.{Sheet}
use Rattle.prta_sheet.specs.Accepted.{IsAccepted}
use Rattle.prta_sheet.specs.declared.limits.TheConstants.{TASK_LIMIT}
use Rattle.prta_jobs.specs.TaskSet.{holds}
use Rattle.prta_jobs.specs.Permutation.{is_order}
use Rattle.prta_audsley.specs.Passing.{task_passes, order_passes, ChancesPass, SomeChanceFails}
use Rattle.prta_audsley.specs.Greedy.{is_among, Outcome, Through, Stuck, greedy_over}
use Rattle.prta_audsley.specs.declared.assigned.Assigned.{Assigned}
use Rattle.prta_audsley.specs.declared.assigned.Assigned.TheVariants.{Order, Undecided, Impossible}

-- the greedy by the numbers of a direction
abbrev pub greedy_by : Dir → Sheet → Outcome
greedy_by dir sheet = greedy_over (task_passes dir sheet) (length sheet.tasks)

-- the set of the tasks of a list
abbrev pub set_of : List ℕ → List Bool
set_of tasks = map (is_among tasks) (range_with_len 0 TASK_LIMIT)

-- Order where the greedy by Up gets through, Impossible where that by Down is stuck, Undecided otherwise
abbrev pub verdict_of : Outcome → Outcome → Assigned
verdict_of (Through order) down = Order order
verdict_of (Stuck unplaced) (Through order) = Undecided (set_of unplaced)
verdict_of (Stuck unplaced) (Stuck below) = Impossible (set_of below)

abbrev pub verdict : Sheet → Assigned
verdict sheet = verdict_of (greedy_by Up sheet) (greedy_by Down sheet)

-- ---- what it says

-- the other tasks of a set
abbrev pub other_tasks : List Bool → ℕ → ℕ → Bool
other_tasks set task i = not (nat_eq i task) && holds set i

-- an order of the sheet's tasks that passes by Up; and so under it every analysed job's exact chance passes
pub record IsGoodOrder (sheet : Sheet) (order : List ℕ) : Type 0 where
  pub permutation : is_order (length sheet.tasks) order ≡ true
  pub passes : order_passes Up sheet order ≡ true
  pub chances : ChancesPass sheet order

-- no order of the tasks passes by Up
abbrev pub NoOrderPasses : Sheet → Type 0
NoOrderPasses sheet = (order : List ℕ) → is_order (length sheet.tasks) order ≡ true → order_passes Up sheet order ≡ false

-- under every order some analysed job's exact chance fails
abbrev pub EveryOrderFails : Sheet → Type 0
EveryOrderFails sheet = (order : List ℕ) → is_order (length sheet.tasks) order ≡ true → SomeChanceFails sheet order

-- some of the sheet's tasks, of which none passes by a direction with all others of them above it
pub record IsStuck (dir : Dir) (sheet : Sheet) (set : List Bool) : Type 0 where
  pub first : ℕ
  pub some : holds set first ≡ true
  pub listed : (i : ℕ) → holds set i ≡ true → i < length sheet.tasks
  pub none : (i : ℕ) → holds set i ≡ true → task_passes dir sheet (other_tasks set i) i ≡ false

pub record IsUndecided (sheet : Sheet) (set : List Bool) : Type 0 where
  pub stuck : IsStuck Up sheet set
  pub none : NoOrderPasses sheet

pub record IsImpossible (sheet : Sheet) (set : List Bool) : Type 0 where
  pub stuck : IsStuck Down sheet set
  pub none : NoOrderPasses sheet
  pub fails : EveryOrderFails sheet

abbrev pub Says : Sheet → Assigned → Type 0
Says sheet (Order order) = IsGoodOrder sheet order
Says sheet (Undecided set) = IsUndecided sheet set
Says sheet (Impossible set) = IsImpossible sheet set

-- ---- when it comes

-- a greedy is stuck with this set
pub record IsLeft (dir : Dir) (sheet : Sheet) (set : List Bool) : Type 0 where
  pub tasks : List ℕ
  pub stuck : greedy_by dir sheet ≡ Stuck tasks
  pub set_is : set ≡ set_of tasks

-- a greedy gets through
pub record GetsThrough (dir : Dir) (sheet : Sheet) : Type 0 where
  pub order : List ℕ
  pub through : greedy_by dir sheet ≡ Through order

-- of an order, that the greedy by Up gets through with it; of Impossible, that the one by Down is stuck, with this set; of Undecided, that the one by
-- Up is stuck, with this set, and the one by Down isn't
abbrev pub IsCause : Sheet → Assigned → Type 0
IsCause sheet (Order order) = greedy_by Up sheet ≡ Through order
IsCause sheet (Undecided set) = IsLeft Up sheet set × GetsThrough Down sheet
IsCause sheet (Impossible set) = IsLeft Down sheet set

-- an answer comes exactly where its cause is there
abbrev pub IsExactly : Sheet → Assigned → Type 0
IsExactly sheet found = (assigned : Assigned) → (found ≡ assigned) ↔ IsCause sheet assigned

-- ---- the laws of the verdict

pub record VerdictHolds (sheet : Sheet) : Type 0 where
  pub says : Says sheet (verdict sheet)
  pub exactly : IsExactly sheet (verdict sheet)

abbrev pub VerdictsHold : Type 0
VerdictsHold = (sheet : Sheet) → IsAccepted sheet → VerdictHolds sheet
