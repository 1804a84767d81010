-- Tasks whose times move up, weight by weight, and what that does to the exact chance of a miss.
use Rattle.std.specs.Prelude.{◌≡◌, ℕ, ◌≤◌, true, List, [], ◌∷◌, length, Contains}
use Rattle.std.specs.List.{AllByRecursion}
use Rattle.prta_fewpoints.specs.Laws.{IsMovedUp}
use Rattle.prta_sheet.specs.Sheet.{Task, Sheet}
use Rattle.prta_sheet.specs.Job.{Job, analysed_jobs}
use Rattle.prta_sheet.specs.Chance.{miss_weight, chance_total}
use Rattle.prta_sheet.specs.Accepted.{IsAccepted}
use Rattle.prta_jobs.specs.Permutation.{is_order}

-- a relation between the elements of two lists of one length, place by place
abbrev pub Both : {X Y : Type 0} → (X → Y → Type 0) → List X → List Y → Type 0
Both R [] [] = Unit {0}
Both R [] (y ∷ ys) = ⊥
Both R (x ∷ xs) [] = ⊥
Both R (x ∷ xs) (y ∷ ys) = R x y × Both R xs ys

-- two tasks that differ in their tables alone: those of the second are those of the first with weights moved to later times
pub record IsLater (early late : Task) : Type 0 where
  pub offset : early.offset ≡ late.offset
  pub period : early.period ≡ late.period
  pub deadline : early.deadline ≡ late.deadline
  pub cycle : Both IsMovedUp early.cycle late.cycle

-- each time of each table is at least 1
abbrev pub TakeTime : List Task → Type 0
TakeTime tasks = AllByRecursion (λ task. AllByRecursion (λ table. AllByRecursion (λ pair. 1 ≤ pair.0) table) task.cycle) tasks

-- the exact chance that a job misses is no greater for the first tasks than for the second: no greater weight of a miss, of the same total
pub record IsNoGreaterChance (early late : List Task) (order : List ℕ) (job : Job) : Type 0 where
  pub misses : miss_weight early order job ≤ miss_weight late order job
  pub totals : chance_total early job ≡ chance_total late job

-- so for each analysed job of a sheet, under every order of priorities: what bounds the sheet's chances from above bounds those by the
-- earlier tables
abbrev pub IsSafeFor : List Task → Sheet → Type 0
IsSafeFor early sheet =
    (order : List ℕ) (job : Job) → is_order (length sheet.tasks) order ≡ true → Contains (analysed_jobs sheet) job → IsNoGreaterChance early sheet.tasks order job

-- moving weights of a sheet's tables to later times lowers no exact chance
abbrev pub LaterTimesLowerNoChance : Type 0
LaterTimesLowerNoChance = (early : List Task) (sheet : Sheet) → IsAccepted sheet → Both IsLater early sheet.tasks → TakeTime early → IsSafeFor early sheet
