-- Reduced tables are those that were counted, with weights moved to later times.
use Rattle.std.proofs.Common.{◌≡◌, ℕ, ◌≤◌, Bool, true, false, if◌then◌else◌, List, [], ◌∷◌, get_or, map, All, refl, arith}
use Rattle.std.specs.List.{list_any, AllByRecursion as Each}
use Rattle.std.proofs.lemmas.List.{length-map, get_or-map}
use Rattle.std.proofs.lemmas.List.Elements.{recursion_from_All}
use Rattle.prta_mass.specs.Table.{Table, IsTable, times}
use Rattle.prta_fewpoints.specs.Recursion.{reduced}
use Rattle.prta_fewpoints.specs.Laws.{IsMovedUp, ReductionIsSafe}
use Rattle.prta_sheet.specs.Sheet.{Task}
use Rattle.prta_sheet.specs.Accepted.{IsTask}
use Rattle.prta_sheet.proofs.Each.{Each-weaker}
use Rattle.prta_times.specs.declared.points.Points.TheVariants.{Every, AtMost}
use Rattle.prta_times.specs.Counts.{Count, records_in, later_records, counts_in, is_of, counted, with_counted, sheet_with, reduced_sheet}
use Rattle.prta_times.specs.Laws.{ReducedAreSafe}
use Rattle.prta_times.specs.LaterTimes.{Both, IsLater, TakeTime, LaterTimesLowerNoChance}
use Rattle.prta_times.specs.Parts.{IsInRange, CanReduce, HasTable}
use Rattle.prta_times.proofs.CountedAccepted.{HasPassed, has_passed, counted_are_accepted}
use Rattle.prta_times.proofs.InRange.{are_in_range, positive}
use Rattle.prta_times.proofs.Making.{Relies}
use Rattle.prta_times.proofs.OnlyWork.{have_tables}

-- ---- a task that keeps its tables

moved_self : (table : Table) → IsMovedUp table table
moved_self table = record {
  to = λ c. c;
  up = λ i d low. omega arith;
  lands = λ i d low.
      let first : ℕ × ℕ → ℕ = λ pair. pair.0 in
      (i, omega (arith, low, length-map table first), get_or-map first table i d (get_or table i d).0 low);
  weights = λ worth. refl;
}

Both_self : {X : Type 0} (R : X → X → Type 0) → ((x : X) → R x x) → (xs : List X) → Both R xs xs
Both_self R f [] = tt
Both_self R f (x ∷ xs) = (f x, Both_self R f xs)

task_self : (task : Task) → IsLater task task
task_self task = record { offset = refl; period = refl; deadline = refl; cycle = Both_self IsMovedUp moved_self task.cycle }

-- ---- all tasks

module _ (safe : ReductionIsSafe) (k : ℕ) (counts : List Count) where
  later_task : (task : Task) → HasTable (AtMost k) counts task → IsLater (with_counted Every counts task) (with_counted (AtMost k) counts task)
  later_task task has = by (list_any (is_of task.name) counts) has
    where
      by : (b : Bool) → (b ≡ true → CanReduce k (counted task.name counts)) →
          IsLater (if b then record task { cycle = counted task.name counts ∷ [] } else task) (if b then record task { cycle = reduced (counted task.name counts) k ∷ [] } else task)
      by true can = let is : CanReduce k (counted task.name counts) = can refl in record { offset = refl; period = refl; deadline = refl; cycle = ((safe (counted task.name counts) k is.wide is.some).moved, tt) }
      by false can = task_self task

  later_tasks : (tasks : List Task) → Each (HasTable (AtMost k) counts) tasks → Both IsLater (map (with_counted Every counts) tasks) (map (with_counted (AtMost k) counts) tasks)
  later_tasks [] h = tt
  later_tasks (task ∷ tasks) h = (later_task task h.0, later_tasks tasks h.1)

-- the tables as they were counted take time
abbrev TakesTime : Task → Type 0
TakesTime task = Each (λ table. Each (λ pair. 1 ≤ pair.0) table) task.cycle

module _ (counts : List Count) (are : All IsInRange counts) (cap : ℕ) where
  takes_time : (task : Task) → IsTask cap task → TakesTime (with_counted Every counts task)
  takes_time task is = by (list_any (is_of task.name) counts)
    where
      by : (b : Bool) → TakesTime (if b then record task { cycle = counted task.name counts ∷ [] } else task)
      by true = (recursion_from_All (λ (pair : ℕ × ℕ). 1 ≤ pair.0) (counted task.name counts) (positive task.name counts are), tt)
      by false =
          Each-weaker IsTable _ (λ table made. recursion_from_All (λ (pair : ℕ × ℕ). 1 ≤ pair.0) table made.positive_times) task.cycle
          (recursion_from_All IsTable task.cycle is.tables)

  take_time : (tasks : List Task) → Each (IsTask cap) tasks → TakeTime (map (with_counted Every counts) tasks)
  take_time [] h = tt
  take_time (task ∷ tasks) h = (takes_time task h.0, take_time tasks h.1)

pub reduced_are_safe : Relies → ReductionIsSafe → LaterTimesLowerNoChance → ReducedAreSafe
reduced_are_safe relies safe later k sheet bytes some few is h =
    let counts : List Count = counts_in bytes in
    let are : All IsInRange counts = are_in_range (later_records (records_in bytes)) in
    let passed : HasPassed (AtMost k) sheet counts = has_passed (AtMost k) sheet bytes h in
    later (sheet_with sheet bytes).tasks (reduced_sheet k sheet bytes)
    (counted_are_accepted relies (AtMost k) sheet bytes (some, few) is h)
    (later_tasks safe k counts sheet.tasks (recursion_from_All (HasTable (AtMost k) counts) sheet.tasks (have_tables relies (AtMost k) sheet counts (some, few) is are passed.few passed.light)))
    (take_time counts are sheet.settings.cap sheet.tasks (recursion_from_All (IsTask sheet.settings.cap) sheet.tasks is.tasks))
