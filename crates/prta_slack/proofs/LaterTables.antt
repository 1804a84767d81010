-- Ticks that are added to a task move its tables to later times.
use Rattle.std.proofs.Common.{◌≡◌, ℕ, zero, suc, ◌+◌, ◌-◌, ◌*◌, ◌<◌, ◌≤◌, List, [], ◌∷◌, length, get_or, set, map, sum_by, refl, ap, ◌∙◌, subst, arith}
use Rattle.std.proofs.lemmas.List.{length-map, get_or-map}
use Rattle.std.proofs.lemmas.List.Sums.{sum_by-cons}
use Rattle.prta_mass.specs.Table.{Table}
use Rattle.prta_mass.specs.Added.{with_added}
use Rattle.prta_mass.proofs.AddedTicks.{later, added_none}
use Rattle.prta_fewpoints.specs.Laws.{IsMovedUp}
use Rattle.prta_sheet.specs.Sheet.{Task, task_at}
use Rattle.prta_sheet.specs.Added.{task_with_added, tasks_with_added}
use Rattle.prta_times.specs.LaterTimes.{Both, IsLater}

-- more ticks move each time further
table_moves : (s t : ℕ) → s ≤ t → (table : Table) → IsMovedUp (with_added table s) (with_added table t)
table_moves s t le table = record {
  to = λ c. c + (t - s);
  up = λ i d low. omega arith;
  lands = λ i d low.
      let time : ℕ × ℕ → ℕ = λ pair. pair.0 in
      let size : length (with_added table s) ≡ length table = length-map table (later s) in
      let other : length (with_added table t) ≡ length table = length-map table (later t) in
      let place : i < length table = omega arith in
      let from : get_or (with_added table s) i d ≡ later s (get_or table i d) = get_or-map (later s) table i d d place in
      let to : get_or (with_added table t) i d ≡ later t (get_or table i d) = get_or-map (later t) table i d d place in
      let target : ℕ = (get_or (with_added table s) i d).0 + (t - s) in (
        i,
        omega (arith, length-map (with_added table t) time),
        get_or-map time (with_added table t) i d target (omega arith) ∙ omega (arith, ap time from, ap time to),
      );
  weights = weighs table;
}
  where
    weighs : (table : Table) (worth : ℕ → ℕ) → sum_by (λ pair. pair.1 * worth pair.0) (with_added table t) ≡ sum_by (λ pair. pair.1 * worth (pair.0 + (t - s))) (with_added table s)
    weighs [] worth = refl
    weighs (pair ∷ table) worth =
        let same : pair.1 * worth (pair.0 + t) ≡ pair.1 * worth (pair.0 + s + (t - s)) = ap (λ c. pair.1 * worth c) (omega arith) in
        omega (
          arith,
          sum_by-cons (λ (p : ℕ × ℕ). p.1 * worth p.0) (later t pair) (with_added table t),
          sum_by-cons (λ (p : ℕ × ℕ). p.1 * worth (p.0 + (t - s))) (later s pair) (with_added table s),
          weighs table worth,
          same,
        )

-- no ticks leave it
table_stays : (table : Table) → IsMovedUp table table
table_stays table = subst (λ (x : Table). IsMovedUp x x) (added_none table) (table_moves 0 0 (omega arith) table)

both_mapped : {X Y : Type 0} (R : Y → Y → Type 0) (f g : X → Y) → ((x : X) → R (f x) (g x)) → (xs : List X) → Both R (map f xs) (map g xs)
both_mapped R f g each [] = tt
both_mapped R f g each (x ∷ xs) = (each x, both_mapped R f g each xs)

both_same : {X : Type 0} (R : X → X → Type 0) → ((x : X) → R x x) → (xs : List X) → Both R xs xs
both_same R each [] = tt
both_same R each (x ∷ xs) = (each x, both_same R each xs)

both_set : {X : Type 0} (R : X → X → Type 0) → ((x : X) → R x x) → (xs : List X) (i : ℕ) (y z : X) → R y z → Both R (set xs i y) (set xs i z)
both_set R each [] i y z h = tt
both_set R each (x ∷ xs) zero y z h = (h, both_same R each xs)
both_set R each (x ∷ xs) (suc i) y z h = (each x, both_set R each xs i y z h)

task_stays : (task : Task) → IsLater task task
task_stays task = record { offset = refl; period = refl; deadline = refl; cycle = both_same IsMovedUp table_stays task.cycle }

pub tasks_later : (tasks : List Task) (i s t : ℕ) → s ≤ t → Both IsLater (tasks_with_added tasks i s) (tasks_with_added tasks i t)
tasks_later tasks i s t le =
    let own : Task = task_at tasks i in
    both_set IsLater task_stays tasks i (task_with_added own s) (task_with_added own t)
    record {
      offset = refl;
      period = refl;
      deadline = refl;
      cycle = both_mapped IsMovedUp (λ (table : Table). with_added table s) (λ (table : Table). with_added table t) (table_moves s t le) own.cycle;
    }
