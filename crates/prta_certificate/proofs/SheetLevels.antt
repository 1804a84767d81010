-- The level of a task in the sheet's own order, with the set of the tasks before it.
use Rattle.std.proofs.Common.{◌≡◌, ℕ, zero, suc, ◌+◌, ◌-◌, ◌<◌, ◌≤◌, min, Bool, true, false, ◌||◌, nat_lt, List, length, get_or, ap, ap₂, sym, ◌∙◌, le_refl, arith, inl, inr}
use Rattle.std.specs.List.{range_with_len}
use Rattle.std.proofs.Math.Path.{fun_ext}
use Rattle.std.proofs.lemmas.Bool.{cases_lt, lt-ltb, le-ltb, eq-eqb, ne_eqb}
use Rattle.prta_sheet.specs.Sheet.{Task, Sheet, sheet_order}
use Rattle.prta_sheet.specs.Machine.{place}
use Rattle.prta_sheet.specs.Accepted.{IsTask, IsAccepted}
use Rattle.prta_jobs.specs.TaskSet.{holds}
use Rattle.prta_jobs.specs.Instant.{IsOnSheet}
use Rattle.prta_jobs.proofs.OrderLists.{own_order, is_order_from}
use Rattle.prta_backlog.specs.Level.{has_task, sheet_level}
use Rattle.prta_backlog.specs.Pass.{level_of}
use Rattle.prta_response.specs.Chance.{IsOrderFor}
use Rattle.prta_response.specs.Laws.{IsLevelOf}

module _ (below : List Bool) (task : ℕ) (members : (i : ℕ) → holds below i ≡ nat_lt i task) where
  -- the tasks before one are those below its number
  pub level_below : level_of below task ≡ sheet_level task
  level_below = ap (λ (higher : ℕ → Bool). record { higher = higher; own = task }) (fun_ext members)

  -- and so on the sheet
  pub level_on_sheet : (tasks : List Task) → task < length tasks → IsOnSheet tasks (has_task (level_of below task))
  level_on_sheet tasks listed i held =
      elim (cases_lt i (suc task)) [
        | inl low ↦ omega (arith, listed)
        | inr high ↦
            let none : has_task (level_of below task) i ≡ false = ap₂ (λ a b. a || b) (ne_eqb i task (λ e. omega arith)) (members i ∙ le-ltb i task (omega arith)) in
            absurd (let both : true ≡ false = sym held ∙ none in cc)
      ]

-- on an accepted sheet it is what the laws ask for
pub is_level : (sheet : Sheet) (task : ℕ) → IsAccepted sheet → task < length sheet.tasks → IsLevelOf sheet.tasks (sheet_level task)
is_level sheet task is own = record {
  tables = record {
    some = λ i d low. let each : IsTask sheet.settings.cap (get_or sheet.tasks i d) = is.tasks i d low in each.cycle_low;
    tables = λ i d low. let each : IsTask sheet.settings.cap (get_or sheet.tasks i d) = is.tasks i d low in each.tables;
  };
  periodic = λ i d low. let each : IsTask sheet.settings.cap (get_or sheet.tasks i d) = is.tasks i d low in record { offset = each.offset; deadline = each.deadline_low };
  own = own;
  apart = le-ltb task task (le_refl _);
}

-- ---- the sheet's own order

-- in a range a number stands where it is counted to, or it doesn't stand there
place_in_range : (a n i : ℕ) → a ≤ i → place (range_with_len a n) i ≡ min (i - a) n
place_in_range a zero i from = omega arith
place_in_range a (suc n) i from =
    elim (cases_lt a i) [
      | inl later ↦ rw (ne_eqb a i (λ e. omega arith)) (omega (arith, place_in_range (a + 1) n i (omega arith)))
      | inr here ↦ rw (eq-eqb a i (omega arith)) (omega arith)
    ]

-- exactly the tasks before task i stand above it
pub own_order_fits : (tasks : List Task) (i : ℕ) → i < length tasks → IsOrderFor tasks (sheet_level i) (sheet_order tasks)
own_order_fits tasks i low =
    let n : ℕ = length tasks in
    record {
      permutation = is_order_from n (range_with_len 0 n) (own_order n);
      above = λ j.
          let own : place (sheet_order tasks) i ≡ i = omega (arith, place_in_range 0 n i (omega arith)) in
          let other : place (sheet_order tasks) j ≡ min j n = omega (arith, place_in_range 0 n j (omega arith)) in
          let same : nat_lt j i ≡ nat_lt (min j n) i =
          elim (cases_lt j i) [
            | inl before ↦ lt-ltb j i before ∙ sym (lt-ltb (min j n) i (omega arith))
            | inr after ↦ le-ltb j i after ∙ sym (le-ltb (min j n) i (omega arith))
          ] in
          same ∙ sym (ap₂ nat_lt other own);
    }
