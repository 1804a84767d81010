-- What a task and its sheet keep where tasks get other tables.
use Rattle.std.proofs.Common.{◌≡◌, ℕ, zero, suc, ◌+◌, ◌*◌, ◌%◌, ◌<◌, ◌≤◌, Bool, ◌||◌, List, [], ◌∷◌, ◌++◌, length, get_or, map, position, All, refl, ap, ap₂, ◌∙◌, arith, le_refl, ◌⊎◌, inl, inr}
use Rattle.std.proofs.lemmas.Bool.{cases_lt}
use Rattle.std.proofs.lemmas.List.Elements.{All-map}
use Rattle.std.specs.List.{list_any, position_or_len}
use Rattle.std.specs.Int.{◌∣◌}
use Rattle.std.proofs.lemmas.List.{get_or-map, length-map, length-append}
use Rattle.std.proofs.Math.Nat.{mod-eq-zero_of_dvd}
use Rattle.prta_sheet.specs.Sheet.{Task, task_at, cycle_ticks, hyperperiod}
use Rattle.prta_sheet.specs.Job.{released_by, released_at, jobs_before}
use Rattle.prta_sheet.proofs.Multiples.{hyperperiod_is_least, whole_periods}

-- ---- lists

module _ {X Y : Type 0} (f : X → Y) (p : Y → Bool) (q : X → Bool) (same : (x : X) → p (f x) ≡ q x) where
  pub list_any-same : (xs : List X) → list_any p (map f xs) ≡ list_any q xs
  list_any-same [] = refl
  list_any-same (x ∷ xs) = ap₂ (λ a b. a || b) (same x) (list_any-same xs)

  position_or_len-same : (xs : List X) → position_or_len p (map f xs) ≡ position_or_len q xs
  position_or_len-same [] = refl
  position_or_len-same (x ∷ xs) = rw (same x, position_or_len-same xs) refl

  pub position-same : (xs : List X) → position p (map f xs) ≡ position q xs
  position-same xs = rw (position_or_len-same xs, length-map xs f) refl

-- ---- tasks

-- a change of tasks that leaves all but the tables, and makes no cycle longer than one table
pub record Keeps (f : Task → Task) : Type 0 where
  pub name : (task : Task) → (f task).name ≡ task.name
  pub offset : (task : Task) → (f task).offset ≡ task.offset
  pub period : (task : Task) → (f task).period ≡ task.period
  pub deadline : (task : Task) → (f task).deadline ≡ task.deadline
  pub allow : (task : Task) → (f task).allow ≡ task.allow
  pub cycle : (task : Task) → ((f task).cycle ≡ task.cycle) ⊎ (length (f task).cycle ≡ 1)

module _ (f : Task → Task) (keeps : Keeps f) where
  pub task_at-map : (tasks : List Task) (k : ℕ) → k < length tasks → task_at (map f tasks) k ≡ f (task_at tasks k)
  task_at-map tasks k low = get_or-map f tasks k _ _ low

  -- ---- the jobs

  released_same : (i : ℕ) (task : Task) (t : ℕ) → released_by i (f task) t ≡ released_by i task t
  released_same i task t = rw (keeps.offset task, keeps.period task) refl

  released_all : (i : ℕ) (tasks : List Task) (t : ℕ) → released_at i (map f tasks) t ≡ released_at i tasks t
  released_all i [] t = refl
  released_all i (task ∷ tasks) t = ap₂ (λ xs ys. xs ++ ys) (released_same i task t) (released_all (i + 1) tasks t)

  pub jobs_same : (tasks : List Task) (t : ℕ) → jobs_before (map f tasks) t ≡ jobs_before tasks t
  jobs_same tasks zero = refl
  jobs_same tasks (suc t) = ap₂ (λ xs ys. xs ++ ys) (jobs_same tasks t) (released_all 0 tasks t)

  -- ---- the hyperperiod

  ticks_divide : (h : ℕ) (task : Task) → h % cycle_ticks task ≡ 0 → task.period ∣ h → h % cycle_ticks (f task) ≡ 0
  ticks_divide h task whole divides = by (keeps.cycle task)
    where
      by : ((f task).cycle ≡ task.cycle) ⊎ (length (f task).cycle ≡ 1) → h % cycle_ticks (f task) ≡ 0
      by (inl same) = ap₂ (λ p c. h % (p * length c)) (keeps.period task) same ∙ whole
      by (inr one) =
          let ticks : cycle_ticks (f task) ≡ task.period = ap₂ (λ p n. p * n) (keeps.period task) one ∙ omega arith in
          ap (λ n. h % n) ticks ∙ mod-eq-zero_of_dvd task.period divides

  module _ (tasks : List Task) (ticks : All (λ task. 1 ≤ cycle_ticks task) tasks) (new_ticks : All (λ task. 1 ≤ cycle_ticks task) (map f tasks)) where
    pub no_longer : hyperperiod (map f tasks) ≤ hyperperiod tasks
    no_longer =
        let old = hyperperiod_is_least tasks ticks in
        (hyperperiod_is_least (map f tasks) new_ticks).least (hyperperiod tasks) old.positive
        (All-map (λ (task : Task). hyperperiod tasks % cycle_ticks task ≡ 0) f tasks (λ k d low. ticks_divide (hyperperiod tasks) (get_or tasks k d) (old.multiple k d low) (whole_periods tasks ticks k d low)))

-- ---- more jobs before a later time

pub jobs_rise : (tasks : List Task) (s t : ℕ) → s ≤ t → length (jobs_before tasks s) ≤ length (jobs_before tasks t)
jobs_rise tasks s zero h = let none : s ≡ 0 = omega arith in rw none (le_refl _)
jobs_rise tasks s (suc t) h =
    elim (cases_lt t s) [
      | inl all ↦ let same : s ≡ suc t = omega arith in rw same (le_refl _)
      | inr fewer ↦ omega (arith, jobs_rise tasks s t fewer, length-append (jobs_before tasks t) (released_at 0 tasks t))
    ]
