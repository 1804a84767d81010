-- Parts that are in their ranges.
use Rattle.std.proofs.Common.{◌≡◌, ℕ, ◌-◌, ◌^◌, ◌<◌, ◌≤◌, Bool, false, not, ◌&&◌, nat_le, nat_lt, Option, Some, None, List, [], ◌∷◌, length, get_or, position, All, refl, subst, arith, inl, inr, le_refl}
use Rattle.std.specs.List.{list_any, position_or_len, range_with_len}
use Rattle.std.proofs.lemmas.Bool.{cases_Bool}
use Rattle.std.proofs.lemmas.Bool.Decides.{nat_tests}
use Rattle.std.proofs.lemmas.List.{get_or_default}
use Rattle.std.proofs.lemmas.List.Folds.{list_any_at}
use Rattle.std.proofs.lemmas.List.Sums.{fails_before_first, position_or_len_is}
use Rattle.prta_mass.specs.Table.{Table, greatest}
use Rattle.prta_mass.specs.declared.support.Support.{Support}
use Rattle.prta_sheet.specs.declared.settings.Settings.{Settings}
use Rattle.prta_sheet.specs.declared.limits.TheConstants.{CYCLE_LIMIT, TIME_LIMIT, PERIOD_LIMIT}
use Rattle.prta_sheet.specs.declared.fault.Key.{Key}
use Rattle.prta_sheet.specs.declared.fault.Key.TheVariants as key
use Rattle.prta_sheet.specs.declared.fault.Place.{Place}
use Rattle.prta_sheet.specs.declared.fault.Place.TheVariants as place
use Rattle.prta_sheet.specs.declared.fault.SheetFault.{SheetFault}
use Rattle.prta_sheet.specs.Sheet.{Task, Sheet, task_at}
use Rattle.prta_sheet.specs.Accepted.{AreSettings, IsSupport, IsAllowance}
use Rattle.prta_sheet.specs.DocumentConditions.{first_of}
use Rattle.prta_sheet.specs.SheetConditions.{in_range, support_ranges, settings_ranges, has_long_time, cycle_range, allow_range, task_ranges, part_ranges}
use Rattle.prta_sheet.proofs.FirstOf.{first_none, next_none, when_none, none_in_range}

-- ---- lists

module _ {X : Type 0} where
  -- what holds at each place holds of each element
  pub All_from_places : (P : X → Type 0) (xs : List X) (e : X) → ((k : ℕ) → k < length xs → P (get_or xs k e)) → All P xs
  All_from_places P xs e h = λ k d low. subst P (get_or_default xs k e d low) (h k low)

  -- where no element passes, each fails
  pub fails_at : (p : X → Bool) (xs : List X) → list_any p xs ≡ false → All (λ x. p x ≡ false) xs
  fails_at p xs h = λ k d low. elim (cases_Bool (p (get_or xs k d))) [
    | inl passes ↦ let some = list_any_at p xs k d low passes in cc
    | inr fails ↦ fails
  ]

  pub position_fails : (p : X → Bool) (xs : List X) → position p xs ≡ None → All (λ x. p x ≡ false) xs
  position_fails p xs h = λ k d low. fails_before_first p xs k d (grind (arith, nat_tests))

  pub no_position : (p : X → Bool) (xs : List X) → All (λ x. p x ≡ false) xs → position p xs ≡ None
  no_position p [] h = refl
  no_position p (x ∷ xs) h =
      let past : position_or_len p (x ∷ xs) ≡ length (x ∷ xs) = position_or_len_is p (x ∷ xs) (length (x ∷ xs)) x (le_refl _) (λ k low. h k x low) (λ low. absurd (omega arith)) in
      let none : nat_lt (position_or_len p (x ∷ xs)) (length (x ∷ xs)) ≡ false = grind (arith, nat_tests) in
      rw none refl

-- ---- numbers

pub within : (low high n : ℕ) → not (nat_le low n && nat_le n high) ≡ false → (low ≤ n) × (n ≤ high)
within low high n h = (grind (arith, nat_tests), grind (arith, nat_tests))

pub within_range : (at : Place) (k : Key) (low high n : ℕ) → in_range at k low high n ≡ None → (low ≤ n) × (n ≤ high)
within_range at k low high n h = within low high n (when_none _ _ h)

-- ---- settings

is_support : (support : Option Support) → support_ranges support ≡ None → IsSupport support
is_support None h = tt
is_support (Some support) h =
    let fine = within_range place.Support key.Fine 0 16383 support.fine (first_none _ (in_range place.Support key.Step 1 16384 support.step) h) in
    let step = within_range place.Support key.Step 1 16384 support.step (next_none (in_range place.Support key.Fine 0 16383 support.fine) _ h) in
    record { fine = fine.1; step_low = step.0; step_high = step.1 }

pub are_settings : (settings : Settings) → settings_ranges settings ≡ None → AreSettings settings
are_settings settings h =
    let cap = within_range place.Top key.Cap 3 16384 settings.cap (first_none _ _ h) in
    let after_cap = next_none (in_range place.Top key.Cap 3 16384 settings.cap) _ h in
    let hyperperiods = within_range place.Top key.Hyperperiods 1 64 settings.hyperperiods (first_none _ _ after_cap) in
    let after_hyperperiods = next_none (in_range place.Top key.Hyperperiods 1 64 settings.hyperperiods) _ after_cap in
    let turns = within_range place.Top key.Turns 0 64 settings.turns (first_none _ _ after_hyperperiods) in
    let support = next_none (in_range place.Top key.Turns 0 64 settings.turns) (support_ranges settings.support) after_hyperperiods in
    record {
      cap_low = cap.0;
      cap_high = cap.1;
      hyperperiods_low = hyperperiods.0;
      hyperperiods_high = hyperperiods.1;
      turns = turns.1;
      support = is_support settings.support support;
    }

-- ---- tasks

-- the ranges of a task
pub record IsInRanges (task : Task) : Type 0 where
  pub offset : task.offset ≤ 999999
  pub period_low : 1 ≤ task.period
  pub period_high : task.period ≤ PERIOD_LIMIT
  pub deadline_low : 1 ≤ task.deadline
  pub deadline_high : task.deadline ≤ PERIOD_LIMIT
  pub cycle_low : 1 ≤ length task.cycle
  pub cycle_high : length task.cycle ≤ CYCLE_LIMIT
  pub times : All (λ table. has_long_time table ≡ false) task.cycle
  pub allow : IsAllowance task.allow

allowance : (p q : ℕ) → not ((nat_le 1 q && nat_le q (10 ^ 18)) && nat_le p q) ≡ false → IsAllowance (p, q)
allowance p q h = record { part = grind (arith, nat_tests); whole_low = grind (arith, nat_tests); whole_high = grind (arith, nat_tests) }

pub is_in_ranges : (i : ℕ) (task : Task) → task_ranges i task ≡ None → IsInRanges task
is_in_ranges i task h =
    let offset = within_range (place.Task i) key.Offset 0 999999 task.offset (first_none _ _ h) in
    let after_offset = next_none (in_range (place.Task i) key.Offset 0 999999 task.offset) _ h in
    let period = within_range (place.Task i) key.Period 1 1000000 task.period (first_none _ _ after_offset) in
    let after_period = next_none (in_range (place.Task i) key.Period 1 1000000 task.period) _ after_offset in
    let deadline = within_range (place.Task i) key.Deadline 1 1000000 task.deadline (first_none _ _ after_period) in
    let after_deadline = next_none (in_range (place.Task i) key.Deadline 1 1000000 task.deadline) _ after_period in
    let cycle = first_none (cycle_range i task.cycle) (allow_range i task.allow) after_deadline in
    let allow = next_none (cycle_range i task.cycle) (allow_range i task.allow) after_deadline in
    let size = within_range (place.Task i) key.Cycle 1 CYCLE_LIMIT (length task.cycle) (first_none _ _ cycle) in
    let times = next_none (in_range (place.Task i) key.Cycle 1 CYCLE_LIMIT (length task.cycle)) _ cycle in
    record {
      offset = offset.1;
      period_low = period.0;
      period_high = period.1;
      deadline_low = deadline.0;
      deadline_high = deadline.1;
      cycle_low = size.0;
      cycle_high = size.1;
      times = fails_at has_long_time task.cycle (when_none _ _ times);
      allow = allowance task.allow.0 task.allow.1 (when_none _ _ allow);
    }

-- the greatest time is one of the times
pub greatest_within : (table : Table) → 0 < length table → has_long_time table ≡ false → greatest table ≤ TIME_LIMIT
greatest_within table some times =
    let last = fails_at (λ (pair : ℕ × ℕ). nat_lt TIME_LIMIT pair.0) table times (length table - 1) (0, 0) (omega arith) in grind (arith, nat_tests)

-- ---- a sheet

module _ (sheet : Sheet) (h : part_ranges sheet ≡ None) where
  abbrev ranges_at : ℕ → Option SheetFault
  ranges_at i = task_ranges i (task_at sheet.tasks i)

  pub settings_within : AreSettings sheet.settings
  settings_within = are_settings sheet.settings (first_none (settings_ranges sheet.settings) (first_of ranges_at (range_with_len 0 (length sheet.tasks))) h)

  pub tasks_within : All IsInRanges sheet.tasks
  tasks_within =
      let silent = next_none (settings_ranges sheet.settings) (first_of ranges_at (range_with_len 0 (length sheet.tasks))) h in
      All_from_places IsInRanges sheet.tasks _ (λ k low. is_in_ranges k (task_at sheet.tasks k) (none_in_range ranges_at 0 (length sheet.tasks) k silent (omega arith) (omega arith)))
