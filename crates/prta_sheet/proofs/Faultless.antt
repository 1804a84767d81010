-- Accepted sheets have no fault.
use Rattle.std.proofs.Common.{◌≡◌, ℕ, ◌+◌, ◌-◌, ◌^◌, ◌<◌, ◌≤◌, Bool, false, not, ◌&&◌, nat_le, nat_lt, Option, Some, None, List, length, get_or, take, All, bytes_eq, refl, ap, ◌∙◌, arith, inl, inr}
use Rattle.std.proofs.lemmas.Bool.{or_from, cases_Bool, cases_lt, le-ltb, lt-leb}
use Rattle.std.proofs.lemmas.Bool.Decides.{nat_tests}
use Rattle.std.proofs.lemmas.List.{get_or_default, get_or-take, get_or-map, length-map, length-take-le}
use Rattle.std.proofs.lemmas.List.Folds.{list_any_none}
use Rattle.std.proofs.lemmas.List.Kept.{AllPairs-from_increasing}
use Rattle.std.proofs.lemmas.Slice.Eq.{bytes_eq-Decides}
use Rattle.prta_mass.specs.Table.{Table, IsTable, greatest, times, when, FaultlessPairs}
use Rattle.prta_mass.specs.declared.support.Support.{Support}
use Rattle.prta_sheet.specs.declared.settings.Settings.{Settings}
use Rattle.prta_sheet.specs.declared.limits.TheConstants.{TIME_LIMIT}
use Rattle.prta_sheet.specs.declared.fault.Key.{Key}
use Rattle.prta_sheet.specs.declared.fault.Place.{Place}
use Rattle.prta_sheet.specs.declared.fault.SheetFault.TheVariants as fault
use Rattle.prta_sheet.specs.Sheet.{Task, Sheet, task_at}
use Rattle.prta_sheet.specs.Accepted.{is_good_name, HaveOwnNames, IsSupport, IsAllowance, AreSettings, IsTask, IsAccepted}
use Rattle.prta_sheet.specs.SheetConditions.{in_range, support_ranges, settings_ranges, has_long_time, cycle_range, allow_range, task_ranges, part_ranges, task_count, has_name, is_bad_at, name_fault_at, name_fault, offset_fault, deadline_fault, part_fault}
use Rattle.prta_sheet.proofs.FirstOf.{both_none, when_false, none_mapped, none_of_range, none_below}
use Rattle.prta_sheet.proofs.Ranges.{no_position}
use Rattle.prta_sheet.proofs.Accepts.{head_of, no_fault}

-- ---- tables

-- each time is at most the last one
no_later_time : (pairs : Table) → IsTable pairs → (k : ℕ) (d : ℕ × ℕ) → k < length pairs → (get_or pairs k d).0 ≤ greatest pairs
no_later_time pairs is k d low =
    let time : ℕ × ℕ → ℕ = λ pair. pair.0 in
    let size : length (times pairs) ≡ length pairs = length-map pairs time in
    let here = get_or-map time pairs k d 0 low in
    let last = get_or-map time pairs (length pairs - 1) (0, 0) 0 (omega arith) in
    elim (cases_lt k (length pairs - 1)) [
      | inl before ↦
          let less = AllPairs-from_increasing (times pairs) is.increasing k (length pairs - 1) 0 before (omega arith) in
          let earlier = rw (here, last) at less in
          omega arith
      | inr past ↦
          let same : k ≡ length pairs - 1 = omega arith in
          omega (arith, ap (λ i. (get_or pairs i (0, 0)).0) same, ap time (get_or_default pairs k d (0, 0) low))
    ]

no_long_time : (pairs : Table) → IsTable pairs → greatest pairs ≤ TIME_LIMIT → has_long_time pairs ≡ false
no_long_time pairs is limit = list_any_none (λ (pair : ℕ × ℕ). nat_lt TIME_LIMIT pair.0) pairs (λ k d low. let within = no_later_time pairs is k d low in le-ltb _ _ (omega arith))

-- ---- ranges

in_range_none : (at : Place) (key : Key) (low high n : ℕ) → low ≤ n → n ≤ high → in_range at key low high n ≡ None
in_range_none at key low high n above below = when_false _ _ (grind (arith, nat_tests))

support_none : (support : Option Support) → IsSupport support → support_ranges support ≡ None
support_none None is = refl
support_none (Some support) is = both_none _ _ (in_range_none _ _ 0 16383 support.fine (omega arith) is.fine) (in_range_none _ _ _ _ _ is.step_low is.step_high)

settings_none : (settings : Settings) → AreSettings settings → settings_ranges settings ≡ None
settings_none settings are =
    both_none _ _ (in_range_none _ _ _ _ _ are.cap_low are.cap_high)
    (both_none _ _ (in_range_none _ _ _ _ _ are.hyperperiods_low are.hyperperiods_high)
    (both_none _ _ (in_range_none _ _ 0 64 settings.turns (omega arith) are.turns)
    (support_none settings.support are.support)))

allow_none : (p q : ℕ) → IsAllowance (p, q) → not ((nat_le 1 q && nat_le q (10 ^ 18)) && nat_le p q) ≡ false
allow_none p q is = let a = is.part in let b = is.whole_low in let c = is.whole_high in grind (arith, nat_tests)

ranges_none : (high i : ℕ) (task : Task) → high ≤ 16384 → IsTask high task → task_ranges i task ≡ None
ranges_none high i task small is =
    let offset = is.offset in
    let period = is.period_high in
    let deadline = is.deadline_high in
    both_none _ _ (in_range_none _ _ 0 999999 task.offset (omega arith) (omega arith))
    (both_none _ _ (in_range_none _ _ _ _ _ is.period_low is.period_high)
    (both_none _ _ (in_range_none _ _ 1 1000000 task.deadline is.deadline_low (omega arith))
    (both_none (cycle_range i task.cycle) (allow_range i task.allow)
    (both_none _ _ (in_range_none _ _ _ _ _ is.cycle_low is.cycle_high)
    (when_false _ _ (list_any_none has_long_time task.cycle (λ j e l. no_long_time (get_or task.cycle j e) (is.tables j e l) (is.times j e l)))))
    (when_false _ _ (allow_none task.allow.0 task.allow.1 is.allow)))))

-- ---- names

module _ (cap : ℕ) (tasks : List Task) (are : All (IsTask cap) tasks) (own : HaveOwnNames tasks) where
  names_pass : (i : ℕ) → i < length tasks → is_bad_at tasks i ≡ false
  names_pass i low =
      or_from (not (is_good_name (task_at tasks i).name)) (has_name (take i tasks) (task_at tasks i).name)
      (ap not (are i _ low).name)
      (list_any_none (λ (task : Task). bytes_eq task.name (task_at tasks i).name) (take i tasks) others)
    where
      others : All (λ task. bytes_eq task.name (task_at tasks i).name ≡ false) (take i tasks)
      others k d below =
          let size : length (take i tasks) ≡ i = length-take-le i tasks (omega arith) in
          let before : k < i = omega arith in
          let here : get_or (take i tasks) k d ≡ task_at tasks k = get_or-take i tasks k d before ∙ get_or_default tasks k _ _ (omega arith) in
          let test : Task → Bool = λ task. bytes_eq task.name (task_at tasks i).name in
          ap test here ∙ elim (cases_Bool (test (task_at tasks k))) [
            | inl equal ↦ absurd (own k i before low ((bytes_eq-Decides (task_at tasks k).name (task_at tasks i).name).0 equal))
            | inr differs ↦ differs
          ]

-- ---- a sheet

pub faultless : FaultlessPairs → (sheet : Sheet) → IsAccepted sheet → part_fault sheet ≡ None
faultless makes sheet is =
    let tasks : List Task = sheet.tasks in
    let cap : ℕ = sheet.settings.cap in
    let ranges : part_ranges sheet ≡ None = both_none (settings_ranges sheet.settings) _ (settings_none sheet.settings is.settings)
    (none_of_range (λ i. task_ranges i (task_at tasks i)) 0 (length tasks) (λ k low high. ranges_none cap k (task_at tasks k) is.settings.cap_high (is.tasks k _ (omega arith)))) in
    let some = is.some in
    let few = is.few in
    let count : task_count tasks ≡ None = when_false _ _ (grind (arith, nat_tests)) in
    let names : name_fault tasks ≡ None = none_mapped (name_fault_at tasks) _ (none_below (λ i. when (is_bad_at tasks i) i) (length tasks) (λ k low. when_false (is_bad_at tasks k) k (names_pass cap tasks is.tasks is.names k low))) in
    let offsets : offset_fault tasks ≡ None = none_mapped fault.OffsetNotBelowPeriod _ (no_position (λ (task : Task). nat_le task.period task.offset) tasks (λ k d low. lt-leb _ _ (is.tasks k d low).offset)) in
    let head : head_of tasks ≡ None = both_none (task_count tasks) _ count (both_none (name_fault tasks) _ names offsets) in
    let deadlines : deadline_fault cap tasks ≡ None = none_mapped fault.DeadlineNotBelowCap _ (no_position (λ (task : Task). nat_lt cap (task.deadline + 2)) tasks (λ k d low. le-ltb _ _ (is.tasks k d low).deadline_high)) in
    no_fault sheet ranges head (λ k d low j e l. (makes (get_or (get_or tasks k d).cycle j e)).1 ((is.tasks k d low).tables j e l)) deadlines is.short_hyperperiod is.jobs is.work
