-- The sheet with counted tables, of an accepted one, has no fault but that of its work.
use Rattle.std.proofs.Common.{◌≡◌, ℕ, ◌+◌, ◌<◌, ◌≤◌, Bool, true, false, not, ◌&&◌, ◌||◌, nat_le, nat_lt, if◌then◌else◌, Option, Some, None, option_map, List, [], ◌∷◌, length, get_or, take, map, All, bytes_eq, refl, ap, ap₂, sym, ◌∙◌, arith, ◌⊎◌, inl, inr}
use Rattle.std.specs.List.{list_any, range_with_len}
use Rattle.std.proofs.lemmas.Bool.{le-ltb, ltb-false}
use Rattle.std.proofs.lemmas.List.{length-map, take-map}
use Rattle.std.proofs.lemmas.List.Elements.{All-map, All-from_recursion}
use Rattle.std.proofs.lemmas.List.Folds.{list_any_none}
use Rattle.std.proofs.Math.Nat.{mul-le-mul_left, one-le-mul}
use Rattle.prta_mass.specs.Table.{Table, or_else, when, fault_of, total}
use Rattle.prta_mass.specs.declared.table.TheConstants.{TOTAL_LIMIT}
use Rattle.prta_sheet.specs.declared.limits.TheConstants.{TASK_LIMIT, CYCLE_LIMIT, TIME_LIMIT, PERIOD_LIMIT, JOB_LIMIT, WORK_LIMIT}
use Rattle.prta_sheet.specs.declared.fault.Key.TheVariants as key
use Rattle.prta_sheet.specs.declared.fault.Place.TheVariants as place
use Rattle.prta_sheet.specs.declared.fault.SheetFault.{SheetFault}
use Rattle.prta_sheet.specs.declared.fault.SheetFault.TheVariants as fault
use Rattle.prta_sheet.specs.Sheet.{Task, Sheet, task_at, cycle_ticks, hyperperiod, horizon}
use Rattle.prta_sheet.specs.Counts.{all_jobs}
use Rattle.prta_sheet.specs.Work.{work}
use Rattle.prta_sheet.specs.Accepted.{is_good_name, IsAccepted}
use Rattle.prta_sheet.specs.DocumentConditions.{first_of}
use Rattle.prta_sheet.specs.SheetConditions.{in_range, settings_ranges, has_long_time, cycle_range, allow_range, task_ranges, part_ranges, task_count, has_name, is_bad_at, first_bad_name, name_fault_at, name_fault, offset_fault, deadline_fault, part_fault}
use Rattle.prta_sheet.proofs.FirstOf.{first_none, next_none, both_none, when_none, when_false, map_none, none_mapped, none_of_range, none_in_range, none_below}
use Rattle.prta_sheet.proofs.Ranges.{position_fails, no_position}
use Rattle.prta_sheet.proofs.Accepts.{head_of, head_parts, TablesAreMade, by_parts, much_work, no_fault}
use Rattle.prta_sheet.proofs.Faultless.{faultless}
use Rattle.prta_times.specs.Counts.{Count, is_of, counted, with_counted, counted_sheet, too_many_points, total_too_large}
use Rattle.prta_times.specs.declared.points.Points.{Points}
use Rattle.prta_times.specs.Points.{most_times, table_by}
use Rattle.prta_times.specs.Parts.{IsInRange, CanAsk, CanMake, HasTable}
use Rattle.prta_times.proofs.InRange.{good_points, makes_points}
use Rattle.prta_times.proofs.Making.{Relies, made_table, made_short}
use Rattle.prta_times.proofs.Kept.{Keeps, list_any-same, position-same, task_at-map, jobs_same, no_longer, jobs_rise}

-- ---- what tasks keep

pub with_counted_keeps : (points : Points) (counts : List Count) → Keeps (with_counted points counts)
with_counted_keeps points counts = record {
  name = λ task. name_by task (list_any (is_of task.name) counts);
  offset = λ task. offset_by task (list_any (is_of task.name) counts);
  period = λ task. period_by task (list_any (is_of task.name) counts);
  deadline = λ task. deadline_by task (list_any (is_of task.name) counts);
  allow = λ task. allow_by task (list_any (is_of task.name) counts);
  cycle = λ task. cycle_by task (list_any (is_of task.name) counts);
}
  where
    name_by : (task : Task) (b : Bool) → (if b then record task { cycle = table_by points (counted task.name counts) ∷ [] } else task).name ≡ task.name
    name_by task true = refl
    name_by task false = refl

    offset_by : (task : Task) (b : Bool) → (if b then record task { cycle = table_by points (counted task.name counts) ∷ [] } else task).offset ≡ task.offset
    offset_by task true = refl
    offset_by task false = refl

    period_by : (task : Task) (b : Bool) → (if b then record task { cycle = table_by points (counted task.name counts) ∷ [] } else task).period ≡ task.period
    period_by task true = refl
    period_by task false = refl

    deadline_by : (task : Task) (b : Bool) → (if b then record task { cycle = table_by points (counted task.name counts) ∷ [] } else task).deadline ≡ task.deadline
    deadline_by task true = refl
    deadline_by task false = refl

    allow_by : (task : Task) (b : Bool) → (if b then record task { cycle = table_by points (counted task.name counts) ∷ [] } else task).allow ≡ task.allow
    allow_by task true = refl
    allow_by task false = refl

    cycle_by : (task : Task) (b : Bool) → ((if b then record task { cycle = table_by points (counted task.name counts) ∷ [] } else task).cycle ≡ task.cycle) ⊎ (length (if b then record task { cycle = table_by points (counted task.name counts) ∷ [] } else task).cycle ≡ 1)
    cycle_by task true = inr refl
    cycle_by task false = inl refl

-- ---- the ranges

-- the fourth of five answers is another one that is none
other_fourth : {X : Type 0} (a b c d e other : Option X) → or_else a (or_else b (or_else c (or_else d e))) ≡ None → other ≡ None → or_else a (or_else b (or_else c (or_else other e))) ≡ None
other_fourth (Some x) b c d e other h o = cc
other_fourth None (Some x) c d e other h o = cc
other_fourth None None (Some x) d e other h o = cc
other_fourth None None None d e other h o = both_none other e o (next_none d e h)

one_table : (i : ℕ) (table : Table) → has_long_time table ≡ false → cycle_range i (table ∷ []) ≡ None
one_table i table short = both_none (in_range (place.Task i) key.Cycle 1 CYCLE_LIMIT 1) _ refl (when_false _ _ (rw short refl))

-- ---- the sheet

module _ (relies : Relies) (points : Points) (sheet : Sheet) (counts : List Count) (asked : CanAsk points) (is : IsAccepted sheet) (are : All IsInRange counts) (few : too_many_points points sheet.tasks counts ≡ None) (light : total_too_large sheet.tasks counts ≡ None) where
  abbrev tasks : List Task
  tasks = sheet.tasks

  abbrev with_tables : List Task
  with_tables = map (with_counted points counts) sheet.tasks

  abbrev keeps : Keeps (with_counted points counts)
  keeps = with_counted_keeps points counts

  pub have_tables : All (HasTable points counts) tasks
  have_tables k d low any =
      let task : Task = get_or tasks k d in
      let short : length (counted task.name counts) ≤ most_times points = ltb-false _ _ (position_fails (λ (task : Task). nat_lt (most_times points) (length (counted task.name counts))) tasks few k d low) in
      let weights : total (counted task.name counts) ≤ TOTAL_LIMIT = ltb-false _ _ (position_fails (λ (task : Task). nat_lt TOTAL_LIMIT (total (counted task.name counts))) tasks light k d low) in
      makes_points task.name counts are points asked any short weights

  short_times : (name : List ℕ) → CanMake points (counted name counts) → has_long_time (table_by points (counted name counts)) ≡ false
  short_times name can =
      list_any_none (λ (pair : ℕ × ℕ). nat_lt TIME_LIMIT pair.0) (table_by points (counted name counts))
      (λ k d low. le-ltb _ _ (made_short relies points (counted name counts) can (λ k d low. (good_points name counts are k d low).short) k d low))

  -- ---- the old faults

  old : part_fault sheet ≡ None
  old = faultless relies.makes sheet is

  old_ranges : part_ranges sheet ≡ None
  old_ranges = first_none (part_ranges sheet) _ (sym (by_parts sheet) ∙ old)

  old_head : head_of tasks ≡ None
  old_head = first_none (head_of tasks) _ (next_none (part_ranges sheet) _ (sym (by_parts sheet) ∙ old))

  -- ---- the ranges

  task_kept : (i : ℕ) (task : Task) → HasTable points counts task → task_ranges i task ≡ None → task_ranges i (with_counted points counts task) ≡ None
  task_kept i task has h = by (list_any (is_of task.name) counts) refl
    where
      by : (b : Bool) → list_any (is_of task.name) counts ≡ b → task_ranges i (if b then record task { cycle = table_by points (counted task.name counts) ∷ [] } else task) ≡ None
      by true any = other_fourth (in_range (place.Task i) key.Offset 0 999999 task.offset) (in_range (place.Task i) key.Period 1 1000000 task.period) (in_range (place.Task i) key.Deadline 1 1000000 task.deadline)
          (cycle_range i task.cycle) (allow_range i task.allow) (cycle_range i (table_by points (counted task.name counts) ∷ [])) h (one_table i (table_by points (counted task.name counts)) (short_times task.name (has any)))
      by false any = h

  ranges : part_ranges (counted_sheet points sheet counts) ≡ None
  ranges =
      let each : ℕ → Option SheetFault = λ i. task_ranges i (task_at tasks i) in
      let silent : first_of each (range_with_len 0 (length tasks)) ≡ None = next_none (settings_ranges sheet.settings) _ old_ranges in
      both_none (settings_ranges sheet.settings) _ (first_none (settings_ranges sheet.settings) _ old_ranges)
      (none_of_range (λ i. task_ranges i (task_at with_tables i)) 0 (length with_tables) (λ k low high.
      let here : k < length tasks = omega (arith, high, length-map tasks (with_counted points counts)) in
      ap (task_ranges k) (task_at-map (with_counted points counts) keeps tasks k here) ∙ task_kept k (task_at tasks k) (have_tables k _ here) (none_in_range each 0 (length tasks) k silent (omega arith) (omega arith))))

  -- ---- the count, the names and the offsets

  count : task_count with_tables ≡ None
  count =
      let at : ℕ → Option SheetFault = λ n. when (not (nat_le 1 n && nat_le n TASK_LIMIT)) (fault.TaskCount n) in
      ap at (length-map tasks (with_counted points counts)) ∙ (head_parts tasks old_head).0

  bad_same : (k : ℕ) → k < length tasks → is_bad_at with_tables k ≡ is_bad_at tasks k
  bad_same k low =
      let name : (task_at with_tables k).name ≡ (task_at tasks k).name = ap (λ (task : Task). task.name) (task_at-map (with_counted points counts) keeps tasks k low) ∙ keeps.name (task_at tasks k) in
      let own : List ℕ = (task_at tasks k).name in
      ap (λ n. not (is_good_name n) || has_name (take k with_tables) n) name
      ∙ ap (λ earlier. not (is_good_name own) || has_name earlier own) (take-map (with_counted points counts) k tasks)
      ∙ ap (λ b. not (is_good_name own) || b) (list_any-same (with_counted points counts) (λ (task : Task). bytes_eq task.name own) (λ (task : Task). bytes_eq task.name own) (λ task. ap (λ n. bytes_eq n own) (keeps.name task)) (take k tasks))

  names : name_fault with_tables ≡ None
  names =
      let none : first_bad_name tasks ≡ None = map_none (name_fault_at tasks) (first_bad_name tasks) (head_parts tasks old_head).1 in
      none_mapped (name_fault_at with_tables) _ (none_below (λ i. when (is_bad_at with_tables i) i) (length with_tables) (λ k low.
      let here : k < length tasks = omega (arith, low, length-map tasks (with_counted points counts)) in
      when_false (is_bad_at with_tables k) k (bad_same k here ∙ when_none (is_bad_at tasks k) k (none_in_range (λ i. when (is_bad_at tasks i) i) 0 (length tasks) k none (omega arith) (omega arith)))))

  offsets : offset_fault with_tables ≡ None
  offsets =
      let late : Task → Bool = λ task. nat_le task.period task.offset in
      ap (option_map fault.OffsetNotBelowPeriod) (position-same (with_counted points counts) late late (λ task. ap₂ nat_le (keeps.period task) (keeps.offset task)) tasks) ∙ (head_parts tasks old_head).2

  head : head_of with_tables ≡ None
  head = both_none (task_count with_tables) _ count (both_none (name_fault with_tables) _ names offsets)

  -- ---- the tables

  made : All TablesAreMade with_tables
  made = All-map TablesAreMade (with_counted points counts) tasks (λ k d low. by (get_or tasks k d) (have_tables k d low) (λ j e l. (relies.makes (get_or (get_or tasks k d).cycle j e)).1 ((is.tasks k d low).tables j e l)) (list_any (is_of (get_or tasks k d).name) counts) refl)
    where
      by : (task : Task) → HasTable points counts task → TablesAreMade task → (b : Bool) → list_any (is_of task.name) counts ≡ b → TablesAreMade (if b then record task { cycle = table_by points (counted task.name counts) ∷ [] } else task)
      by task has before true any = All-from_recursion (λ table. fault_of table ≡ None) (table_by points (counted task.name counts) ∷ [])
          ((relies.makes (table_by points (counted task.name counts))).1 (made_table relies points (counted task.name counts) (has any)), tt)
      by task has before false any = before

  -- ---- the deadlines, the hyperperiod and the jobs

  deadlines : deadline_fault sheet.settings.cap with_tables ≡ None
  deadlines =
      let long : Task → Bool = λ task. nat_lt sheet.settings.cap (task.deadline + 2) in
      let before : deadline_fault sheet.settings.cap tasks ≡ None = none_mapped fault.DeadlineNotBelowCap _ (no_position long tasks (λ k d low. le-ltb _ _ (is.tasks k d low).deadline_high)) in
      ap (option_map fault.DeadlineNotBelowCap) (position-same (with_counted points counts) long long (λ task. ap (λ n. nat_lt sheet.settings.cap (n + 2)) (keeps.deadline task)) tasks) ∙ before

  ticks : All (λ task. 1 ≤ cycle_ticks task) tasks
  ticks k d low = one-le-mul (is.tasks k d low).period_low (is.tasks k d low).cycle_low

  new_ticks : All (λ task. 1 ≤ cycle_ticks task) with_tables
  new_ticks = All-map (λ (task : Task). 1 ≤ cycle_ticks task) (with_counted points counts) tasks (λ k d low. by (get_or tasks k d) (is.tasks k d low).period_low (is.tasks k d low).cycle_low (keeps.cycle (get_or tasks k d)))
    where
      by : (task : Task) → 1 ≤ task.period → 1 ≤ length task.cycle → ((with_counted points counts task).cycle ≡ task.cycle) ⊎ (length (with_counted points counts task).cycle ≡ 1) → 1 ≤ cycle_ticks (with_counted points counts task)
      by task period cycle (inl same) = one-le-mul (omega (arith, keeps.period task)) (omega (arith, ap length same))
      by task period cycle (inr one) = one-le-mul (omega (arith, keeps.period task)) (omega arith)

  shorter : hyperperiod with_tables ≤ hyperperiod tasks
  shorter = no_longer (with_counted points counts) keeps tasks ticks new_ticks

  short : hyperperiod with_tables ≤ PERIOD_LIMIT
  short = omega (arith, shorter, is.short_hyperperiod)

  few_jobs : all_jobs (counted_sheet points sheet counts) ≤ JOB_LIMIT
  few_jobs =
      let until : horizon (counted_sheet points sheet counts) ≤ horizon sheet = mul-le-mul_left sheet.settings.hyperperiods shorter in
      omega (arith, ap length (jobs_same (with_counted points counts) keeps tasks (horizon (counted_sheet points sheet counts))), jobs_rise tasks (horizon (counted_sheet points sheet counts)) (horizon sheet) until, is.jobs)

  -- ---- the work alone

  pub none_left : work (counted_sheet points sheet counts) ≤ WORK_LIMIT → part_fault (counted_sheet points sheet counts) ≡ None
  none_left little = no_fault (counted_sheet points sheet counts) ranges head made deadlines short few_jobs little

  pub work_left : WORK_LIMIT < work (counted_sheet points sheet counts) → part_fault (counted_sheet points sheet counts) ≡ Some (fault.TooMuchWork (work (counted_sheet points sheet counts)))
  work_left much = much_work (counted_sheet points sheet counts) ranges head made deadlines short few_jobs (work (counted_sheet points sheet counts)) refl much
