-- Parts with no fault are accepted.
use Rattle.std.proofs.Common.{◌≡◌, ℕ, ◌+◌, ◌<◌, ◌≤◌, Bool, true, false, not, nat_le, nat_lt, Option, Some, None, List, length, get_or, take, position, All, bytes_eq, refl, ap, sym, ◌∙◌, subst, arith}
use Rattle.std.specs.List.{list_any}
use Rattle.std.proofs.lemmas.Bool.{or_parts, lt-ltb, le-ltb, ltb-false}
use Rattle.std.proofs.lemmas.Bool.Decides.{nat_tests}
use Rattle.std.proofs.lemmas.List.{get_or_default, get_or-take, length-take-le}
use Rattle.std.proofs.lemmas.List.Elements.{All-weaker, All-from_recursion, recursion_from_All}
use Rattle.std.proofs.lemmas.List.Folds.{list_any_none}
use Rattle.std.proofs.lemmas.Slice.Eq.{bytes_eq-Decides}
use Rattle.prta_mass.specs.Table.{Table, or_else, when, shape_fault, fault_of, IsTable, FaultlessPairs}
use Rattle.prta_mass.specs.declared.table.TableFault.TheVariants as table_fault_of
use Rattle.prta_sheet.specs.declared.limits.TheConstants.{TASK_LIMIT, PERIOD_LIMIT, JOB_LIMIT, WORK_LIMIT}
use Rattle.prta_sheet.specs.declared.fault.SheetFault.{SheetFault}
use Rattle.prta_sheet.specs.declared.fault.SheetFault.TheVariants as fault
use Rattle.prta_sheet.specs.Sheet.{Task, Sheet, task_at, hyperperiod}
use Rattle.prta_sheet.specs.Counts.{all_jobs}
use Rattle.prta_sheet.specs.Work.{work}
use Rattle.prta_sheet.specs.Accepted.{is_good_name, HaveOwnNames, IsTask, IsAccepted}
use Rattle.prta_sheet.specs.DocumentConditions.{first_of}
use Rattle.prta_sheet.specs.SheetConditions.{part_ranges, task_count, has_name, is_bad_at, first_bad_name, name_fault_at, name_fault, first_late_offset, offset_fault, table_fault_at, table_fault, is_heavy, total_fault, deadline_fault, part_fault}
use Rattle.prta_sheet.proofs.FirstOf.{first_some, past_none, first_none, next_none, both_none, when_none, when_true, when_false, map_none, none_mapped, none_of_range, none_in_range}
use Rattle.prta_sheet.proofs.AllPass.{first_of-each, first_of-none}
use Rattle.prta_sheet.proofs.Ranges.{All_from_places, fails_at, position_fails, no_position, within, IsInRanges, greatest_within, settings_within, tasks_within}

-- the faults of a list of tasks that need no more than the list
abbrev pub head_of : List Task → Option SheetFault
head_of tasks = or_else (task_count tasks) (or_else (name_fault tasks) (offset_fault tasks))

pub head_parts : (tasks : List Task) → head_of tasks ≡ None → (task_count tasks ≡ None) × (name_fault tasks ≡ None) × (offset_fault tasks ≡ None)
head_parts tasks h =
    let past_count = next_none (task_count tasks) (or_else (name_fault tasks) (offset_fault tasks)) h in
    (first_none (task_count tasks) (or_else (name_fault tasks) (offset_fault tasks)) h, first_none (name_fault tasks) (offset_fault tasks) past_count, next_none (name_fault tasks) (offset_fault tasks) past_count)

-- tables that were made
abbrev IsMade : Table → Type 0
IsMade table = fault_of table ≡ None

abbrev pub TablesAreMade : Task → Type 0
TablesAreMade task = All IsMade task.cycle

-- ---- the count, the names and the offsets

module _ (tasks : List Task) where
  pub count_within : task_count tasks ≡ None → (1 ≤ length tasks) × (length tasks ≤ TASK_LIMIT)
  count_within h = within 1 TASK_LIMIT (length tasks) (when_none _ _ h)

  pub early_offsets : offset_fault tasks ≡ None → All (λ task. task.offset < task.period) tasks
  early_offsets h =
      let fails = position_fails (λ (task : Task). nat_le task.period task.offset) tasks (map_none fault.OffsetNotBelowPeriod (first_late_offset tasks) h) in
      λ k d low. let late = fails k d low in grind (arith, nat_tests)

  module _ (h : name_fault tasks ≡ None) where
    -- a name is good, and none of the earlier ones
    name_parts : (i : ℕ) → i < length tasks → (not (is_good_name (task_at tasks i).name) ≡ false) × (has_name (take i tasks) (task_at tasks i).name ≡ false)
    name_parts i low =
        or_parts (not (is_good_name (task_at tasks i).name)) (has_name (take i tasks) (task_at tasks i).name)
        (when_none (is_bad_at tasks i) i (none_in_range (λ k. when (is_bad_at tasks k) k) 0 (length tasks) i (map_none (name_fault_at tasks) (first_bad_name tasks) h) (omega arith) (omega arith)))

    pub good_names : (i : ℕ) → i < length tasks → is_good_name (task_at tasks i).name ≡ true
    good_names i low = not_false (is_good_name (task_at tasks i).name) (name_parts i low).0
      where
        not_false : (b : Bool) → not b ≡ false → b ≡ true
        not_false b e = grind arith

    pub own_names : HaveOwnNames tasks
    own_names i j before low = λ same.
        let size : length (take j tasks) ≡ j = length-take-le j tasks (omega arith) in
        let differs = fails_at (λ (task : Task). bytes_eq task.name (task_at tasks j).name) (take j tasks) (name_parts j low).1 i (task_at tasks i) (omega arith) in
        let here : get_or (take j tasks) i (task_at tasks i) ≡ task_at tasks i = get_or-take j tasks i (task_at tasks i) before ∙ get_or_default tasks i _ _ (omega arith) in
        let equal : bytes_eq (task_at tasks i).name (task_at tasks j).name ≡ true = (bytes_eq-Decides (task_at tasks i).name (task_at tasks j).name).1 same in
        let clash : bytes_eq (task_at tasks i).name (task_at tasks j).name ≡ false = ap (λ (task : Task). bytes_eq task.name (task_at tasks j).name) (sym here) ∙ differs in
        cc

  -- ---- tables

  -- tables that were made have no fault
  pub no_table_fault : All TablesAreMade tasks → table_fault tasks ≡ None
  no_table_fault h = none_of_range (table_fault_at tasks) 0 (length tasks) (λ k low high.
      let cycle : List Table = (task_at tasks k).cycle in
      none_mapped (fault.BadTable k) (first_of shape_fault cycle)
      (first_of-none shape_fault cycle (recursion_from_All (λ table. shape_fault table ≡ None) cycle
      (All-weaker IsMade (λ table. shape_fault table ≡ None) (λ table made. first_none (shape_fault table) _ made) cycle (h k _ (omega arith))))))

  pub no_total_fault : All TablesAreMade tasks → total_fault tasks ≡ None
  no_total_fault h = none_mapped fault.TotalTooLarge (position (λ (task : Task). list_any is_heavy task.cycle) tasks)
      (no_position (λ (task : Task). list_any is_heavy task.cycle) tasks (λ k d low.
      list_any_none is_heavy (get_or tasks k d).cycle
      (All-weaker IsMade (λ table. is_heavy table ≡ false) (λ table made. when_none _ table_fault_of.TotalTooLarge (next_none (shape_fault table) _ made)) (get_or tasks k d).cycle (h k d low))))

  pub made_tables : table_fault tasks ≡ None → total_fault tasks ≡ None → All TablesAreMade tasks
  made_tables shapes totals = All_from_places TablesAreMade tasks _ (λ k low.
      let cycle : List Table = (task_at tasks k).cycle in
      let shaped : All (λ table. shape_fault table ≡ None) cycle =
      All-from_recursion (λ table. shape_fault table ≡ None) cycle
      (first_of-each shape_fault cycle (map_none (fault.BadTable k) _ (none_in_range (table_fault_at tasks) 0 (length tasks) k shapes (omega arith) (omega arith)))) in
      let light : All (λ table. is_heavy table ≡ false) cycle =
      fails_at is_heavy cycle (position_fails (λ (task : Task). list_any is_heavy task.cycle) tasks (map_none fault.TotalTooLarge _ totals) k _ low) in
      λ j d l. both_none (shape_fault (get_or cycle j d)) _ (shaped j d l) (ap (λ b. when b table_fault_of.TotalTooLarge) (light j d l)))

-- ---- the tasks of a sheet

module _ (makes : FaultlessPairs) (sheet : Sheet) (ranges : part_ranges sheet ≡ None) (head : head_of sheet.tasks ≡ None) (tables : All TablesAreMade sheet.tasks) (deadlines : deadline_fault sheet.settings.cap sheet.tasks ≡ None) where
  pub are_tasks : All (IsTask sheet.settings.cap) sheet.tasks
  are_tasks = All_from_places (IsTask sheet.settings.cap) sheet.tasks _ each
    where
      each : (k : ℕ) → k < length sheet.tasks → IsTask sheet.settings.cap (task_at sheet.tasks k)
      each k low =
          let task : Task = task_at sheet.tasks k in
          let parts = head_parts sheet.tasks head in
          let in_ranges : IsInRanges task = tasks_within sheet ranges k _ low in
          let are : All IsTable task.cycle = λ j d l. (makes (get_or task.cycle j d)).0 (tables k _ low j d l) in
          let early : task.offset < task.period = early_offsets sheet.tasks parts.2 k _ low in
          let long : nat_lt sheet.settings.cap (task.deadline + 2) ≡ false =
          position_fails (λ (task : Task). nat_lt sheet.settings.cap (task.deadline + 2)) sheet.tasks (map_none fault.DeadlineNotBelowCap _ deadlines) k _ low in
          record {
            name = good_names sheet.tasks parts.1 k low;
            offset = early;
            period_low = in_ranges.period_low;
            period_high = in_ranges.period_high;
            deadline_low = in_ranges.deadline_low;
            deadline_high = grind (arith, nat_tests);
            cycle_low = in_ranges.cycle_low;
            cycle_high = in_ranges.cycle_high;
            tables = are;
            times = λ j d l. greatest_within (get_or task.cycle j d) (are j d l).some (in_ranges.times j d l);
            allow = in_ranges.allow;
          }

-- ---- the first fault

module _ {X : Type 0} (a b c d : Option X) where
  -- answers one after another, of which the first four are grouped
  regroup : (rest : Option X) → or_else a (or_else b (or_else c (or_else d rest))) ≡ or_else a (or_else (or_else b (or_else c d)) rest)
  regroup rest = ap (or_else a) (three b c d)
    where
      three : (b c d : Option X) → or_else b (or_else c (or_else d rest)) ≡ or_else (or_else b (or_else c d)) rest
      three (Some x) c d = refl
      three None (Some x) d = refl
      three None None d = refl

module _ (sheet : Sheet) where
  abbrev tables_of : Option SheetFault
  tables_of = table_fault sheet.tasks

  abbrev totals_of : Option SheetFault
  totals_of = total_fault sheet.tasks

  abbrev deadlines_of : Option SheetFault
  deadlines_of = deadline_fault sheet.settings.cap sheet.tasks

  abbrev hyperperiod_fault : Option SheetFault
  hyperperiod_fault = when (nat_lt PERIOD_LIMIT (hyperperiod sheet.tasks)) fault.HyperperiodTooLarge

  abbrev jobs_fault : Option SheetFault
  jobs_fault = when (nat_lt JOB_LIMIT (all_jobs sheet)) (fault.TooManyJobs (all_jobs sheet))

  abbrev work_fault : Option SheetFault
  work_fault = when (nat_lt WORK_LIMIT (work sheet)) (fault.TooMuchWork (work sheet))

  -- after the tables
  abbrev pub load_of : Option SheetFault
  load_of = or_else hyperperiod_fault (or_else jobs_fault work_fault)

  abbrev rest_of : Option SheetFault
  rest_of = or_else tables_of (or_else totals_of (or_else deadlines_of load_of))

  pub by_parts : part_fault sheet ≡ or_else (part_ranges sheet) (or_else (head_of sheet.tasks) rest_of)
  by_parts = regroup (part_ranges sheet) (task_count sheet.tasks) (name_fault sheet.tasks) (offset_fault sheet.tasks) rest_of

  module _ (ranges : part_ranges sheet ≡ None) (head : head_of sheet.tasks ≡ None) (made : All TablesAreMade sheet.tasks) where
    -- past the tables the fault is one of the deadlines or of the load
    pub past_tables : part_fault sheet ≡ or_else (deadline_fault sheet.settings.cap sheet.tasks) load_of
    past_tables =
        by_parts
        ∙ past_none (part_ranges sheet) _ ranges
        ∙ past_none (head_of sheet.tasks) _ head
        ∙ past_none tables_of _ (no_table_fault sheet.tasks made)
        ∙ past_none totals_of _ (no_total_fault sheet.tasks made)

    module _ (deadlines : deadline_fault sheet.settings.cap sheet.tasks ≡ None) where
      past_deadlines : part_fault sheet ≡ load_of
      past_deadlines = past_tables ∙ past_none deadlines_of _ deadlines

      pub long_hyperperiod : PERIOD_LIMIT < hyperperiod sheet.tasks → part_fault sheet ≡ Some fault.HyperperiodTooLarge
      long_hyperperiod above = past_deadlines ∙ first_some hyperperiod_fault _ _ (when_true _ _ (lt-ltb _ _ above))

      module _ (short : hyperperiod sheet.tasks ≤ PERIOD_LIMIT) where
        past_hyperperiod : part_fault sheet ≡ or_else jobs_fault work_fault
        past_hyperperiod = past_deadlines ∙ past_none hyperperiod_fault _ (when_false _ _ (le-ltb _ _ short))

        pub many_jobs : (n : ℕ) → n ≡ all_jobs sheet → JOB_LIMIT < n → part_fault sheet ≡ Some (fault.TooManyJobs n)
        many_jobs n is above = past_hyperperiod ∙ first_some jobs_fault _ _ (subst (λ k. when (nat_lt JOB_LIMIT k) (fault.TooManyJobs k) ≡ Some (fault.TooManyJobs n)) is (when_true _ _ (lt-ltb _ _ above)))

        module _ (few : all_jobs sheet ≤ JOB_LIMIT) where
          past_jobs : part_fault sheet ≡ work_fault
          past_jobs = past_hyperperiod ∙ past_none jobs_fault _ (when_false _ _ (le-ltb _ _ few))

          pub much_work : (n : ℕ) → n ≡ work sheet → WORK_LIMIT < n → part_fault sheet ≡ Some (fault.TooMuchWork n)
          much_work n is above = past_jobs ∙ subst (λ k. when (nat_lt WORK_LIMIT k) (fault.TooMuchWork k) ≡ Some (fault.TooMuchWork n)) is (when_true _ _ (lt-ltb _ _ above))

          pub no_fault : work sheet ≤ WORK_LIMIT → part_fault sheet ≡ None
          no_fault little = past_jobs ∙ when_false _ _ (le-ltb _ _ little)

-- ---- accepted

pub accepted : FaultlessPairs → (sheet : Sheet) → part_fault sheet ≡ None → IsAccepted sheet
accepted makes sheet h =
    let parts = sym (by_parts sheet) ∙ h in
    let ranges = first_none (part_ranges sheet) _ parts in
    let past_ranges = next_none (part_ranges sheet) _ parts in
    let head = first_none (head_of sheet.tasks) _ past_ranges in
    let past_head = next_none (head_of sheet.tasks) _ past_ranges in
    let shapes = first_none (tables_of sheet) _ past_head in
    let past_shapes = next_none (tables_of sheet) _ past_head in
    let totals = first_none (totals_of sheet) _ past_shapes in
    let past_totals = next_none (totals_of sheet) _ past_shapes in
    let deadlines = first_none (deadlines_of sheet) _ past_totals in
    let load = next_none (deadlines_of sheet) _ past_totals in
    let past_hyperperiod = next_none (hyperperiod_fault sheet) _ load in
    let heads = head_parts sheet.tasks head in
    let count = count_within sheet.tasks heads.0 in
    record {
      settings = settings_within sheet ranges;
      some = count.0;
      few = count.1;
      tasks = are_tasks makes sheet ranges head (made_tables sheet.tasks shapes totals) deadlines;
      names = own_names sheet.tasks heads.1;
      short_hyperperiod = ltb-false _ _ (when_none _ _ (first_none (hyperperiod_fault sheet) _ load));
      jobs = ltb-false _ _ (when_none _ _ (first_none (jobs_fault sheet) _ past_hyperperiod));
      work = ltb-false _ _ (when_none _ _ (next_none (jobs_fault sheet) _ past_hyperperiod));
    }
