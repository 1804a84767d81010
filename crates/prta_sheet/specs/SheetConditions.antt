-- The conditions on the settings and the tasks of a sheet.
use Rattle.std.specs.Prelude.{ℕ, Bool, not, ◌+◌, ◌^◌, ◌&&◌, ◌||◌, nat_le, nat_lt, nat_eq, Option, Some, None, option_map, List, length, take, position, bytes_eq, if◌then◌else◌}
use Rattle.std.specs.List.{list_any, range_with_len}
use Rattle.prta_mass.specs.Table.{Table, or_else, when, shape_fault, total}
use Rattle.prta_mass.specs.declared.support.Support.{Support}
use Rattle.prta_mass.specs.declared.table.TheConstants.{TOTAL_LIMIT}
use Rattle.prta_sheet.specs.declared.limits.TheConstants.{TASK_LIMIT, CYCLE_LIMIT, TIME_LIMIT, PERIOD_LIMIT, JOB_LIMIT, WORK_LIMIT}
use Rattle.prta_sheet.specs.declared.settings.Settings.{Settings}
use Rattle.prta_sheet.specs.declared.fault.Key.{Key}
use Rattle.prta_sheet.specs.declared.fault.Key.TheVariants as key
use Rattle.prta_sheet.specs.declared.fault.Place.{Place}
use Rattle.prta_sheet.specs.declared.fault.Place.TheVariants as place
use Rattle.prta_sheet.specs.declared.fault.SheetFault.{SheetFault}
use Rattle.prta_sheet.specs.declared.fault.SheetFault.TheVariants as fault
use Rattle.prta_sheet.specs.Sheet.{Task, Sheet, task_at, hyperperiod}
use Rattle.prta_sheet.specs.Counts.{all_jobs}
use Rattle.prta_sheet.specs.Work.{work}
use Rattle.prta_sheet.specs.Accepted.{is_good_name}
use Rattle.prta_sheet.specs.DocumentConditions.{first_of}

-- ---- ranges, as those of the document

abbrev pub in_range : Place → Key → ℕ → ℕ → ℕ → Option SheetFault
in_range at key low high n = when (not (nat_le low n && nat_le n high)) (fault.OutOfRange at key)

abbrev pub support_ranges : Option Support → Option SheetFault
support_ranges None = None
support_ranges (Some support) = or_else (in_range place.Support key.Fine 0 16383 support.fine) (in_range place.Support key.Step 1 16384 support.step)

abbrev pub settings_ranges : Settings → Option SheetFault
settings_ranges settings =
    or_else (in_range place.Top key.Cap 3 16384 settings.cap)
    (or_else (in_range place.Top key.Hyperperiods 1 64 settings.hyperperiods)
    (or_else (in_range place.Top key.Turns 0 64 settings.turns)
    (support_ranges settings.support)))

-- the key that states a cycle: `times` where it has one table
abbrev pub cycle_key : List Table → Key
cycle_key cycle = if nat_eq (length cycle) 1 then key.Times else key.Cycle

abbrev pub has_long_time : Table → Bool
has_long_time table = list_any (λ pair. nat_lt TIME_LIMIT pair.0) table

-- the number of tables, and then their times
abbrev pub cycle_range : ℕ → List Table → Option SheetFault
cycle_range i cycle =
    or_else (in_range (place.Task i) key.Cycle 1 CYCLE_LIMIT (length cycle))
    (when (list_any has_long_time cycle) (fault.OutOfRange (place.Task i) (cycle_key cycle)))

abbrev pub allow_range : ℕ → ℕ × ℕ → Option SheetFault
allow_range i allow = when (not ((nat_le 1 allow.1 && nat_le allow.1 (10 ^ 18)) && nat_le allow.0 allow.1)) (fault.OutOfRange (place.Task i) key.Allow)

abbrev pub task_ranges : ℕ → Task → Option SheetFault
task_ranges i task =
    or_else (in_range (place.Task i) key.Offset 0 999999 task.offset)
    (or_else (in_range (place.Task i) key.Period 1 1000000 task.period)
    (or_else (in_range (place.Task i) key.Deadline 1 1000000 task.deadline)
    (or_else (cycle_range i task.cycle)
    (allow_range i task.allow))))

abbrev pub part_ranges : Sheet → Option SheetFault
part_ranges sheet = or_else (settings_ranges sheet.settings) (first_of (λ i. task_ranges i (task_at sheet.tasks i)) (range_with_len 0 (length sheet.tasks)))

-- ---- names, offsets, tables and deadlines

abbrev pub task_count : List Task → Option SheetFault
task_count tasks = when (not (nat_le 1 (length tasks) && nat_le (length tasks) TASK_LIMIT)) (fault.TaskCount (length tasks))

-- one of the tasks has this name
abbrev pub has_name : List Task → List ℕ → Bool
has_name tasks name = list_any (λ task. bytes_eq task.name name) tasks

-- the name of a task is bad, or that of an earlier one
abbrev pub is_bad_at : List Task → ℕ → Bool
is_bad_at tasks i = not (is_good_name (task_at tasks i).name) || has_name (take i tasks) (task_at tasks i).name

-- one pass: the first task with a bad name or a repeated one
abbrev pub first_bad_name : List Task → Option ℕ
first_bad_name tasks = first_of (λ i. when (is_bad_at tasks i) i) (range_with_len 0 (length tasks))

abbrev pub name_fault_at : List Task → ℕ → SheetFault
name_fault_at tasks i = if is_good_name (task_at tasks i).name then fault.RepeatedName i else fault.BadName i

abbrev pub name_fault : List Task → Option SheetFault
name_fault tasks = option_map (name_fault_at tasks) (first_bad_name tasks)

-- the first task whose offset isn't below its period
abbrev pub first_late_offset : List Task → Option ℕ
first_late_offset tasks = position (λ task. nat_le task.period task.offset) tasks

abbrev pub offset_fault : List Task → Option SheetFault
offset_fault tasks = option_map fault.OffsetNotBelowPeriod (first_late_offset tasks)

-- the first five faults of a table, at the first table of the cycle that has one
abbrev pub table_fault_at : List Task → ℕ → Option SheetFault
table_fault_at tasks i = option_map (fault.BadTable i) (first_of shape_fault (task_at tasks i).cycle)

abbrev pub table_fault : List Task → Option SheetFault
table_fault tasks = first_of (table_fault_at tasks) (range_with_len 0 (length tasks))

abbrev pub is_heavy : Table → Bool
is_heavy table = nat_lt TOTAL_LIMIT (total table)

-- the first task that has a table of which the weights sum to too much
abbrev pub total_fault : List Task → Option SheetFault
total_fault tasks = option_map fault.TotalTooLarge (position (λ task. list_any is_heavy task.cycle) tasks)

-- the first task whose deadline is above the cap less 2
abbrev pub first_long_deadline : ℕ → List Task → Option ℕ
first_long_deadline cap tasks = position (λ task. nat_lt cap (task.deadline + 2)) tasks

abbrev pub deadline_fault : ℕ → List Task → Option SheetFault
deadline_fault cap tasks = option_map fault.DeadlineNotBelowCap (first_long_deadline cap tasks)

-- ---- the first condition that fails, each over the whole sheet before the next

-- beside the ranges
abbrev pub later_fault : Sheet → Option SheetFault
later_fault sheet =
    or_else (task_count sheet.tasks)
    (or_else (name_fault sheet.tasks)
    (or_else (offset_fault sheet.tasks)
    (or_else (table_fault sheet.tasks)
    (or_else (total_fault sheet.tasks)
    (or_else (deadline_fault sheet.settings.cap sheet.tasks)
    (or_else (when (nat_lt PERIOD_LIMIT (hyperperiod sheet.tasks)) fault.HyperperiodTooLarge)
    (or_else (when (nat_lt JOB_LIMIT (all_jobs sheet)) (fault.TooManyJobs (all_jobs sheet)))
    (when (nat_lt WORK_LIMIT (work sheet)) (fault.TooMuchWork (work sheet))))))))))

-- of given parts
abbrev pub part_fault : Sheet → Option SheetFault
part_fault sheet = or_else (part_ranges sheet) (later_fault sheet)
