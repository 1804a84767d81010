-- The conditions that a sheet of given parts can fail, by their numbers.
use Rattle.std.proofs.Common.{ℕ, ◌≤◌, Bool, true, false, nat_lt, if◌then◌else◌, Option, Some, None, option_map, List, [], ◌∷◌, length, subst, arith}
use Rattle.std.specs.List.{range_with_len}
use Rattle.prta_mass.specs.Table.{or_else, when}
use Rattle.prta_mass.specs.declared.support.Support.{Support}
use Rattle.prta_sheet.specs.declared.limits.TheConstants.{CYCLE_LIMIT, PERIOD_LIMIT, JOB_LIMIT}
use Rattle.prta_sheet.specs.declared.settings.Settings.{Settings}
use Rattle.prta_sheet.specs.declared.fault.Key.{Key}
use Rattle.prta_sheet.specs.declared.fault.Key.TheVariants as key
use Rattle.prta_sheet.specs.declared.fault.Place.{Place}
use Rattle.prta_sheet.specs.declared.fault.Place.TheVariants as place
use Rattle.prta_sheet.specs.declared.fault.SheetFault.{SheetFault}
use Rattle.prta_sheet.specs.declared.fault.SheetFault.TheVariants as fault
use Rattle.prta_sheet.specs.Sheet.{Task, Sheet, task_at, hyperperiod}
use Rattle.prta_sheet.specs.Counts.{all_jobs}
use Rattle.prta_sheet.specs.Work.{work}
use Rattle.prta_sheet.specs.Accepted.{is_good_name}
use Rattle.prta_sheet.specs.DocumentConditions.{first_of}
use Rattle.prta_sheet.specs.SheetConditions.{in_range, support_ranges, settings_ranges, cycle_range, task_ranges, part_ranges, task_count, name_fault_at, name_fault, offset_fault, table_fault_at, table_fault, total_fault, deadline_fault, later_fault}
use Rattle.prta_sheet.specs.Refusal.{number_of}
use Rattle.prta_sheet.specs.Edits.{PartFaultsAreNumbered}

abbrev HasNumber : SheetFault → Type 0
HasNumber f = (7 ≤ number_of f) × (number_of f ≤ 16)

abbrev IsNumbered : Option SheetFault → Type 0
IsNumbered None = Unit {0}
IsNumbered (Some f) = HasNumber f

either : (a b : Option SheetFault) → IsNumbered a → IsNumbered b → IsNumbered (or_else a b)
either None b p q = q
either (Some f) b p q = p

tested : (b : Bool) (f : SheetFault) → HasNumber f → IsNumbered (when b f)
tested true f h = h
tested false f h = tt

module _ {X : Type 0} where
  mapped : (f : X → SheetFault) → ((x : X) → HasNumber (f x)) → (o : Option X) → IsNumbered (option_map f o)
  mapped f h None = tt
  mapped f h (Some x) = h x

  along : (f : X → Option SheetFault) → ((x : X) → IsNumbered (f x)) → (xs : List X) → IsNumbered (first_of f xs)
  along f h [] = tt
  along f h (x ∷ xs) = either (f x) (first_of f xs) (h x) (along f h xs)

range : (at : Place) (k : Key) (low high n : ℕ) → IsNumbered (in_range at k low high n)
range at k low high n = tested _ (fault.OutOfRange at k) (omega arith, omega arith)

support : (s : Option Support) → IsNumbered (support_ranges s)
support None = tt
support (Some s) = either _ _ (range place.Support key.Fine 0 16383 s.fine) (range place.Support key.Step 1 16384 s.step)

settings : (s : Settings) → IsNumbered (settings_ranges s)
settings s =
    either (in_range place.Top key.Cap 3 16384 s.cap) _ (range place.Top key.Cap 3 16384 s.cap)
    (either (in_range place.Top key.Hyperperiods 1 64 s.hyperperiods) _ (range place.Top key.Hyperperiods 1 64 s.hyperperiods)
    (either (in_range place.Top key.Turns 0 64 s.turns) _ (range place.Top key.Turns 0 64 s.turns)
    (support s.support)))

of_task : (i : ℕ) (task : Task) → IsNumbered (task_ranges i task)
of_task i task =
    either (in_range (place.Task i) key.Offset 0 999999 task.offset) _ (range (place.Task i) key.Offset 0 999999 task.offset)
    (either (in_range (place.Task i) key.Period 1 1000000 task.period) _ (range (place.Task i) key.Period 1 1000000 task.period)
    (either (in_range (place.Task i) key.Deadline 1 1000000 task.deadline) _ (range (place.Task i) key.Deadline 1 1000000 task.deadline)
    (either (cycle_range i task.cycle) _
    (either (in_range (place.Task i) key.Cycle 1 CYCLE_LIMIT (length task.cycle)) _ (range (place.Task i) key.Cycle 1 CYCLE_LIMIT (length task.cycle)) (tested _ _ (omega arith, omega arith)))
    (tested _ _ (omega arith, omega arith)))))

name : (tasks : List Task) (i : ℕ) → HasNumber (name_fault_at tasks i)
name tasks i = by (is_good_name (task_at tasks i).name)
  where
    by : (b : Bool) → HasNumber (if b then fault.RepeatedName i else fault.BadName i)
    by true = (omega arith, omega arith)
    by false = (omega arith, omega arith)

later : (sheet : Sheet) → IsNumbered (later_fault sheet)
later sheet =
    let tasks : List Task = sheet.tasks in
    either (task_count tasks) _ (tested _ (fault.TaskCount (length tasks)) (omega arith, omega arith))
    (either (name_fault tasks) _ (mapped (name_fault_at tasks) (name tasks) _)
    (either (offset_fault tasks) _ (mapped fault.OffsetNotBelowPeriod (λ i. (omega arith, omega arith)) _)
    (either (table_fault tasks) _ (along (table_fault_at tasks) (λ i. mapped (fault.BadTable i) (λ f. (omega arith, omega arith)) _) (range_with_len 0 (length tasks)))
    (either (total_fault tasks) _ (mapped fault.TotalTooLarge (λ i. (omega arith, omega arith)) _)
    (either (deadline_fault sheet.settings.cap tasks) _ (mapped fault.DeadlineNotBelowCap (λ i. (omega arith, omega arith)) _)
    (either (when (nat_lt PERIOD_LIMIT (hyperperiod tasks)) fault.HyperperiodTooLarge) _ (tested _ fault.HyperperiodTooLarge (omega arith, omega arith))
    (either (when (nat_lt JOB_LIMIT (all_jobs sheet)) (fault.TooManyJobs (all_jobs sheet))) _ (tested _ (fault.TooManyJobs (all_jobs sheet)) (omega arith, omega arith))
    (tested _ (fault.TooMuchWork (work sheet)) (omega arith, omega arith)))))))))

pub part_faults_are_numbered : PartFaultsAreNumbered
part_faults_are_numbered sheet f e =
    let ranges = λ (i : ℕ). task_ranges i (task_at sheet.tasks i) in
    subst IsNumbered e
    (either (part_ranges sheet) (later_fault sheet)
    (either (settings_ranges sheet.settings) _ (settings sheet.settings) (along ranges (λ i. of_task i (task_at sheet.tasks i)) (range_with_len 0 (length sheet.tasks))))
    (later sheet))
