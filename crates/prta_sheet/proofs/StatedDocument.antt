-- The document of an accepted sheet passes the conditions on documents.
use Rattle.std.proofs.Common.{◌≡◌, ℕ, pos, ◌+◌, ◌^◌, ◌≤◌, Bool, true, false, not, ◌&&◌, nat_eq, nat_le, if◌then◌else◌, None, List, [], ◌∷◌, length, codes, refl, arith, All}
use Rattle.std.specs.List.{AllByRecursion as Each, list_all}
use Rattle.std.proofs.lemmas.Bool.{and_from, and_right, not_from_true, ne_eqb}
use Rattle.std.proofs.lemmas.Bool.Decides.{nat_tests}
use Rattle.std.proofs.lemmas.List.Elements.{All-head, All-tail}
use Rattle.std.proofs.lemmas.List.Folds.{list_all_at}
use Rattle.toml.specs.Data.{Members, no_members, member}
use Rattle.prta_mass.specs.Table.{Table, IsTable, greatest}
use Rattle.prta_mass.specs.declared.support.Support.{Support}
use Rattle.prta_sheet.specs.declared.limits.TheConstants.{TIME_LIMIT}
use Rattle.prta_sheet.specs.declared.settings.Settings.{Settings}
use Rattle.prta_sheet.specs.declared.fault.Place.TheVariants as place
use Rattle.prta_sheet.specs.declared.conditions.Condition.{Condition}
use Rattle.prta_sheet.specs.declared.conditions.Condition.TheVariants.{Listed, Needed, Kind, Range}
use Rattle.prta_sheet.specs.Sheet.{Task, Sheet}
use Rattle.prta_sheet.specs.Accepted.{AreSettings, AreSupportRanges, IsAllowance, IsTask, IsAccepted}
use Rattle.prta_sheet.specs.Format.{is_within, is_pair, is_table, is_pair_with, is_share, is_time_with_weight, is_times, is_array_of, each_item, item_count, top_rows, support_rows, task_rows}
use Rattle.prta_sheet.specs.Document.{table_at, array_at}
use Rattle.prta_sheet.specs.DocumentConditions.{fault_in, first_fault, first_of, spot, task_spots, all_task_spots, Spot, is_format, format_of, format_fault, document_fault}
use Rattle.prta_sheet.specs.Canonical.{canonical_format, number_data, pairs_data, tables_data, task_document, tasks_data, document_of}
use Rattle.prta_sheet.proofs.FirstOf.{both_none}
use Rattle.prta_sheet.proofs.AllPass.{first_of-append, IsRowInRange, no_row_out_of_range}
use Rattle.prta_sheet.proofs.CanonicalDocument.{by_support, cycled, by_cycle}
use Rattle.prta_sheet.proofs.StatedTables.{task_spot}
use Rattle.prta_sheet.proofs.Statable.{time_within}

-- ---- values

within_is : (low high n : ℕ) → low ≤ n → n ≤ high → is_within low high (pos n) ≡ true
within_is low high n above below = grind (arith, nat_tests)

-- a number doesn't fail a range
abbrev IsInRange : ℕ → ℕ → ℕ → Type 0
IsInRange low high n = not (is_within low high (pos n)) ≡ false

in_range : (low high n : ℕ) → low ≤ n → n ≤ high → IsInRange low high n
in_range low high n above below = not_from_true _ (within_is low high n above below)

are_pairs : (pairs : Table) → each_item is_pair (pairs_data pairs) ≡ true
are_pairs [] = refl
are_pairs (pair ∷ pairs) = are_pairs pairs

are_tables : (tasks : List Task) → each_item is_table (tasks_data tasks) ≡ true
are_tables [] = refl
are_tables (task ∷ tasks) = are_tables tasks

are_points : (pairs : Table) → All (λ pair. pair.0 ≤ TIME_LIMIT) pairs → each_item (is_pair_with is_time_with_weight) (pairs_data pairs) ≡ true
are_points [] early = refl
are_points (pair ∷ pairs) early =
    let here = within_is 0 TIME_LIMIT pair.0 (omega arith) (All-head (λ (p : ℕ × ℕ). p.0 ≤ TIME_LIMIT) pair pairs early) in
    and_from _ _ (and_from _ true here refl) (are_points pairs (All-tail (λ (p : ℕ × ℕ). p.0 ≤ TIME_LIMIT) pair pairs early))

each_is_times : (tables : List Table) → All IsTable tables → All (λ table. greatest table ≤ TIME_LIMIT) tables → each_item is_times (tables_data tables) ≡ true
each_is_times [] are early = refl
each_is_times (times ∷ tables) are early =
    let is = All-head IsTable times tables are in
    let here = All-head (λ (table : Table). greatest table ≤ TIME_LIMIT) times tables early in
    and_from _ _ (are_points times (λ k d low. let a = time_within times is k d low in omega arith))
    (each_is_times tables (All-tail IsTable times tables are) (All-tail (λ (table : Table). greatest table ≤ TIME_LIMIT) times tables early))

as_many : (tables : List Table) → item_count (tables_data tables) ≡ length tables
as_many [] = refl
as_many (times ∷ tables) = omega (arith, as_many tables)

are_arrays : (tables : List Table) → each_item (is_array_of is_pair) (tables_data tables) ≡ true
are_arrays [] = refl
are_arrays (times ∷ tables) = and_from _ _ (are_pairs times) (are_arrays tables)

share_is : (allow : ℕ × ℕ) → IsAllowance allow → is_share (pos allow.0) (pos allow.1) ≡ true
share_is allow is = and_from _ _ (within_is 1 (10 ^ 18) allow.1 is.whole_low is.whole_high) (within_is 0 allow.1 allow.0 (omega arith) is.part)

-- ---- tables

abbrev support_members : Support → Members
support_members support = member (codes "fine") (number_data support.fine) (member (codes "step") (number_data support.step) no_members)

-- the rows of a table whose values are none or in their ranges
abbrev AreInRange : Spot → Type 0
AreInRange s = Each (IsRowInRange s) s.rows

-- the spot of a task that states a cycle, or doesn't
abbrev spot_as : Bool → ℕ → Task → Spot
spot_as cycle i task = record { at = place.Task i; rows = task_rows cycle; table = task_document task }

-- more than one table needs format 2
abbrev FitsFormat : ℕ → Task → Type 0
FitsFormat format task = nat_eq (length task.cycle) 1 ≡ false → nat_eq format 2 ≡ true

module _ (cap : ℕ) (few : cap ≤ 16384) where
  -- the numbers of a task beside its tables
  record AreNumbers (task : Task) : Type 0 where
    offset : IsInRange 0 999999 task.offset
    period : IsInRange 1 1000000 task.period
    deadline : IsInRange 1 1000000 task.deadline
    allow : not (is_share (pos task.allow.0) (pos task.allow.1)) ≡ false

  numbers_are : (task : Task) → IsTask cap task → AreNumbers task
  numbers_are task is = record {
    offset = in_range 0 999999 task.offset (omega arith) (let a = is.offset in let b = is.period_high in omega arith);
    period = in_range 1 1000000 task.period is.period_low is.period_high;
    deadline = in_range 1 1000000 task.deadline is.deadline_low (let a = is.deadline_high in omega arith);
    allow = not_from_true _ (share_is task.allow is.allow);
  }

  module _ (i : ℕ) (t : Task) where
    module _ (times : Table) where
      abbrev one : Task
      one = cycled t (times ∷ [])

      one_in_range : IsTask cap one → AreInRange (spot_as false i one)
      one_in_range is =
          let n = numbers_are one is in
          let table = All-head IsTable times [] is.tables in
          let early = All-head (λ (table : Table). greatest table ≤ TIME_LIMIT) times [] is.times in
          let points = not_from_true _ (are_points times (λ k d low. let a = time_within times table k d low in omega arith)) in
          (refl, (n.offset, (n.period, (n.deadline, (points, (n.allow, tt))))))

      one_stands : (condition : Condition) → IsTask cap one → fault_in condition (spot_as false i one) ≡ None
      one_stands Listed is = refl
      one_stands Needed is = refl
      one_stands Kind is = rw (are_pairs times) refl
      one_stands Range is = no_row_out_of_range (spot_as false i one) (one_in_range is)

    module _ (first second : Table) (rest : List Table) where
      abbrev tables : List Table
      tables = first ∷ second ∷ rest

      abbrev several : Task
      several = cycled t tables

      several_in_range : IsTask cap several → AreInRange (spot_as true i several)
      several_in_range is =
          let n = numbers_are several is in
          let low = is.cycle_low in
          let high = is.cycle_high in
          let many : (nat_le 1 (item_count (tables_data tables)) && nat_le (item_count (tables_data tables)) 16) ≡ true = rw (as_many tables) (within_is 1 16 (length tables) (omega arith) (omega arith)) in
          let cycle = not_from_true _ (and_from _ _ many (each_is_times tables is.tables is.times)) in
          (refl, (n.offset, (n.period, (n.deadline, (cycle, (n.allow, tt))))))

      several_stand : (condition : Condition) → IsTask cap several → fault_in condition (spot_as true i several) ≡ None
      several_stand Listed is = refl
      several_stand Needed is = refl
      several_stand Kind is = rw (are_arrays tables) refl
      several_stand Range is = no_row_out_of_range (spot_as true i several) (several_in_range is)

  task_stands : (condition : Condition) (format i : ℕ) (task : Task) → IsTask cap task → FitsFormat format task → fault_in condition (task_spot format i (task_document task)) ≡ None
  task_stands condition format i task =
      by_cycle (λ t. IsTask cap t → FitsFormat format t → fault_in condition (task_spot format i (task_document t)) ≡ None)
      (λ t is fits. let low = is.cycle_low in absurd (omega arith))
      (λ t times is fits. rw (and_right (nat_eq format 2) false refl) (one_stands i t times condition is))
      (λ t first second rest is fits. rw (fits (ne_eqb (length (first ∷ second ∷ rest)) 1 (λ e. omega (arith, e)))) (several_stand i t first second rest condition is))
      task

  tasks_stand : (condition : Condition) (format i : ℕ) (tasks : List Task) → All (IsTask cap) tasks → All (FitsFormat format) tasks → first_of (fault_in condition) (task_spots format i (tasks_data tasks)) ≡ None
  tasks_stand condition format i [] are fit = refl
  tasks_stand condition format i (task ∷ tasks) are fit =
      both_none _ _ (task_stands condition format i task (All-head (IsTask cap) task tasks are) (All-head (FitsFormat format) task tasks fit))
      (tasks_stand condition format (i + 1) tasks (All-tail (IsTask cap) task tasks are) (All-tail (FitsFormat format) task tasks fit))

abbrev has_one : Task → Bool
has_one task = nat_eq (length task.cycle) 1

-- the canonical format fits each task
all_fit : (tasks : List Task) → All (FitsFormat (canonical_format tasks)) tasks
all_fit tasks = λ k d low several. rw (list_all_at has_one tasks k d low several) refl

module _ (tasks : List Task) where
  abbrev of_settings : Settings → Members
  of_settings settings = document_of (record { settings = settings; tasks = tasks })

  abbrev top_spot : Settings → Spot
  top_spot settings = record { at = place.Top; rows = top_rows; table = of_settings settings }

  abbrev support_spot : Support → Spot
  support_spot support = record { at = place.Support; rows = support_rows; table = support_members support }

  abbrev support_spots : Settings → List Spot
  support_spots settings = spot place.Support (λ table. support_rows) (table_at (codes "support") (of_settings settings))

  format_in_range : IsInRange 1 2 (canonical_format tasks)
  format_in_range = elim (list_all has_one tasks) as (λ b. IsInRange 1 2 (if b then 1 else 2)) [ true ↦ refl | false ↦ refl ]

  top_in_range : (settings : Settings) → AreSettings settings → AreInRange (top_spot settings)
  top_in_range settings are =
      by_support (λ s. IsInRange 3 16384 s.cap → IsInRange 1 64 s.hyperperiods → IsInRange 0 64 s.turns → AreInRange (top_spot s))
      (λ s cap hyperperiods turns. (format_in_range, (cap, (hyperperiods, (turns, (refl, (refl, tt)))))))
      (λ s support cap hyperperiods turns. (format_in_range, (cap, (hyperperiods, (turns, (refl, (refl, tt)))))))
      settings
      (in_range 3 16384 settings.cap are.cap_low are.cap_high)
      (in_range 1 64 settings.hyperperiods are.hyperperiods_low are.hyperperiods_high)
      (in_range 0 64 settings.turns (omega arith) are.turns)

  top_stands : (condition : Condition) (settings : Settings) → AreSettings settings → fault_in condition (top_spot settings) ≡ None
  top_stands Listed settings are = by_support (λ s. fault_in Listed (top_spot s) ≡ None) (λ s. refl) (λ s support. refl) settings
  top_stands Needed settings are = by_support (λ s. fault_in Needed (top_spot s) ≡ None) (λ s. refl) (λ s support. refl) settings
  top_stands Kind settings are = by_support (λ s. fault_in Kind (top_spot s) ≡ None) (λ s. rw (are_tables tasks) refl) (λ s support. rw (are_tables tasks) refl) settings
  top_stands Range settings are = no_row_out_of_range (top_spot settings) (top_in_range settings are)

  support_stands : (condition : Condition) (support : Support) → AreSupportRanges support → fault_in condition (support_spot support) ≡ None
  support_stands Listed support are = refl
  support_stands Needed support are = refl
  support_stands Kind support are = refl
  support_stands Range support are =
      no_row_out_of_range (support_spot support) (in_range 0 16383 support.fine (omega arith) are.fine, (in_range 1 16384 support.step are.step_low are.step_high, tt))

  supports_stand : (condition : Condition) (settings : Settings) → AreSettings settings → first_of (fault_in condition) (support_spots settings) ≡ None
  supports_stand condition settings =
      by_support (λ s. AreSettings s → first_of (fault_in condition) (support_spots s) ≡ None)
      (λ s are. refl)
      (λ s support are. both_none _ None (support_stands condition support are.support) refl)
      settings

  tasks_at : (settings : Settings) → all_task_spots (format_of (of_settings settings)) (array_at (codes "task") (of_settings settings)) ≡ task_spots (canonical_format tasks) 0 (tasks_data tasks)
  tasks_at settings =
      by_support (λ s. all_task_spots (format_of (of_settings s)) (array_at (codes "task") (of_settings s)) ≡ task_spots (canonical_format tasks) 0 (tasks_data tasks)) (λ s. refl) (λ s support. refl) settings

  format_is : is_format (canonical_format tasks) ≡ true
  format_is = elim (list_all has_one tasks) as (λ b. is_format (if b then 1 else 2) ≡ true) [ true ↦ refl | false ↦ refl ]

  format_stands : (settings : Settings) → format_fault (of_settings settings) ≡ None
  format_stands settings = by_support (λ s. format_fault (of_settings s) ≡ None) (λ s. rw format_is refl) (λ s support. rw format_is refl) settings

pub condition_passes : (condition : Condition) (sheet : Sheet) → IsAccepted sheet → first_fault condition (document_of sheet) ≡ None
condition_passes condition sheet is =
    let top = top_stands sheet.tasks condition sheet.settings is.settings in
    let support = supports_stand sheet.tasks condition sheet.settings is.settings in
    let tasks = tasks_stand sheet.settings.cap is.settings.cap_high condition (canonical_format sheet.tasks) 0 sheet.tasks is.tasks (all_fit sheet.tasks) in
    let later = first_of-append (fault_in condition) (support_spots sheet.tasks sheet.settings) (task_spots (canonical_format sheet.tasks) 0 (tasks_data sheet.tasks)) support tasks in
    rw (tasks_at sheet.tasks sheet.settings) (both_none _ _ top later)

pub document_passes : (sheet : Sheet) → IsAccepted sheet → document_fault (document_of sheet) ≡ None
document_passes sheet is =
    both_none _ _ (format_stands sheet.tasks sheet.settings)
    (both_none _ _ (condition_passes Listed sheet is)
    (both_none _ _ (condition_passes Needed sheet is)
    (both_none _ _ (condition_passes Kind sheet is)
    (condition_passes Range sheet is))))
