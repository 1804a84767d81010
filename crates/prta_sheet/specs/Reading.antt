-- How a document is read once its conditions passed: as `Stated` says, but a number outside its range counts as none.
use Rattle.std.specs.Prelude.{ℕ, ℤ, pos, negsuc, Bool, ◌&&◌, ◌^◌, nat_le, nat_lt, if◌then◌else◌, Option, Some, None, unwrap_or, List, [], ◌∷◌, codes}
use Rattle.toml.specs.Data.{Data, Items, no_items, item, Members, get_member, as_table, as_array, as_integer}
use Rattle.prta_mass.specs.Table.{Table, or_else, total}
use Rattle.prta_mass.specs.declared.table.TheConstants.{TOTAL_LIMIT}
use Rattle.prta_mass.specs.declared.support.Support.{Support}
use Rattle.prta_sheet.specs.declared.limits.TheConstants.{TIME_LIMIT}
use Rattle.prta_sheet.specs.declared.settings.Settings.{Settings}
use Rattle.prta_sheet.specs.Sheet.{Task, Sheet}
use Rattle.prta_sheet.specs.Document.{◌>>=◌, table_at, array_at}
use Rattle.prta_sheet.specs.declared.fault.SheetFault.{SheetFault}
use Rattle.prta_sheet.specs.SheetConditions.{task_count, name_fault, offset_fault, table_fault}
use Rattle.prta_sheet.specs.Stated.{text_of}

-- a whole number from low to high
abbrev pub within : ℕ → ℕ → ℤ → Option ℕ
within low high (pos n) = if nat_le low n && nat_le n high then Some n else None
within low high (negsuc n) = None

-- a whole number from 0 on
abbrev pub natural : ℤ → Option ℕ
natural (pos n) = Some n
natural (negsuc n) = None

-- a whole number from low to high at a key; another one where there is none
abbrev pub number_in : ℕ → ℕ → ℕ → List ℕ → Members → ℕ
number_in low high default key table = unwrap_or (get_member key table >>= as_integer >>= within low high) default

-- two integers
abbrev pub integers_in : Items → Option (ℤ × ℤ)
integers_in (item first (item second no_items)) = as_integer first >>= (λ a. as_integer second >>= (λ b. Some (a, b)))
integers_in _ = None

abbrev pub integers_of : Data → Option (ℤ × ℤ)
integers_of value = as_array value >>= integers_in

-- a time and a weight
abbrev pub point_in : Items → Option (ℕ × ℕ)
point_in items = integers_in items >>= (λ pair. within 0 TIME_LIMIT pair.0 >>= (λ time. natural pair.1 >>= (λ weight. Some (time, weight))))

abbrev pub point_of : Data → ℕ × ℕ
point_of value = unwrap_or (as_array value >>= point_in) (0, 0)

abbrev pub points_of_items : Items → Table
points_of_items no_items = []
points_of_items (item first rest) = point_of first ∷ points_of_items rest

abbrev pub points_of : Option Items → Table
points_of None = []
points_of (Some items) = points_of_items items

-- the weights of a table sum to too much
abbrev pub is_heavy : Table → Bool
is_heavy table = nat_lt TOTAL_LIMIT (total table)

-- p of q
abbrev pub share_in : Items → Option (ℕ × ℕ)
share_in items = integers_in items >>= (λ pair. within 1 (10 ^ 18) pair.1 >>= (λ whole. within 0 whole pair.0 >>= (λ part. Some (part, whole))))

abbrev pub share_of : Option Data → ℕ × ℕ
share_of value = unwrap_or (value >>= as_array >>= share_in) (0, 1)

-- the tables of a cycle
abbrev pub read_cycle_items : Items → List Table
read_cycle_items no_items = []
read_cycle_items (item first rest) = points_of (as_array first) ∷ read_cycle_items rest

-- the cycle under `cycle`, or else that of the one table under `times`
abbrev pub read_cycle_or : Table → Option Items → List Table
read_cycle_or times None = times ∷ []
read_cycle_or times (Some items) = read_cycle_items items

abbrev pub read_cycle : Members → List Table
read_cycle table = read_cycle_or (points_of (array_at (codes "times") table)) (array_at (codes "cycle") table)

abbrev pub read_task : Members → Task
read_task table = record {
  name = text_of (get_member (codes "name") table);
  offset = number_in 0 999999 0 (codes "offset") table;
  period = number_in 1 1000000 1 (codes "period") table;
  deadline = number_in 1 1000000 1 (codes "deadline") table;
  cycle = read_cycle table;
  allow = share_of (get_member (codes "allow") table);
}

abbrev pub with_read_task : Option Members → List Task → List Task
with_read_task None tasks = tasks
with_read_task (Some table) tasks = read_task table ∷ tasks

abbrev pub read_task_items : Items → List Task
read_task_items no_items = []
read_task_items (item first rest) = with_read_task (as_table first) (read_task_items rest)

abbrev pub read_tasks : Option Items → List Task
read_tasks None = []
read_tasks (Some items) = read_task_items items

abbrev pub read_support : Option Members → Option Support
read_support None = None
read_support (Some table) = Some (record { fine = number_in 0 16383 0 (codes "fine") table; step = number_in 1 16384 1 (codes "step") table })

abbrev pub read_settings : Members → Settings
read_settings doc = record {
  cap = number_in 3 16384 2048 (codes "cap") doc;
  hyperperiods = number_in 1 64 1 (codes "hyperperiods") doc;
  turns = number_in 0 64 16 (codes "turns") doc;
  support = read_support (table_at (codes "support") doc);
}

abbrev pub read : Members → Sheet
read doc = record { settings = read_settings doc; tasks = read_tasks (array_at (codes "task") doc) }

-- ---- in steps

-- the tables among the elements of `task`
abbrev pub with_table : Option Members → List Members → List Members
with_table None tables = tables
with_table (Some table) tables = table ∷ tables

abbrev pub tables_of_items : Items → List Members
tables_of_items no_items = []
tables_of_items (item first rest) = with_table (as_table first) (tables_of_items rest)

abbrev pub task_tables : Option Items → List Members
task_tables None = []
task_tables (Some items) = tables_of_items items

-- a task with another table in place of its cycle
abbrev pub head_of : Task → Task
head_of task = record task { cycle = ((1, 1) ∷ []) ∷ [] }

-- the conditions on the heads of the tasks, and then on the shapes of their tables
abbrev pub head_faults : List Task → Option SheetFault
head_faults tasks = or_else (task_count tasks) (or_else (name_fault tasks) (offset_fault tasks))

abbrev pub first_faults : List Task → Option SheetFault
first_faults tasks = or_else (head_faults tasks) (table_fault tasks)
