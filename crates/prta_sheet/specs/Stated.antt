-- The sheet that a document states, where its keys, kinds and ranges are right. What isn't needed and isn't stated has its default.
use Rattle.std.specs.Prelude.{ℕ, pos, Option, Some, None, option_map, List, [], ◌∷◌, codes}
use Rattle.toml.specs.Data.{Data, string, integer, array, Items, no_items, item, Members, get_member, as_table, as_array}
use Rattle.prta_mass.specs.Table.{Table}
use Rattle.prta_mass.specs.declared.support.Support.{Support}
use Rattle.prta_sheet.specs.declared.settings.Settings.{Settings}
use Rattle.prta_sheet.specs.Sheet.{Task, Sheet}
use Rattle.prta_sheet.specs.Document.{document, number_or, table_at, array_at}

abbrev pub text_of : Option Data → List ℕ
text_of (Some (string bytes)) = bytes
text_of _ = []

abbrev pub pair_or : ℕ × ℕ → Option Data → ℕ × ℕ
pair_or default (Some (array (item (integer (pos a)) (item (integer (pos b)) no_items)))) = (a, b)
pair_or default _ = default

abbrev pub pairs_of_items : Items → Table
pairs_of_items no_items = []
pairs_of_items (item first rest) = pair_or (0, 0) (Some first) ∷ pairs_of_items rest

abbrev pub pairs_of : Option Items → Table
pairs_of None = []
pairs_of (Some items) = pairs_of_items items

-- the tables of a cycle
abbrev pub cycle_of_items : Items → List Table
cycle_of_items no_items = []
cycle_of_items (item first rest) = pairs_of (as_array first) ∷ cycle_of_items rest

-- the cycle under `cycle`, or else that of the one table under `times`
abbrev pub cycle_or : Table → Option Items → List Table
cycle_or times None = times ∷ []
cycle_or times (Some items) = cycle_of_items items

-- a needed number that is missing counts as 1: the document is refused
abbrev pub stated_task : Members → Task
stated_task table = record {
  name = text_of (get_member (codes "name") table);
  offset = number_or 0 (get_member (codes "offset") table);
  period = number_or 1 (get_member (codes "period") table);
  deadline = number_or 1 (get_member (codes "deadline") table);
  cycle = cycle_or (pairs_of (array_at (codes "times") table)) (array_at (codes "cycle") table);
  allow = pair_or (0, 1) (get_member (codes "allow") table);
}

-- the tables among the elements of `task`
abbrev pub with_task : Option Members → List Task → List Task
with_task None tasks = tasks
with_task (Some table) tasks = stated_task table ∷ tasks

abbrev pub tasks_of_items : Items → List Task
tasks_of_items no_items = []
tasks_of_items (item first rest) = with_task (as_table first) (tasks_of_items rest)

abbrev pub stated_tasks : Option Items → List Task
stated_tasks None = []
stated_tasks (Some items) = tasks_of_items items

abbrev pub stated_support : Option Members → Option Support
stated_support None = None
stated_support (Some table) = Some (record { fine = number_or 0 (get_member (codes "fine") table); step = number_or 1 (get_member (codes "step") table) })

abbrev pub stated_settings : Members → Settings
stated_settings doc = record {
  cap = number_or 2048 (get_member (codes "cap") doc);
  hyperperiods = number_or 1 (get_member (codes "hyperperiods") doc);
  turns = number_or 16 (get_member (codes "turns") doc);
  support = stated_support (table_at (codes "support") doc);
}

abbrev pub stated : Members → Sheet
stated doc = record { settings = stated_settings doc; tasks = stated_tasks (array_at (codes "task") doc) }

-- the sheet that bytes state; none where they are no TOML
abbrev pub sheet_stated : List ℕ → Option Sheet
sheet_stated bytes = option_map stated (document bytes)
