-- The canonical text of a sheet, which has all its keys, and the document that it states.
use Rattle.std.specs.Prelude.{◌≡◌, ℕ, ◌<◌, ◌≤◌, ◌^◌, true, pos, Option, Some, None, List, [], ◌∷◌, ◌++◌, flat_map, length, codes, decimal, nat_eq, if◌then◌else◌, All}
use Rattle.std.specs.List.{list_all}
use Rattle.toml.specs.Data.{Data, string, integer, array, table, Items, no_items, item, Members, no_members, member}
use Rattle.prta_mass.specs.Table.{Table}
use Rattle.prta_mass.specs.declared.support.Support.{Support}
use Rattle.prta_sheet.specs.declared.settings.Settings.{Settings}
use Rattle.prta_sheet.specs.Sheet.{Task, Sheet}
use Rattle.prta_sheet.specs.Accepted.{is_good_name, IsAccepted}
use Rattle.prta_sheet.specs.Document.{document}

-- ---- the text

-- a key and a whole number
unfoldable pub number_line : List ℕ → ℕ → List ℕ
number_line key n = key ++ codes " = " ++ decimal n ++ codes "\n"

unfoldable pub support_line : Support → List ℕ
support_line support = codes "support = { fine = " ++ decimal support.fine ++ codes ", step = " ++ decimal support.step ++ codes " }\n"

-- the line is there where a support is stated
abbrev pub support_text : Option Support → List ℕ
support_text None = []
support_text (Some support) = support_line support

-- 1 where every cycle has one table, else 2
abbrev pub canonical_format : List Task → ℕ
canonical_format tasks = if list_all (λ task. nat_eq (length task.cycle) 1) tasks then 1 else 2

unfoldable pub settings_text : ℕ → Settings → List ℕ
settings_text format settings =
    number_line (codes "format") format
    ++ number_line (codes "cap") settings.cap
    ++ number_line (codes "hyperperiods") settings.hyperperiods
    ++ number_line (codes "turns") settings.turns
    ++ support_text settings.support

unfoldable pub name_line : List ℕ → List ℕ
name_line name = codes "name = \"" ++ name ++ codes "\"\n"

unfoldable pub pair_text : ℕ × ℕ → List ℕ
pair_text pair = codes "[" ++ decimal pair.0 ++ codes ", " ++ decimal pair.1 ++ codes "]"

-- a pair after others
abbrev pub next_pair_text : ℕ × ℕ → List ℕ
next_pair_text pair = codes ", " ++ pair_text pair

abbrev pub pairs_text : Table → List ℕ
pairs_text [] = []
pairs_text (pair ∷ pairs) = pair_text pair ++ flat_map next_pair_text pairs

unfoldable pub times_line : Table → List ℕ
times_line times = codes "times = [" ++ pairs_text times ++ codes "]\n"

unfoldable pub table_text : Table → List ℕ
table_text times = codes "[" ++ pairs_text times ++ codes "]"

-- a table after others
abbrev pub next_table_text : Table → List ℕ
next_table_text times = codes ", " ++ table_text times

unfoldable pub cycle_line : Table → List Table → List ℕ
cycle_line first rest = codes "cycle = [" ++ table_text first ++ flat_map next_table_text rest ++ codes "]\n"

-- a cycle of one table stands under `times`
abbrev pub tables_line : List Table → List ℕ
tables_line [] = []
tables_line (times ∷ []) = times_line times
tables_line (first ∷ second ∷ rest) = cycle_line first (second ∷ rest)

unfoldable pub allow_line : ℕ × ℕ → List ℕ
allow_line allow = codes "allow = " ++ pair_text allow ++ codes "\n"

-- an empty line comes before each task
unfoldable pub task_text : Task → List ℕ
task_text task =
    codes "\n[[task]]\n"
    ++ name_line task.name
    ++ number_line (codes "offset") task.offset
    ++ number_line (codes "period") task.period
    ++ number_line (codes "deadline") task.deadline
    ++ tables_line task.cycle
    ++ allow_line task.allow

abbrev pub canonical_text : Sheet → List ℕ
canonical_text sheet = settings_text (canonical_format sheet.tasks) sheet.settings ++ flat_map task_text sheet.tasks

-- ---- the document

abbrev pub number_data : ℕ → Data
number_data n = integer (pos n)

abbrev pub pair_data : ℕ × ℕ → Data
pair_data pair = array (item (number_data pair.0) (item (number_data pair.1) no_items))

abbrev pub pairs_data : Table → Items
pairs_data [] = no_items
pairs_data (pair ∷ pairs) = item (pair_data pair) (pairs_data pairs)

abbrev pub tables_data : List Table → Items
tables_data [] = no_items
tables_data (times ∷ tables) = item (array (pairs_data times)) (tables_data tables)

-- the members of a table stand by rising key: `cycle`, where it is there, after `allow`, and `times` last
abbrev pub with_cycle : List Table → Members → Members
with_cycle [] rest = rest
with_cycle (times ∷ []) rest = rest
with_cycle (first ∷ second ∷ tables) rest = member (codes "cycle") (array (tables_data (first ∷ second ∷ tables))) rest

abbrev pub times_member : List Table → Members
times_member (times ∷ []) = member (codes "times") (array (pairs_data times)) no_members
times_member _ = no_members

abbrev pub task_document : Task → Members
task_document task =
    member (codes "allow") (pair_data task.allow)
    (with_cycle task.cycle
    (member (codes "deadline") (number_data task.deadline)
    (member (codes "name") (string task.name)
    (member (codes "offset") (number_data task.offset)
    (member (codes "period") (number_data task.period)
    (times_member task.cycle))))))

abbrev pub tasks_data : List Task → Items
tasks_data [] = no_items
tasks_data (task ∷ tasks) = item (table (task_document task)) (tasks_data tasks)

abbrev pub support_data : Support → Data
support_data support = table (member (codes "fine") (number_data support.fine) (member (codes "step") (number_data support.step) no_members))

abbrev pub with_support : Option Support → Members → Members
with_support None rest = rest
with_support (Some support) rest = member (codes "support") (support_data support) rest

abbrev pub document_of : Sheet → Members
document_of sheet =
    member (codes "cap") (number_data sheet.settings.cap)
    (member (codes "format") (number_data (canonical_format sheet.tasks))
    (member (codes "hyperperiods") (number_data sheet.settings.hyperperiods)
    (with_support sheet.settings.support
    (member (codes "task") (array (tasks_data sheet.tasks))
    (member (codes "turns") (number_data sheet.settings.turns)
    no_members)))))

-- ---- what a sheet needs, so that a text can state it

-- TOML has this number
abbrev pub IsTomlNumber : ℕ → Type 0
IsTomlNumber n = n < 2 ^ 63

pub record IsTomlPair (pair : ℕ × ℕ) : Type 0 where
  pub first : IsTomlNumber pair.0
  pub second : IsTomlNumber pair.1

abbrev pub IsTomlSupport : Option Support → Type 0
IsTomlSupport None = Unit {0}
IsTomlSupport (Some support) = IsTomlPair (support.fine, support.step)

pub record AreStatable (settings : Settings) : Type 0 where
  pub cap : IsTomlNumber settings.cap
  pub hyperperiods : IsTomlNumber settings.hyperperiods
  pub turns : IsTomlNumber settings.turns
  pub support : IsTomlSupport settings.support

pub record IsStatableTask (task : Task) : Type 0 where
  pub name : is_good_name task.name ≡ true
  pub offset : IsTomlNumber task.offset
  pub period : IsTomlNumber task.period
  pub deadline : IsTomlNumber task.deadline
  pub some_tables : 1 ≤ length task.cycle
  pub tables : All (All IsTomlPair) task.cycle
  pub allow : IsTomlPair task.allow

pub record IsStatable (sheet : Sheet) : Type 0 where
  pub settings : AreStatable sheet.settings
  pub some : 1 ≤ length sheet.tasks
  pub tasks : All IsStatableTask sheet.tasks

-- `toml` reads the canonical text back as the document
abbrev pub TextStatesSheet : Type 0
TextStatesSheet = (sheet : Sheet) → IsStatable sheet → document (canonical_text sheet) ≡ Some (document_of sheet)

-- accepted sheets are statable
abbrev pub AcceptedAreStatable : Type 0
AcceptedAreStatable = (sheet : Sheet) → IsAccepted sheet → IsStatable sheet
