-- What a line of a script says: `table NAME INDEX TIME:WEIGHT ..`, `deadline NAME D`, `allow NAME P Q` or `print`, its words parted by
-- single spaces, its numbers in decimal.
use Rattle.std.specs.Prelude.{ℕ, ◌-◌, ◌^◌, if◌then◌else◌, Option, Some, None, option_map, position, List, [], ◌∷◌, codes, bytes_eq}
use Rattle.prta_number.specs.Decimal.{number_within}
use Rattle.prta_sheet.specs.Sheet.{Task}
use Rattle.prta_sheet.specs.Accepted.{is_good_name}
use Rattle.prta_sheet.specs.Document.{◌>>=◌}
use Rattle.prta_sheet.specs.declared.edit.Edit.{Edit}
use Rattle.prta_sheet.specs.declared.edit.Edit.TheVariants as edit
use Rattle.prta_session.specs.declared.said.Part.{Part}
use Rattle.prta_session.specs.declared.said.Part.TheVariants.{Table, Deadline, Allow}
use Rattle.prta_session.specs.declared.said.Said.{Said}
use Rattle.prta_session.specs.declared.said.Said.TheVariants.{Print, Change}
use Rattle.prta_session.specs.Text.{parts}

-- ---- the words after the name

-- a number of 32 bits
abbrev pub short_number : List ℕ → Option ℕ
short_number word = number_within 0 (2 ^ 32 - 1) word

-- two numbers, the first at most this, and the second of 64 bits
abbrev pub two_in : ℕ → List (List ℕ) → Option (ℕ × ℕ)
two_in most (first ∷ second ∷ []) = number_within 0 most first >>= (λ a. number_within 0 (2 ^ 64 - 1) second >>= (λ b. Some (a, b)))
two_in most _ = None

-- TIME:WEIGHT
abbrev pub pair_said : List ℕ → Option (ℕ × ℕ)
pair_said word = two_in (2 ^ 32 - 1) (parts 58 word)

-- each word is one
abbrev pub pairs_in : List (List ℕ) → Option (List (ℕ × ℕ))
pairs_in [] = Some []
pairs_in (word ∷ rest) = pair_said word >>= (λ pair. pairs_in rest >>= (λ pairs. Some (pair ∷ pairs)))

-- INDEX and one or more pairs
abbrev pub table_in : List (List ℕ) → Option Part
table_in (index ∷ pair ∷ pairs) = short_number index >>= (λ i. option_map (Table i) (pairs_in (pair ∷ pairs)))
table_in _ = None

-- D
abbrev pub deadline_in : List (List ℕ) → Option Part
deadline_in (value ∷ []) = option_map Deadline (short_number value)
deadline_in _ = None

-- P Q
abbrev pub allow_in : List (List ℕ) → Option Part
allow_in words = option_map (λ two. Allow two.0 two.1) (two_in (2 ^ 64 - 1) words)

-- what is to be changed, by the first word and those after the name
abbrev pub part_said : List ℕ → List (List ℕ) → Option Part
part_said kind words =
    if bytes_eq kind (codes "table") then table_in words
    else if bytes_eq kind (codes "deadline") then deadline_in words
    else if bytes_eq kind (codes "allow") then allow_in words
    else None

-- ---- a line

-- the first task with a name
abbrev pub task_named : List Task → List ℕ → Option ℕ
task_named tasks name = position (λ task. bytes_eq task.name name) tasks

-- what a line of these words says, where it is of a form: to print, or to change a part of the task of that name, if a task has it
abbrev pub said_by : List Task → List (List ℕ) → Option Said
said_by tasks [] = None
said_by tasks (kind ∷ []) = if bytes_eq kind (codes "print") then Some Print else None
said_by tasks (kind ∷ name ∷ rest) = if is_good_name name then option_map (Change (task_named tasks name)) (part_said kind rest) else None

abbrev pub line_said : List Task → List ℕ → Option Said
line_said tasks line = said_by tasks (parts 32 line)

-- ---- the edit that a change is

abbrev pub edit_from : ℕ → Part → Edit
edit_from task (Table index pairs) = edit.Table task index pairs
edit_from task (Deadline value) = edit.Deadline task value
edit_from task (Allow p q) = edit.Allow task p q
