-- Worked edits of a sheet of two tasks.
use Rattle.std.specs.Prelude.{◌≡◌, ℕ, Some, None, List, [], ◌∷◌, codes}
use Rattle.prta_mass.specs.Table.{Table}
use Rattle.prta_sheet.specs.declared.edit.Edit.TheVariants as edit
use Rattle.prta_sheet.specs.declared.edit.EditFault.TheVariants.{NoTable, Refused}
use Rattle.prta_sheet.specs.Sheet.{Task, Sheet}
use Rattle.prta_sheet.specs.Edits.{edited, edit_fault}

abbrev pub task : List ℕ → ℕ → ℕ → Table → Task
task name period deadline table = record { name = name; offset = 0; period = period; deadline = deadline; cycle = table ∷ []; allow = (0, 1) }

-- A of period 4 above B of period 8, B with this deadline and this table
abbrev pub pair : ℕ → Table → Sheet
pair deadline table =
    record {
      settings = record { cap = 2048; hyperperiods = 1; turns = 16; support = None };
      tasks = task (codes "A") 4 4 ((1, 1) ∷ (2, 1) ∷ []) ∷ task (codes "B") 8 deadline table ∷ [];
    }

abbrev pub two : Table
two = (2, 1) ∷ (4, 1) ∷ []

pub record WorkedEdits : Type 0 where
  pub another_table : edited (edit.Table 1 0 ((5, 1) ∷ [])) (pair 7 two) ≡ pair 7 ((5, 1) ∷ [])
  pub another_deadline : edited (edit.Deadline 1 8) (pair 7 two) ≡ pair 8 two
  pub good_table : edit_fault (edit.Table 1 0 ((5, 1) ∷ [])) (pair 7 two) ≡ None
  pub good_deadline : edit_fault (edit.Deadline 1 8) (pair 7 two) ≡ None
  pub good_allowance : edit_fault (edit.Allow 0 1 4) (pair 7 two) ≡ None
  -- the cycle has one table
  pub no_table : edit_fault (edit.Table 0 1 ((2, 1) ∷ [])) (pair 7 two) ≡ Some NoTable
  pub great_time : edit_fault (edit.Table 0 0 ((1000001, 1) ∷ [])) (pair 7 two) ≡ Some (Refused 7)
  pub no_deadline : edit_fault (edit.Deadline 1 0) (pair 7 two) ≡ Some (Refused 7)
  pub greatest_deadline : edit_fault (edit.Deadline 1 2046) (pair 7 two) ≡ None
  pub great_deadline : edit_fault (edit.Deadline 1 2047) (pair 7 two) ≡ Some (Refused 13)
  pub great_allowance : edit_fault (edit.Allow 0 2 1) (pair 7 two) ≡ Some (Refused 7)
