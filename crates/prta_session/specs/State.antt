-- Sessions: a sheet under edits, and which of its tasks are fresh.
use Rattle.std.specs.Prelude.{ℕ, Bool, true, false, not, ◌&&◌, nat_le, nat_eq, List, map, filter, length, slice_index_or}
use Rattle.std.specs.List.{range_with_len}
use Rattle.prta_sheet.specs.declared.edit.Edit.{Edit}
use Rattle.prta_sheet.specs.declared.edit.Edit.TheVariants.{Table, Deadline, Allow}
use Rattle.prta_sheet.specs.Sheet.{Sheet}
use Rattle.prta_sheet.specs.Edits.{edited}

-- the sheet as it is now, and for each of its tasks whether it is fresh: whether its numbers are those of this sheet
pub record SessionState : Type 0 where
  pub sheet : Sheet
  pub fresh : List Bool

-- one flag for each of n tasks
abbrev pub flags : ℕ → (ℕ → Bool) → List Bool
flags n f = map f (range_with_len 0 n)

-- a task is fresh; past the sheet none is
abbrev pub is_fresh : SessionState → ℕ → Bool
is_fresh session task = slice_index_or session.fresh task false

-- an edit makes a task stale: a table its task and all after it on the sheet, a deadline its task, an allowance none
abbrev pub makes_stale : Edit → ℕ → Bool
makes_stale (Table task index table) i = nat_le task i
makes_stale (Deadline task value) i = nat_eq i task
makes_stale (Allow task p q) i = false

-- a new session: every task is stale
abbrev pub session_of : Sheet → SessionState
session_of sheet = record { sheet = sheet; fresh = flags (length sheet.tasks) (λ task. false) }

-- after an edit
abbrev pub session_edited : Edit → SessionState → SessionState
session_edited edit session = record {
  sheet = edited edit session.sheet;
  fresh = flags (length session.sheet.tasks) (λ task. is_fresh session task && not (makes_stale edit task));
}

-- after all stale tasks are analysed: every task is fresh
abbrev pub refreshed : SessionState → SessionState
refreshed session = record { sheet = session.sheet; fresh = flags (length session.sheet.tasks) (λ task. true) }

-- the stale tasks, in sheet order
abbrev pub stale_tasks : SessionState → List ℕ
stale_tasks session = filter (λ task. not (is_fresh session task)) (range_with_len 0 (length session.sheet.tasks))
