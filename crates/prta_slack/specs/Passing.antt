-- Whether a sheet passes, as it is and with ticks added to a task.
use Rattle.std.specs.Prelude.{ℕ, Bool, is_none}
use Rattle.prta_sheet.specs.Sheet.{Sheet}
use Rattle.prta_sheet.specs.Added.{sheet_with_added}
use Rattle.prta_dual.specs.Failing.{failing_job}

-- no analysed job's upper number, with the tasks before its own above it, fails its task's allowance
abbrev pub sheet_passes : Sheet → Bool
sheet_passes sheet = is_none (failing_job sheet)

-- the sheet passes with s ticks added to each time of a task
abbrev pub passes_with : Sheet → ℕ → ℕ → Bool
passes_with sheet task s = sheet_passes (sheet_with_added sheet task s)
