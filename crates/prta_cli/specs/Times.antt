-- The conditions on a file of chosen times, in order.
use Rattle.std.specs.Prelude.{ℕ, not, nat_eq, nat_lt, Option, option_map, List, map, length}
use Rattle.std.specs.Str.Lines.{lines}
use Rattle.prta_mass.specs.Table.{or_else, when}
use Rattle.prta_sheet.specs.Sheet.{Sheet}
use Rattle.prta_sheet.specs.Job.{analysed_jobs}
use Rattle.prta_number.specs.Decimal.{value_of}
use Rattle.prta_ticksim.specs.Choices.{bad_line}
use Rattle.prta_ticksim.specs.Start.{first_foreign}
use Rattle.prta_cli.specs.declared.times.TimesFault.{TimesFault}
use Rattle.prta_cli.specs.declared.times.TimesFault.TheVariants.{TooLong, BadLine, WrongCount, NotInTable}

-- the times of a file, one a line
abbrev pub times_in : List ℕ → List ℕ
times_in bytes = map value_of (lines bytes)

-- there is one time for each analysed job
abbrev pub wrong_count : Sheet → List ℕ → Option TimesFault
wrong_count sheet times = when (not (nat_eq (length times) (length (analysed_jobs sheet)))) (WrongCount (length times))

-- each time is in its job's table
abbrev pub not_in_table : Sheet → List ℕ → Option TimesFault
not_in_table sheet times = option_map (λ i. NotInTable i) (first_foreign sheet.tasks (analysed_jobs sheet) times)

-- the first condition that fails; none where the file has a time for each job
abbrev pub times_fault : Sheet → List ℕ → Option TimesFault
times_fault sheet bytes =
    or_else (when (nat_lt 1048576 (length bytes)) TooLong)
    (or_else (option_map (λ line. BadLine line) (bad_line bytes))
    (or_else (wrong_count sheet (times_in bytes)) (not_in_table sheet (times_in bytes))))
