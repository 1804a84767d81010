-- The words of the command line.
use Rattle.std.specs.Prelude.{ℕ, ◌-◌, ◌==◌, ◌^◌, ◌≤◌, ⊤, true, false, Option, Some, None, List, [], ◌∷◌, codes, bytes_eq, if◌then◌else◌}
use Rattle.prta_mass.specs.declared.table.TheConstants.{POINT_LIMIT}
use Rattle.prta_number.specs.Decimal.{number_within}
use Rattle.prta_sheet.specs.declared.limits.TheConstants.{TASK_LIMIT}
use Rattle.prta_sheet.specs.Document.{◌>>=◌}
use Rattle.prta_words.specs.Words.{are_good, positional_words, flag_count}
use Rattle.prta_cli.specs.declared.words.Command.{Command as NamedCommand}
use Rattle.prta_cli.specs.declared.words.Command.TheVariants.{OfSheet, OfFiles, OfSeed}
use Rattle.prta_cli.specs.declared.words.SheetCommand.{SheetCommand}
use Rattle.prta_cli.specs.declared.words.SheetCommand.TheVariants.{Analyse, AnalyseCsv, Ledger, Check, Certify, Tail, Assign, Slack}
use Rattle.prta_cli.specs.declared.words.FilesCommand.{FilesCommand}
use Rattle.prta_cli.specs.declared.words.FilesCommand.TheVariants.{Verify, Simulate, Session, Import}
use Rattle.prta_cli.specs.declared.words.Kept.{Kept}
use Rattle.prta_cli.specs.declared.words.Kept.TheVariants.{AllTimes, AtMost}
use Rattle.prta_cli.specs.declared.words.SeedCommand.{SeedCommand}
use Rattle.prta_cli.specs.declared.words.SeedCommand.TheVariants.{Generate, Bench}

-- a command: what is asked of the sheet under a name, of such a sheet with the file under a second name, or of the sheet that a seed
-- and a number of tasks make
pub data Command : Type 0 where
  of_sheet : List ℕ → SheetCommand → Command
  of_files : List ℕ → List ℕ → FilesCommand → Command
  of_seed : ℕ → ℕ → SeedCommand → Command

-- ---- the words after the first

-- what is made of one name, of two, and of three; None of any other number of names
abbrev pub by_name : (List ℕ → Option Command) → List (List ℕ) → Option Command
by_name made (name ∷ []) = made name
by_name made _ = None

abbrev pub by_names : (List ℕ → List ℕ → Option Command) → List (List ℕ) → Option Command
by_names made (first ∷ second ∷ []) = made first second
by_names made _ = None

abbrev pub by_three : (List ℕ → List ℕ → List ℕ → Option Command) → List (List ℕ) → Option Command
by_three made (first ∷ second ∷ third ∷ []) = made first second third
by_three made _ = None

-- `analyse`, with the flag for records or without it
abbrev pub analyse_command : List (List ℕ) → Option Command
analyse_command rest =
    if are_good true 1 rest
    then by_name (λ sheet. Some (of_sheet sheet (if flag_count true rest == 1 then AnalyseCsv else Analyse))) (positional_words true rest)
    else None

-- the other commands that read a sheet alone
abbrev pub sheet_command : SheetCommand → List (List ℕ) → Option Command
sheet_command asked rest = if are_good false 1 rest then by_name (λ sheet. Some (of_sheet sheet asked)) (positional_words false rest) else None

-- those that read a second file
abbrev pub files_command : FilesCommand → List (List ℕ) → Option Command
files_command asked rest = if are_good false 2 rest then by_names (λ sheet second. Some (of_files sheet second asked)) (positional_words false rest) else None

-- tables of 1 to 32 times
abbrev pub points_number : List ℕ → List ℕ → List ℕ → Option Command
points_number sheet counts points = number_within 1 POINT_LIMIT points >>= (λ k. Some (of_files sheet counts (Import (AtMost k))))

abbrev pub reduce_command : List (List ℕ) → Option Command
reduce_command rest = if are_good false 3 rest then by_three points_number (positional_words false rest) else None

-- a seed below 2^64, and 1 to 12 tasks
abbrev pub seed_numbers : SeedCommand → List ℕ → List ℕ → Option Command
seed_numbers asked seed tasks = number_within 0 (2 ^ 64 - 1) seed >>= (λ s. number_within 1 TASK_LIMIT tasks >>= (λ n. Some (of_seed s n asked)))

-- those that read no file
abbrev pub seed_command : SeedCommand → List (List ℕ) → Option Command
seed_command asked rest = if are_good false 2 rest then by_names (seed_numbers asked) (positional_words false rest) else None

-- ---- all words

-- the command of the first word with the words after it
abbrev pub command_by : List ℕ → List (List ℕ) → Option Command
command_by word rest =
    if bytes_eq word (codes "analyse") then analyse_command rest
    else if bytes_eq word (codes "ledger") then sheet_command Ledger rest
    else if bytes_eq word (codes "check") then sheet_command Check rest
    else if bytes_eq word (codes "certify") then sheet_command Certify rest
    else if bytes_eq word (codes "tail") then sheet_command Tail rest
    else if bytes_eq word (codes "assign") then sheet_command Assign rest
    else if bytes_eq word (codes "slack") then sheet_command Slack rest
    else if bytes_eq word (codes "verify") then files_command Verify rest
    else if bytes_eq word (codes "simulate") then files_command Simulate rest
    else if bytes_eq word (codes "session") then files_command Session rest
    else if bytes_eq word (codes "import") then files_command (Import AllTimes) rest
    else if bytes_eq word (codes "reduce") then reduce_command rest
    else if bytes_eq word (codes "generate") then seed_command Generate rest
    else if bytes_eq word (codes "bench") then seed_command Bench rest
    else None

-- the command that words are; none in any other words
abbrev pub command : List (List ℕ) → Option Command
command [] = None
command (word ∷ rest) = command_by word rest

-- a command of the program, as contracts see it
abbrev pub command_of : NamedCommand → Command
command_of (OfSheet sheet asked) = of_sheet sheet.now asked
command_of (OfFiles sheet second asked) = of_files sheet.now second.now asked
command_of (OfSeed seed tasks asked) = of_seed seed tasks asked

-- the names of the sheet and of the second file, where they are read
abbrev pub sheet_name : Command → Option (List ℕ)
sheet_name (of_sheet sheet asked) = Some sheet
sheet_name (of_files sheet second asked) = Some sheet
sheet_name (of_seed seed tasks asked) = None

abbrev pub second_name : Command → Option (List ℕ)
second_name (of_sheet sheet asked) = None
second_name (of_files sheet second asked) = Some second
second_name (of_seed seed tasks asked) = None

-- reduced tables have 1 to 32 times
abbrev pub IsInRange : Kept → Type 0
IsInRange AllTimes = ⊤
IsInRange (AtMost k) = (1 ≤ k) × (k ≤ POINT_LIMIT)

abbrev pub KeepsInRange : FilesCommand → Type 0
KeepsInRange (Import kept) = IsInRange kept
KeepsInRange asked = ⊤

-- the numbers of a command are in their ranges: a generated sheet has 1 to 12 tasks
abbrev pub HasNumbers : NamedCommand → Type 0
HasNumbers (OfSheet sheet asked) = ⊤
HasNumbers (OfFiles sheet second asked) = KeepsInRange asked
HasNumbers (OfSeed seed tasks asked) = (1 ≤ tasks) × (tasks ≤ TASK_LIMIT)
