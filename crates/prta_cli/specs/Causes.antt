-- What the answers of the program are tied to.
use Rattle.std.specs.Prelude.{◌≡◌, ℕ, ◌<◌, ◌⊎◌, Option, IfSome, IsSomeAnd, List, [], ◌∷◌, ◌++◌, ⊤}
use Rattle.prta_outside.specs.Shelf.{count_of}
use Rattle.prta_sheet.specs.Sheet.{Sheet}
use Rattle.prta_sheet.specs.declared.fault.SheetFault.{SheetFault}
use Rattle.prta_cli.specs.declared.status.Status.{Status}
use Rattle.prta_cli.specs.declared.status.Status.TheVariants.{Done, No, Usage, SheetRefused, InputRefused, ReadFault, WriteFault, NoMemory}
use Rattle.prta_cli.specs.declared.input.InputFault.{InputFault}
use Rattle.prta_certfile.specs.Reading.{levels_of}
use Rattle.prta_sheet.specs.Accepted.{IsAccepted}
use Rattle.prta_gen.specs.Generator.{generated}
use Rattle.prta_times.specs.Counts.{sheet_with, reduced_sheet}
use Rattle.prta_times.specs.LaterTimes.{IsSafeFor}
use Rattle.prta_cli.specs.declared.words.Kept.{Kept}
use Rattle.prta_cli.specs.declared.words.Kept.TheVariants.{AllTimes, AtMost}
use Rattle.prta_cli.specs.declared.words.SheetCommand.{SheetCommand}
use Rattle.prta_cli.specs.declared.words.SheetCommand.TheVariants.{Analyse, AnalyseCsv, Ledger, Check, Certify, Tail, Assign, Slack}
use Rattle.prta_cli.specs.declared.words.FilesCommand.{FilesCommand}
use Rattle.prta_cli.specs.declared.words.FilesCommand.TheVariants.{Verify, Simulate, Session, Import}
use Rattle.prta_cli.specs.Words.{Command, of_sheet, of_files, of_seed, command, sheet_name, second_name}
use Rattle.prta_cli.specs.Answer.{Files, answer, err_line, sheet_under, IsAcceptedFile}
use Rattle.prta_writer.specs.Meaning.{AreAround, AreClose, ChancesPass, AreFound, LevelsHold, NumbersHold}
use Rattle.prta_audsley.specs.Verdict.{VerdictHolds}
use Rattle.prta_session.specs.Script.{script_lines}
use Rattle.prta_writer.specs.Slacks.{SlacksSay}
use Rattle.prta_writer.specs.Playing.{AreAroundAtPrints}
use Rattle.prta_cli.specs.Refused.{refused_line, input_line}

-- between two lists of the names of a shelf's failed reads the count of a name rose
abbrev pub HasFailed : List (List ℕ) → List (List ℕ) → List ℕ → Type 0
HasFailed before now name = count_of before name < count_of now name

-- that of the sheet's name, where the command reads a sheet
abbrev pub SheetFailed : List (List ℕ) → List (List ℕ) → List (List ℕ) → Type 0
SheetFailed words before now = IsSomeAnd (command words) (λ c. IsSomeAnd (sheet_name c) (HasFailed before now))

-- that of the second file's name, where the command has a second file
abbrev pub SecondFailed : List (List ℕ) → List (List ℕ) → List (List ℕ) → Type 0
SecondFailed words before now = IsSomeAnd (command words) (λ c. IsSomeAnd (second_name c) (HasFailed before now))

-- that of a name that the command reads
abbrev pub ReadFailed : List (List ℕ) → List (List ℕ) → List (List ℕ) → Type 0
ReadFailed words before now = SheetFailed words before now ⊎ SecondFailed words before now

-- one name was noted
abbrev pub IsNoted : List (List ℕ) → List (List ℕ) → Option (List ℕ) → Type 0
IsNoted before now name = IsSomeAnd name (λ n. now ≡ before ++ n ∷ [])

-- the read of the sheet failed, or after that of an accepted sheet the read of the second file
abbrev pub IsReadFault : Option Files → Command → List (List ℕ) → List (List ℕ) → Type 0
IsReadFault held c before now =
    IsNoted before now (sheet_name c)
    ⊎ (IsNoted before now (second_name c) × IfSome held (λ files. IsSomeAnd (sheet_name c) (λ name. IsAcceptedFile (files name))))

-- the steady numbers for each list that the held bytes state hold in every hyperperiod
abbrev pub HoldsFor : Sheet → Option (List ℕ) → Type 0
HoldsFor sheet held = IsSomeAnd held (λ bytes. NumbersHold sheet (levels_of sheet.tasks bytes))

-- the sheet with the tables that are made of the held counts is accepted; and where they are reduced, no exact chance of a miss by the
-- tables as they were counted is above the one by the sheet's
abbrev pub IsSafeKeeping : Kept → Sheet → List ℕ → Type 0
IsSafeKeeping AllTimes sheet bytes = IsAccepted (sheet_with sheet bytes)
IsSafeKeeping (AtMost k) sheet bytes = IsAccepted (reduced_sheet k sheet bytes) × IsSafeFor (sheet_with sheet bytes).tasks (reduced_sheet k sheet bytes)

abbrev pub IsSafeWith : Kept → Sheet → Option (List ℕ) → Type 0
IsSafeWith kept sheet held = IsSomeAnd held (IsSafeKeeping kept sheet)

-- the numbers of each print of the held script are around the exact chances
abbrev pub IsShownBy : Sheet → Option (List ℕ) → Type 0
IsShownBy sheet held = IsSomeAnd held (λ bytes. AreAroundAtPrints sheet (script_lines sheet bytes))

-- what a run that ended with Done shows of the sheet: of `analyse` and `ledger` that each job's numbers are around its exact chance, and
-- no further apart than its entries add up to; of `check` that each exact chance passes; of `certify` that what is found for each level
-- is so; of `tail` that the steady numbers of each level hold in every hyperperiod; of `assign` that what the verdict says is so; of `slack` that what
-- the slack of each task says is so, and that each exact chance passes
abbrev pub IsShownOfSheet : SheetCommand → Sheet → Type 0
IsShownOfSheet Analyse sheet = AreAround sheet × AreClose sheet
IsShownOfSheet AnalyseCsv sheet = AreAround sheet × AreClose sheet
IsShownOfSheet Ledger sheet = AreAround sheet × AreClose sheet
IsShownOfSheet Check sheet = ChancesPass sheet
IsShownOfSheet Certify sheet = AreFound sheet
IsShownOfSheet Tail sheet = LevelsHold sheet
IsShownOfSheet Assign sheet = VerdictHolds sheet
IsShownOfSheet Slack sheet = SlacksSay sheet × ChancesPass sheet

-- of the sheet with the second file: of `verify` that the steady numbers for each list of the certificate hold in every hyperperiod; of
-- `session` that at each print each job's numbers are around its exact chance by the sheet as it then is; of
-- `import` and `reduce` that the sheet whose text is written is an accepted one, and after `reduce` that its exact chances are on the safe
-- side of what was counted
abbrev pub IsShownOfFiles : FilesCommand → Sheet → Option (List ℕ) → Type 0
IsShownOfFiles Verify sheet held = HoldsFor sheet held
IsShownOfFiles Simulate sheet held = ⊤
IsShownOfFiles Session sheet held = IsShownBy sheet held
IsShownOfFiles (Import kept) sheet held = IsSafeWith kept sheet held

-- of the sheet that is stated under the name; of a generated sheet that it is accepted
abbrev pub IsShown : Files → Command → Type 0
IsShown files (of_sheet name asked) = IsSomeAnd (sheet_under files name) (IsShownOfSheet asked)
IsShown files (of_files name second asked) = IsSomeAnd (sheet_under files name) (λ sheet. IsShownOfFiles asked sheet (files second))
IsShown files (of_seed seed tasks asked) = IsAccepted (generated seed tasks)

-- what a run that ended with No shows: of `assign` that what the verdict says is so, and of `slack` what the slacks say
abbrev pub IsShownByNoOf : SheetCommand → Sheet → Type 0
IsShownByNoOf Assign sheet = VerdictHolds sheet
IsShownByNoOf Slack sheet = SlacksSay sheet
IsShownByNoOf asked sheet = ⊤

abbrev pub IsShownByNo : Files → Command → Type 0
IsShownByNo files (of_sheet name asked) = IsSomeAnd (sheet_under files name) (IsShownByNoOf asked)
IsShownByNo files c = ⊤

-- where a shelf tells its files, the answer to the words has the status
abbrev pub AnswerIs : Option Files → List (List ℕ) → Status → Type 0
AnswerIs held words status = IfSome held (λ files. (answer files words).status ≡ status)

-- a status, or want of memory in its place
abbrev pub IsOrNoMemory : Status → Status → Type 0
IsOrNoMemory status wanted = (status ≡ wanted) ⊎ (status ≡ NoMemory)

-- a status that comes before the first byte of out, where the words are a command
abbrev pub IsBeforeOut : Status → Type 0
IsBeforeOut Done = ⊥
IsBeforeOut No = ⊥
IsBeforeOut Usage = ⊥
IsBeforeOut SheetRefused = ⊤
IsBeforeOut InputRefused = ⊤
IsBeforeOut ReadFault = ⊤
IsBeforeOut WriteFault = ⊥
IsBeforeOut NoMemory = ⊤

-- a status where the words are a command
abbrev pub IsAfterWords : Status → Type 0
IsAfterWords Usage = ⊥
IsAfterWords _ = ⊤

-- the line of a status: for a refused file that of some condition
abbrev pub IsLine : Status → List ℕ → Type 0
IsLine SheetRefused line = (fault : SheetFault) × (line ≡ refused_line fault)
IsLine InputRefused line = (fault : InputFault) × (line ≡ input_line fault)
IsLine status line = line ≡ err_line status

-- a status whose line tells a condition
abbrev pub TellsCondition : Status → Type 0
TellsCondition SheetRefused = ⊤
TellsCondition InputRefused = ⊤
TellsCondition status = ⊥

-- and where the shelf tells its files, that of the condition by which the answer refuses the file
abbrev pub IsLineFor : Option Files → List (List ℕ) → Status → List ℕ → Type 0
IsLineFor held words status line = IsLine status line × IfSome held (λ files. TellsCondition status → line ≡ (answer files words).err)
