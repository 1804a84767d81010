-- The lines on err for a refused sheet and for a refused second file: the number of the condition, and where or by what it failed.
use Rattle.std.specs.Prelude.{ℕ, List, [], ◌++◌, codes, decimal}
use Rattle.prta_sheet.specs.declared.fault.Place.{Place}
use Rattle.prta_sheet.specs.declared.fault.Place.TheVariants as place
use Rattle.prta_sheet.specs.declared.fault.Key.{Key}
use Rattle.prta_sheet.specs.declared.fault.Key.TheVariants as key
use Rattle.prta_sheet.specs.declared.fault.SheetFault.{SheetFault}
use Rattle.prta_sheet.specs.declared.fault.SheetFault.TheVariants.{TooLong, NotToml, Format, UnknownKey, MissingKey, WrongKind, OutOfRange, TaskCount, BadName, RepeatedName, OffsetNotBelowPeriod, BadTable, TotalTooLarge, DeadlineNotBelowCap, HyperperiodTooLarge, TooManyJobs, TooMuchWork, NoMemory}
use Rattle.prta_sheet.specs.Refusal.{number_of}
use Rattle.prta_cli.specs.declared.times.TimesFault.{TimesFault}
use Rattle.prta_cli.specs.declared.times.TimesFault.TheVariants as times
use Rattle.prta_certfile.specs.declared.fault.CertFault.{CertFault}
use Rattle.prta_certfile.specs.declared.fault.CertFault.TheVariants as certificate
use Rattle.prta_certfile.specs.Reading.{number_of as certificate_number}
use Rattle.prta_times.specs.declared.fault.CountsFault.{CountsFault}
use Rattle.prta_times.specs.declared.fault.CountsFault.TheVariants as counts
use Rattle.prta_times.specs.Counts.{number_of as counts_number}
use Rattle.prta_session.specs.declared.fault.ScriptFault.{ScriptFault}
use Rattle.prta_session.specs.declared.fault.ScriptFault.TheVariants as script
use Rattle.prta_session.specs.Script.{number_of as script_number}
use Rattle.prta_cli.specs.declared.input.InputFault.{InputFault}
use Rattle.prta_cli.specs.declared.input.InputFault.TheVariants as input

abbrev pub key_text : Key → List ℕ
key_text key.Format = codes "format"
key_text key.Cap = codes "cap"
key_text key.Hyperperiods = codes "hyperperiods"
key_text key.Turns = codes "turns"
key_text key.Support = codes "support"
key_text key.Fine = codes "fine"
key_text key.Step = codes "step"
key_text key.Task = codes "task"
key_text key.Name = codes "name"
key_text key.Offset = codes "offset"
key_text key.Period = codes "period"
key_text key.Deadline = codes "deadline"
key_text key.Times = codes "times"
key_text key.Cycle = codes "cycle"
key_text key.Allow = codes "allow"

unfoldable pub at_task : ℕ → List ℕ
at_task i = codes " at task " ++ decimal i

abbrev pub at_place : Place → List ℕ
at_place place.Top = codes " at top"
at_place place.Support = codes " at support"
at_place (place.Task i) = at_task i

unfoldable pub at_key : Place → Key → List ℕ
at_key p k = at_place p ++ codes " key " ++ key_text k

unfoldable pub with_value : ℕ → List ℕ
with_value n = codes " value " ++ decimal n

abbrev pub tail : SheetFault → List ℕ
tail TooLong = []
tail NotToml = []
tail Format = []
tail (UnknownKey p) = at_place p
tail (MissingKey p k) = at_key p k
tail (WrongKind p k) = at_key p k
tail (OutOfRange p k) = at_key p k
tail (TaskCount n) = with_value n
tail (BadName i) = at_task i
tail (RepeatedName i) = at_task i
tail (OffsetNotBelowPeriod i) = at_task i
tail (BadTable i f) = at_task i
tail (TotalTooLarge i) = at_task i
tail (DeadlineNotBelowCap i) = at_task i
tail HyperperiodTooLarge = []
tail (TooManyJobs n) = with_value n
tail (TooMuchWork n) = with_value n
tail NoMemory = []

unfoldable pub refused_line : SheetFault → List ℕ
refused_line fault = codes "prta: sheet refused " ++ decimal (number_of fault) ++ tail fault ++ codes "\n"

-- of a file of chosen times
abbrev pub times_number : TimesFault → ℕ
times_number times.TooLong = 1
times_number (times.BadLine n) = 2
times_number (times.WrongCount n) = 3
times_number (times.NotInTable n) = 4

abbrev pub times_tail : TimesFault → List ℕ
times_tail times.TooLong = []
times_tail (times.BadLine n) = with_value n
times_tail (times.WrongCount n) = with_value n
times_tail (times.NotInTable n) = with_value n

-- of a certificate
abbrev pub certificate_tail : CertFault → List ℕ
certificate_tail certificate.TooLong = []
certificate_tail (certificate.BadLine n) = with_value n
certificate_tail (certificate.WrongTask n) = with_value n
certificate_tail (certificate.NotIncreasing n) = with_value n
certificate_tail (certificate.PlaceTooLarge n) = with_value n
certificate_tail (certificate.NotWhole n) = with_value n
certificate_tail certificate.NoMemory = []

-- of a file of counts
abbrev pub counts_tail : CountsFault → List ℕ
counts_tail counts.TooLong = []
counts_tail counts.BadHeader = []
counts_tail (counts.BadRow n) = with_value n
counts_tail (counts.UnknownTask n) = with_value n
counts_tail (counts.TooManyPoints i) = with_value i
counts_tail (counts.TotalTooLarge i) = with_value i
counts_tail (counts.TooMuchWork n) = with_value n
counts_tail counts.NoMemory = []

-- of a script
abbrev pub script_tail : ScriptFault → List ℕ
script_tail script.TooLong = []
script_tail (script.BadLine n) = with_value n
script_tail (script.UnknownTask n) = with_value n
script_tail (script.BadTable n) = with_value n
script_tail (script.BadEdit n) = with_value n
script_tail script.NoMemory = []

abbrev pub input_number : InputFault → ℕ
input_number (input.Times fault) = times_number fault
input_number (input.Certificate fault) = certificate_number fault
input_number (input.Counts fault) = counts_number fault
input_number (input.Script fault) = script_number fault

abbrev pub input_tail : InputFault → List ℕ
input_tail (input.Times fault) = times_tail fault
input_tail (input.Certificate fault) = certificate_tail fault
input_tail (input.Counts fault) = counts_tail fault
input_tail (input.Script fault) = script_tail fault

unfoldable pub input_line : InputFault → List ℕ
input_line fault = codes "prta: input refused " ++ decimal (input_number fault) ++ input_tail fault ++ codes "\n"
