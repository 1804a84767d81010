-- The first condition that refuses a sheet's bytes, and its number.
use Rattle.std.specs.Prelude.{ℕ, nat_lt, Option, Some, None, List, length}
use Rattle.toml.specs.Data.{Members}
use Rattle.prta_mass.specs.Table.{or_else, when}
use Rattle.prta_sheet.specs.declared.limits.TheConstants.{SHEET_LIMIT}
use Rattle.prta_sheet.specs.declared.fault.SheetFault.{SheetFault}
use Rattle.prta_sheet.specs.declared.fault.SheetFault.TheVariants.{TooLong, NotToml, Format, UnknownKey, MissingKey, WrongKind, OutOfRange, TaskCount, BadName, RepeatedName, OffsetNotBelowPeriod, BadTable, TotalTooLarge, DeadlineNotBelowCap, HyperperiodTooLarge, TooManyJobs, TooMuchWork, NoMemory}
use Rattle.prta_sheet.specs.Document.{document}
use Rattle.prta_sheet.specs.Stated.{stated}
use Rattle.prta_sheet.specs.DocumentConditions.{document_fault}
use Rattle.prta_sheet.specs.SheetConditions.{later_fault}

-- the number of a condition
abbrev pub number_of : SheetFault → ℕ
number_of TooLong = 1
number_of NotToml = 2
number_of Format = 3
number_of (UnknownKey p) = 4
number_of (MissingKey p k) = 5
number_of (WrongKind p k) = 6
number_of (OutOfRange p k) = 7
number_of (TaskCount n) = 8
number_of (BadName i) = 9
number_of (RepeatedName i) = 9
number_of (OffsetNotBelowPeriod i) = 10
number_of (BadTable i f) = 11
number_of (TotalTooLarge i) = 12
number_of (DeadlineNotBelowCap i) = 13
number_of HyperperiodTooLarge = 14
number_of (TooManyJobs n) = 15
number_of (TooMuchWork n) = 16
number_of NoMemory = 0

-- of a document: the conditions on it, then those on the sheet that it states
abbrev pub document_refusal : Members → Option SheetFault
document_refusal doc = or_else (document_fault doc) (later_fault (stated doc))

abbrev pub refusal_of : Option Members → Option SheetFault
refusal_of None = Some NotToml
refusal_of (Some doc) = document_refusal doc

-- none where the bytes are accepted
abbrev pub refusal : List ℕ → Option SheetFault
refusal bytes = or_else (when (nat_lt SHEET_LIMIT (length bytes)) TooLong) (refusal_of (document bytes))
