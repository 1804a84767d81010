-- How bytes are read as a certificate, and the first fault.
use Rattle.std.specs.Prelude.{◌≡◌, ◌≢◌, ℕ, ◌+◌, ◌-◌, ◌^◌, Bool, true, not, ◌&&◌, nat_eq, nat_lt, nat_le, if◌then◌else◌, Option, Some, None, unwrap_or, option_map, Result, Ok, Err, List, [], ◌∷◌, length, codes, bytes_eq}
use Rattle.std.specs.List.{list_all, slice_split}
use Rattle.prta_number.specs.Decimal.{number_within}
use Rattle.prta_mass.specs.Table.{or_else, when}
use Rattle.prta_mass.specs.Unit.{unit}
use Rattle.prta_sheet.specs.Sheet.{Task}
use Rattle.prta_sheet.specs.Accepted.{is_good_name}
use Rattle.prta_sheet.specs.Document.{◌>>=◌}
use Rattle.prta_certfile.specs.declared.level.CertLevel.{CertLevel}
use Rattle.prta_certfile.specs.declared.level.CertLevel.TheVariants.{Steps, OverFull, BeyondCap}
use Rattle.prta_certfile.specs.declared.fault.CertFault.{CertFault}
use Rattle.prta_certfile.specs.declared.fault.CertFault.TheVariants.{TooLong, BadLine, WrongTask, NotIncreasing, PlaceTooLarge, NotWhole, NoMemory}
use Rattle.prta_certfile.specs.declared.limits.TheConstants.{CERT_LIMIT}
use Rattle.prta_certfile.specs.Steps.{last_value}
use Rattle.prta_certfile.specs.Text.{title}

-- ---- cutting

-- what stands before the first of the bytes that are this one, and what stands after it; None where no byte is
abbrev pub cut : ℕ → List ℕ → Option (List ℕ × List ℕ)
cut byte [] = None
cut byte (b ∷ bs) = if nat_eq b byte then Some ([], bs) else option_map (λ parts. (b ∷ parts.0, parts.1)) (cut byte bs)

-- at a line feed, a space and a colon
abbrev pub first_line : List ℕ → Option (List ℕ × List ℕ)
first_line bytes = cut 10 bytes

abbrev pub first_word : List ℕ → Option (List ℕ × List ℕ)
first_word text = cut 32 text

abbrev pub at_colon : List ℕ → Option (List ℕ × List ℕ)
at_colon word = cut 58 word

-- all words, which single spaces part
abbrev pub words : List ℕ → List (List ℕ)
words text = slice_split (λ b. nat_eq b 32) text

-- ---- a line

-- PLACE:VALUE
abbrev pub step_in : List ℕ × List ℕ → Option (ℕ × ℕ)
step_in parts = number_within 0 (2 ^ 32 - 1) parts.0 >>= (λ place. number_within 0 unit parts.1 >>= (λ value. Some (place, value)))

abbrev pub step_said : List ℕ → Option (ℕ × ℕ)
step_said word = at_colon word >>= step_in

-- each word is one
abbrev pub steps_said : List (List ℕ) → Option (List (ℕ × ℕ))
steps_said [] = Some []
steps_said (word ∷ rest) = step_said word >>= (λ step. steps_said rest >>= (λ steps. Some (step ∷ steps)))

-- WORK HYPERPERIOD
abbrev pub overfull_in : List ℕ × List ℕ → Option CertLevel
overfull_in parts = number_within 0 (2 ^ 64 - 1) parts.0 >>= (λ work. number_within 0 (2 ^ 64 - 1) parts.1 >>= (λ hyperperiod. Some (OverFull work hyperperiod)))

-- overfull WORK HYPERPERIOD, or beyondcap PEAK
abbrev pub reason_in : List ℕ × List ℕ → Option CertLevel
reason_in parts =
    if bytes_eq parts.0 (codes "overfull") then first_word parts.1 >>= overfull_in
    else if bytes_eq parts.0 (codes "beyondcap") then option_map BeyondCap (number_within 0 (2 ^ 64 - 1) parts.1)
    else None

-- what stands after the name: steps after `level`, a reason after `none`
abbrev pub level_said : List ℕ → List ℕ → Option CertLevel
level_said kind rest =
    if bytes_eq kind (codes "level") then option_map Steps (steps_said (words rest))
    else if bytes_eq kind (codes "none") then first_word rest >>= reason_in
    else None

-- the name, which has to be a good one, and the level
abbrev pub named_in : List ℕ → List ℕ × List ℕ → Option (List ℕ × CertLevel)
named_in kind parts = if is_good_name parts.0 then option_map (λ level. (parts.0, level)) (level_said kind parts.1) else None

-- what a line says: the task's name and the level. None where it isn't of the form
abbrev pub line_said : List ℕ → Option (List ℕ × CertLevel)
line_said line = first_word line >>= (λ parts. first_word parts.1 >>= named_in parts.0)

-- ---- the fault of a line

-- each place is at least `from`, and above the one before; each value is above the one before, the first above `value`
abbrev pub rise_from : ℕ → ℕ → List (ℕ × ℕ) → Bool
rise_from from value [] = true
rise_from from value (step ∷ steps) = (nat_le from step.0 && nat_lt value step.1) && rise_from (step.0 + 1) step.1 steps

-- the places rise, and the values rise from a 0 before the first on
abbrev pub rises : List (ℕ × ℕ) → Bool
rises steps = rise_from 0 0 steps

abbrev pub are_below : ℕ → List (ℕ × ℕ) → Bool
are_below cap steps = list_all (λ step. nat_lt step.0 cap) steps

abbrev pub is_whole : List (ℕ × ℕ) → Bool
is_whole steps = nat_eq (last_value steps) unit

-- the first test of a level in line n that fails
abbrev pub level_fault : ℕ → ℕ → CertLevel → Option CertFault
level_fault cap n (Steps steps) = or_else (when (not (rises steps)) (NotIncreasing n)) (or_else (when (not (are_below cap steps)) (PlaceTooLarge n)) (when (not (is_whole steps)) (NotWhole n)))
level_fault cap n (OverFull work hyperperiod) = None
level_fault cap n (BeyondCap peak) = None

-- the same of a whole line, which is to be of the form and to name the task
abbrev pub said_fault : ℕ → List ℕ → ℕ → Option (List ℕ × CertLevel) → Option CertFault
said_fault cap name n None = Some (BadLine n)
said_fault cap name n (Some said) = or_else (when (not (bytes_eq said.0 name)) (WrongTask n)) (level_fault cap n said.1)

abbrev pub line_fault : ℕ → List ℕ → ℕ → List ℕ → Option CertFault
line_fault cap name n line = said_fault cap name n (line_said line)

-- ---- the first fault

-- a fault of line n and what follows it. A line that is missing or lacks its line feed is a bad one
abbrev pub in_line : ℕ → (List ℕ × List ℕ → Option CertFault) → Option (List ℕ × List ℕ) → Option CertFault
in_line n fault None = Some (BadLine n)
in_line n fault (Some parts) = fault parts

-- line n is `end`, and nothing follows it
abbrev pub end_fault : ℕ → List ℕ × List ℕ → Option CertFault
end_fault n parts = or_else (when (not (bytes_eq parts.0 (codes "end"))) (BadLine n)) (when (not (nat_eq (length parts.1) 0)) (BadLine (n + 1)))

-- from line n on: a line for each task, and the end
abbrev pub lines_fault : ℕ → List Task → ℕ → List ℕ → Option CertFault
lines_fault cap [] n bytes = in_line n (end_fault n) (first_line bytes)
lines_fault cap (task ∷ tasks) n bytes = in_line n (λ parts. or_else (line_fault cap task.name n parts.0) (lines_fault cap tasks (n + 1) parts.1)) (first_line bytes)

-- the title, and the lines after it
abbrev pub title_fault : List Task → ℕ → List ℕ × List ℕ → Option CertFault
title_fault tasks cap parts = or_else (when (not (bytes_eq parts.0 title)) (BadLine 1)) (lines_fault cap tasks 2 parts.1)

-- the first fault of bytes as a certificate of a sheet with these tasks and this cap; None where they are one
abbrev pub fault_of : List Task → ℕ → List ℕ → Option CertFault
fault_of tasks cap bytes = or_else (when (nat_lt CERT_LIMIT (length bytes)) TooLong) (in_line 1 (title_fault tasks cap) (first_line bytes))

-- ---- what is read, where there is no fault

abbrev pub line_of : List ℕ → List ℕ × List ℕ
line_of bytes = unwrap_or (first_line bytes) ([], [])

abbrev pub level_of : List ℕ → CertLevel
level_of line = unwrap_or (option_map (λ said. said.1) (line_said line)) (Steps [])

-- the levels of the first lines, one for each task
abbrev pub levels_in : List Task → List ℕ → List CertLevel
levels_in [] bytes = []
levels_in (task ∷ tasks) bytes = level_of (line_of bytes).0 ∷ levels_in tasks (line_of bytes).1

-- the levels of the lines after the title
abbrev pub levels_of : List Task → List ℕ → List CertLevel
levels_of tasks bytes = levels_in tasks (line_of bytes).1

-- the levels where there is no fault, and else the first fault; want of memory is free
abbrev pub IsReading : List Task → ℕ → List ℕ → Result (List CertLevel) CertFault → Type 0
IsReading tasks cap bytes (Ok levels) = (fault_of tasks cap bytes ≡ None) × (levels ≡ levels_of tasks bytes)
IsReading tasks cap bytes (Err fault) = fault ≢ NoMemory → fault_of tasks cap bytes ≡ Some fault

-- the number of a fault; 0 for want of memory
abbrev pub number_of : CertFault → ℕ
number_of TooLong = 1
number_of (BadLine n) = 2
number_of (WrongTask n) = 3
number_of (NotIncreasing n) = 4
number_of (PlaceTooLarge n) = 5
number_of (NotWhole n) = 6
number_of NoMemory = 0
