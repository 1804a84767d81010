-- Steps and lists of chances determine each other; so do a certificate and its text.
use Rattle.std.specs.Prelude.{◌≡◌, ◌↔◌, ◌⊎◌, ℕ, ◌+◌, ◌^◌, ◌<◌, nat_eq, nat_lt, if◌then◌else◌, Some, None, Result, Err, List, [], ◌∷◌, ◌++◌, length, take, count_by, All}
use Rattle.std.specs.List.Sorted.{IsNonDecreasing}
use Rattle.prta_mass.specs.Chances.{last, IsChances, IsWhole}
use Rattle.prta_sheet.specs.Sheet.{Task, Sheet}
use Rattle.prta_sheet.specs.Accepted.{IsAccepted}
use Rattle.prta_certfile.specs.declared.level.CertLevel.{CertLevel}
use Rattle.prta_certfile.specs.declared.level.CertLevel.TheVariants.{Steps, OverFull, BeyondCap}
use Rattle.prta_certfile.specs.declared.fault.CertFault.{CertFault}
use Rattle.prta_certfile.specs.declared.fault.CertFault.TheVariants.{BadLine, NoMemory}
use Rattle.prta_certfile.specs.declared.limits.TheConstants.{CERT_LIMIT}
use Rattle.prta_certfile.specs.Steps.{steps_of, cells_by_steps, IsSteps, AreBelow, IsWholeSteps}
use Rattle.prta_certfile.specs.Text.{cert_text}
use Rattle.prta_certfile.specs.Reading.{fault_of, levels_of}

-- ---- steps

-- the cells of whole steps
pub record AreWholeChances (cap : ℕ) (cells : List ℕ) : Type 0 where
  pub size : length cells ≡ cap
  pub chances : IsChances cells
  pub whole : IsWhole cells

pub record StepsAreLists : Type 0 where
  -- cells that don't fall are determined by their steps
  pub read : (cells : List ℕ) → IsNonDecreasing cells → cells_by_steps (length cells) (steps_of cells) ≡ cells
  -- the steps of the cells that have given steps are these
  pub read_back : (cap : ℕ) (steps : List (ℕ × ℕ)) → IsSteps steps → AreBelow cap steps → steps_of (cells_by_steps cap steps) ≡ steps
  -- the steps of chances are steps, and lie in the list
  pub rise : (cells : List ℕ) → IsChances cells → IsSteps (steps_of cells)
  pub below : (cells : List ℕ) → AreBelow (length cells) (steps_of cells)
  -- one is whole exactly where the other is
  pub whole : (cells : List ℕ) → IsNonDecreasing cells → IsWhole cells ↔ IsWholeSteps (steps_of cells)
  -- whole steps below a cap make a whole list of chances of that length
  pub make : (cap : ℕ) (steps : List (ℕ × ℕ)) → IsSteps steps → AreBelow cap steps → IsWholeSteps steps → AreWholeChances cap (cells_by_steps cap steps)
  -- one more cell makes one more step where it is above the last one
  pub more : (cells : List ℕ) (x : ℕ) → IsNonDecreasing (cells ++ x ∷ []) → steps_of (cells ++ x ∷ []) ≡ steps_of cells ++ (if nat_lt (last cells) x then (length cells, x) ∷ [] else [])

-- ---- texts

-- a level that a certificate may state: whole steps below the cap, or numbers below 2^64
abbrev pub IsLevel : ℕ → CertLevel → Type 0
IsLevel cap (Steps steps) = IsSteps steps × AreBelow cap steps × IsWholeSteps steps
IsLevel cap (OverFull work hyperperiod) = (work < 2 ^ 64) × (hyperperiod < 2 ^ 64)
IsLevel cap (BeyondCap peak) = peak < 2 ^ 64

-- one level for each task
pub record AreLevels (tasks : List Task) (cap : ℕ) (levels : List CertLevel) : Type 0 where
  pub count : length levels ≡ length tasks
  pub each : All (IsLevel cap) levels

-- the bytes have no fault, and state these levels
pub record States (tasks : List Task) (cap : ℕ) (bytes : List ℕ) (levels : List CertLevel) : Type 0 where
  pub faultless : fault_of tasks cap bytes ≡ None
  pub stated : levels_of tasks bytes ≡ levels

-- the text of such levels is read as these
abbrev pub CertificatesAreRead : Type 0
CertificatesAreRead = (sheet : Sheet) (levels : List CertLevel) → IsAccepted sheet → AreLevels sheet.tasks sheet.settings.cap levels → States sheet.tasks sheet.settings.cap (cert_text sheet.tasks levels) levels

-- bytes without a fault state such levels, and are their text
pub record IsText (tasks : List Task) (cap : ℕ) (bytes : List ℕ) : Type 0 where
  pub levels : AreLevels tasks cap (levels_of tasks bytes)
  pub printed : cert_text tasks (levels_of tasks bytes) ≡ bytes

abbrev pub ReadTextsArePrinted : Type 0
ReadTextsArePrinted = (tasks : List Task) (cap : ℕ) (bytes : List ℕ) → fault_of tasks cap bytes ≡ None → IsText tasks cap bytes

-- the number of line feeds
abbrev pub feeds : List ℕ → ℕ
feeds bytes = count_by (λ b. nat_eq b 10) bytes

-- a proper prefix of bytes without a fault is refused at its last line, which lacks its line feed
abbrev pub PrefixesAreRefused : Type 0
PrefixesAreRefused = (tasks : List Task) (cap : ℕ) (bytes : List ℕ) (n : ℕ) → fault_of tasks cap bytes ≡ None → n < length bytes → fault_of tasks cap (take n bytes) ≡ Some (BadLine (feeds (take n bytes) + 1))

-- the answer to a proper prefix of bytes without a fault
abbrev pub IsPrefixAnswer : List Task → ℕ → List ℕ → Result (List CertLevel) CertFault → Type 0
IsPrefixAnswer tasks cap bytes result = (whole : List ℕ) (n : ℕ) → fault_of tasks cap whole ≡ None → n < length whole → bytes ≡ take n whole → (result ≡ Err NoMemory) ⊎ (result ≡ Err (BadLine (feeds bytes + 1)))

-- the limit as a number
pub record StatedLimits : Type 0 where
  pub bytes : CERT_LIMIT ≡ 8388608
