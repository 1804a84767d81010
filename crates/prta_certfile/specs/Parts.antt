-- What the private parts of the reader answer.
use Rattle.std.specs.Prelude.{◌≡◌, ◌≢◌, ℕ, Option, Some, None, Result, Ok, Err, List, []}
use denote.Ref.{Bor}
use Rattle.prta_sheet.specs.Sheet.{Task}
use Rattle.prta_certfile.specs.declared.level.CertLevel.{CertLevel}
use Rattle.prta_certfile.specs.declared.level.CertLevel.TheVariants.{Steps, OverFull as OverFullLevel, BeyondCap as BeyondCapLevel}
use Rattle.prta_certfile.specs.declared.said.Said.{Said}
use Rattle.prta_certfile.specs.declared.said.Said.TheVariants.{Pairs, OverFull, BeyondCap}
use Rattle.prta_certfile.specs.declared.fault.CertFault.{CertFault}
use Rattle.prta_certfile.specs.declared.fault.CertFault.TheVariants.{NoMemory}
use Rattle.prta_certfile.specs.Steps.{IsSteps}
use Rattle.prta_certfile.specs.Reading.{words, line_fault, level_of, lines_fault, levels_in}

-- the words of what is left of a text
abbrev pub words_left : Option (Bor (List ℕ)) → List (List ℕ)
words_left None = []
words_left (Some rest) = words rest.now

-- the level that a line says, whose steps needn't rise
abbrev pub level_from : Said → CertLevel
level_from (Pairs pairs) = Steps pairs.items
level_from (OverFull work hyperperiod) = OverFullLevel work hyperperiod
level_from (BeyondCap peak) = BeyondCapLevel peak

-- the steps of a level rise
abbrev pub HasSteps : Said → Type 0
HasSteps (Pairs pairs) = IsSteps pairs.items
HasSteps (OverFull work hyperperiod) = Unit {0}
HasSteps (BeyondCap peak) = Unit {0}

-- the level of a line, or its fault
abbrev pub IsLineRead : ℕ → List ℕ → ℕ → List ℕ → Result CertLevel CertFault → Type 0
IsLineRead cap name n line (Ok level) = (line_fault cap name n line ≡ None) × (level ≡ level_of line)
IsLineRead cap name n line (Err fault) = fault ≢ NoMemory → line_fault cap name n line ≡ Some fault

-- the levels of the lines after the title, or the first fault
abbrev pub AreLinesRead : List Task → ℕ → List ℕ → Result (List CertLevel) CertFault → Type 0
AreLinesRead tasks cap bytes (Ok levels) = (lines_fault cap tasks 2 bytes ≡ None) × (levels ≡ levels_in tasks bytes)
AreLinesRead tasks cap bytes (Err fault) = fault ≢ NoMemory → lines_fault cap tasks 2 bytes ≡ Some fault
