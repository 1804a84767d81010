-- Worked response runs, and the law of starts used once.
use Rattle.std.specs.Prelude.{◌≡◌, ℕ, None, List, [], ◌∷◌}
use Rattle.prta_mass.specs.Chances.{point}
use Rattle.prta_mass.specs.declared.direction.Dir.{Dir}
use Rattle.prta_mass.specs.declared.direction.Dir.TheVariants.{Up, Down}
use Rattle.prta_sheet.specs.Sheet.{Task}
use Rattle.prta_sheet.specs.Job.{nth_job}
use Rattle.prta_sheet.specs.Chance.{IsAround}
use Rattle.prta_ledger.specs.declared.entry.Entry.{Entry}
use Rattle.prta_ledger.specs.declared.entry.Kind.TheVariants.{Delay}
use Rattle.prta_backlog.specs.Worked.{task, sheet, below, two, entry}
use Rattle.prta_response.specs.Response.{response_start, number_of}
use Rattle.prta_response.specs.Delays.{delay_entries}

abbrev pub half : ℕ
half = 576460752303423488

abbrev pub eighth : ℕ
eighth = 144115188075855872

-- each 4 ticks a job of 1 or 2 ticks with the same chance, above one of 2 or 4 ticks each 8 ticks with this deadline
abbrev pub even : ℕ → List Task
even deadline = task 0 4 4 (((1, 1) ∷ (2, 1) ∷ []) ∷ []) ∷ task 0 8 deadline (((2, 1) ∷ (4, 1) ∷ []) ∷ []) ∷ []

abbrev pub number : Dir → List Task → ℕ
number dir tasks = number_of dir (sheet 12 1 None tasks) below (nth_job tasks 1 0)

abbrev pub entries : Dir → List Task → List Entry
entries dir tasks = delay_entries dir tasks below (nth_job tasks 1 0) (response_start dir tasks below None (point 12 0) 0 0)

pub record WorkedResponses : Type 0 where
  -- a miss only where all three jobs take their greater times
  pub delayed : (d : Dir) → number d (even 7) ≡ eighth
  pub short : (d : Dir) → number d (even 4) ≡ half
  -- what ends at 4 is not delayed by the release at 4
  pub ends_at_release : (d : Dir) → number d (even 5) ≡ half
  -- what ends at 8 meets the deadline
  pub meets : (d : Dir) → number d (even 8) ≡ 0
  pub exact : (d : Dir) → entries d (even 7) ≡ []
  pub below_is : number Down two ≡ 64051194700380387
  pub above_is : number Up two ≡ 64051194700380388
  pub rounded_up : entries Up two ≡ entry Up Delay 1 0 1 1 ∷ []
  pub rounded_down : entries Down two ≡ entry Down Delay 1 0 1 1 ∷ []

-- the exact chance of the second task's job is one eighth: both numbers are, and the law puts them around it
abbrev pub WorkedLaw : Type 0
WorkedLaw = IsAround (even 7) (0 ∷ 1 ∷ []) (nth_job (even 7) 1 0) eighth eighth
