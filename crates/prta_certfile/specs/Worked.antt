-- Worked certificates.
use Rattle.std.specs.Prelude.{◌≡◌, ℕ, Some, None, List, [], ◌∷◌, ◌++◌, codes}
use Rattle.prta_sheet.specs.Sheet.{Task}
use Rattle.prta_sheet.specs.Worked.{task}
use Rattle.prta_certfile.specs.declared.level.CertLevel.TheVariants.{Steps, OverFull, BeyondCap}
use Rattle.prta_certfile.specs.declared.fault.CertFault.TheVariants.{BadLine, WrongTask, NotIncreasing, PlaceTooLarge, NotWhole}
use Rattle.prta_certfile.specs.Steps.{steps_of, cells_by_steps}
use Rattle.prta_certfile.specs.Text.{cert_text, level_text}
use Rattle.prta_certfile.specs.Reading.{fault_of, levels_of}

-- one task, A
abbrev pub tasks : List Task
tasks = record (task 2 4 3 ((1, 3) ∷ (4, 1) ∷ [])) { name = codes "A" } ∷ []

-- the text with this line for it
abbrev pub with_line : List ℕ → List ℕ
with_line line = codes "prta certificate 1\n" ++ line ++ codes "\nend\n"

abbrev pub steps : List (ℕ × ℕ)
steps = (0, 864691128455135232) ∷ (2, 1152921504606846976) ∷ []

abbrev pub worked_line : List ℕ
worked_line = codes "level A 0:864691128455135232 2:1152921504606846976"

pub record WorkedCertificates : Type 0 where
  pub steps_of_cells : steps_of (0 ∷ 5 ∷ 5 ∷ 7 ∷ []) ≡ (1, 5) ∷ (3, 7) ∷ []
  pub cells_of_steps : cells_by_steps 4 ((1, 5) ∷ (3, 7) ∷ []) ≡ 0 ∷ 5 ∷ 5 ∷ 7 ∷ []
  pub text : cert_text tasks (Steps steps ∷ []) ≡ with_line worked_line
  pub overfull_line : level_text (codes "A") (OverFull 12 4) ≡ codes "none A overfull 12 4"
  pub beyond_line : level_text (codes "A") (BeyondCap 2048) ≡ codes "none A beyondcap 2048"
  pub read : fault_of tasks 2048 (with_line worked_line) ≡ None
  pub stated : levels_of tasks (with_line worked_line) ≡ Steps steps ∷ []
  pub overfull_read : levels_of tasks (with_line (codes "none A overfull 12 4")) ≡ OverFull 12 4 ∷ []
  pub beyond_read : levels_of tasks (with_line (codes "none A beyondcap 2048")) ≡ BeyondCap 2048 ∷ []
  pub leading_zero : fault_of tasks 2048 (with_line (codes "level A 00:1152921504606846976")) ≡ Some (BadLine 2)
  pub no_steps : fault_of tasks 2048 (with_line (codes "level A")) ≡ Some (BadLine 2)
  pub two_spaces : fault_of tasks 2048 (with_line (codes "level A  0:1152921504606846976")) ≡ Some (BadLine 2)
  pub above_the_unit : fault_of tasks 2048 (with_line (codes "level A 0:1152921504606846977")) ≡ Some (BadLine 2)
  pub other_task : fault_of tasks 2048 (with_line (codes "level B 0:1152921504606846976")) ≡ Some (WrongTask 2)
  pub value_of_0 : fault_of tasks 2048 (with_line (codes "level A 0:0 2:1152921504606846976")) ≡ Some (NotIncreasing 2)
  -- the form of the whole line is tested before it rises
  pub bad_word_after : fault_of tasks 2048 (with_line (codes "level A 0:0 2:x")) ≡ Some (BadLine 2)
  pub at_the_cap : fault_of tasks 2048 (with_line (codes "level A 2048:1152921504606846976")) ≡ Some (PlaceTooLarge 2)
  pub not_whole : fault_of tasks 2048 (with_line (codes "level A 0:864691128455135232 2:1152921504606846975")) ≡ Some (NotWhole 2)
  pub more_after_the_end : fault_of tasks 2048 (with_line worked_line ++ codes "end\n") ≡ Some (BadLine 4)
  pub no_last_line_feed : fault_of tasks 2048 (codes "prta certificate 1\n" ++ worked_line ++ codes "\nend") ≡ Some (BadLine 3)
  pub no_bytes : fault_of tasks 2048 [] ≡ Some (BadLine 1)
