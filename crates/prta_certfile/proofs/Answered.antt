-- What the laws tell of an answer.
use Rattle.std.proofs.Common.{◌≡◌, ◌≢◌, ◌⊎◌, ℕ, ◌+◌, Some, None, Result, Ok, Err, List, IfOk, refl, ap, sym, ◌∙◌, subst, inl, inr}
use Rattle.prta_sheet.specs.Sheet.{Task}
use Rattle.prta_certfile.specs.declared.level.CertLevel.{CertLevel}
use Rattle.prta_certfile.specs.declared.fault.CertFault.{CertFault}
use Rattle.prta_certfile.specs.declared.fault.CertFault.TheVariants.{TooLong, BadLine, WrongTask, NotIncreasing, PlaceTooLarge, NotWhole, NoMemory}
use Rattle.prta_certfile.specs.Text.{cert_text}
use Rattle.prta_certfile.specs.Reading.{fault_of, IsReading}
use Rattle.prta_certfile.specs.Laws.{AreLevels, ReadTextsArePrinted, PrefixesAreRefused, IsPrefixAnswer, feeds}

module _ (tasks : List Task) (cap : ℕ) (bytes : List ℕ) where
  pub levels_answered : (law : ReadTextsArePrinted) (r : Result (List CertLevel) CertFault) → IsReading tasks cap bytes r → IfOk r (AreLevels tasks cap)
  levels_answered law (Ok levels) is = subst (AreLevels tasks cap) (sym is.1) (law tasks cap bytes is.0).levels
  levels_answered law (Err fault) is = tt

  pub printed_answered : (law : ReadTextsArePrinted) (r : Result (List CertLevel) CertFault) → IsReading tasks cap bytes r → IfOk r (λ levels. cert_text tasks levels ≡ bytes)
  printed_answered law (Ok levels) is = ap (cert_text tasks) is.1 ∙ (law tasks cap bytes is.0).printed
  printed_answered law (Err fault) is = tt

  is_memory : (fault : CertFault) → (fault ≡ NoMemory) ⊎ (fault ≢ NoMemory)
  is_memory TooLong = inr (λ e. cc)
  is_memory (BadLine n) = inr (λ e. cc)
  is_memory (WrongTask n) = inr (λ e. cc)
  is_memory (NotIncreasing n) = inr (λ e. cc)
  is_memory (PlaceTooLarge n) = inr (λ e. cc)
  is_memory (NotWhole n) = inr (λ e. cc)
  is_memory NoMemory = inl refl

  pub prefix_answered : (law : PrefixesAreRefused) (r : Result (List CertLevel) CertFault) → IsReading tasks cap bytes r → IsPrefixAnswer tasks cap bytes r
  prefix_answered law r is whole n fine low part = answer r is
    where
      refused : fault_of tasks cap bytes ≡ Some (BadLine (feeds bytes + 1))
      refused = subst (λ bs. fault_of tasks cap bs ≡ Some (BadLine (feeds bs + 1))) (sym part) (law tasks cap whole n fine low)

      same : (fault : CertFault) → Some fault ≡ Some (BadLine (feeds bytes + 1)) → fault ≡ BadLine (feeds bytes + 1)
      same fault e = cc

      none_some : (fault : CertFault) → None ≡ Some fault → ⊥
      none_some fault e = cc

      answer : (r : Result (List CertLevel) CertFault) → IsReading tasks cap bytes r → (r ≡ Err NoMemory) ⊎ (r ≡ Err (BadLine (feeds bytes + 1)))
      answer (Ok levels) is = absurd (none_some (BadLine (feeds bytes + 1)) (sym is.0 ∙ refused))
      answer (Err fault) is = elim (is_memory fault) [
        | inl memory ↦ inl (ap Err memory)
        | inr other ↦ inr (ap Err (same fault (sym (is other) ∙ refused)))
      ]
