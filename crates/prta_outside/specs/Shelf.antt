-- What a read of a shelf says, and what it does to the shelf's list of faults.
use Rattle.std.specs.Prelude.{◌≡◌, ℕ, ◌+◌, Bool, true, false, cond, refl, List, [], ◌∷◌, ◌++◌, bytes_eq, count_by, Result, Ok, Err, ⊤}
use Rattle.std.proofs.Common.{◌∙◌, ap}
use Rattle.std.proofs.lemmas.List.Sums.{sum_by-append}
use Rattle.std.proofs.lemmas.Slice.Eq.{bytes_eq-Decides}
use Rattle.prta_outside.specs.declared.shelf.ShelfFault.{ShelfFault}
use Rattle.prta_outside.specs.declared.shelf.ShelfFault.TheVariants.{Failed, TooLong, NoMemory}

-- how often the read of a name failed
abbrev pub count_of : List (List ℕ) → List ℕ → ℕ
count_of faults name = count_by (λ failed. bytes_eq failed name) faults

-- a failed read raises the count of its name
pub count_of_failed : (faults : List (List ℕ)) (name : List ℕ) →
    count_of (faults ++ name ∷ []) name ≡ count_of faults name + 1
count_of_failed faults name =
    sum_by-append _ faults (name ∷ [])
    ∙ ap (λ same. count_of faults name + (0 + cond same 1 0)) ((bytes_eq-Decides name name).1 refl)

-- the read failed
abbrev pub failed : {X : Type 0} → Result X ShelfFault → Bool
failed (Ok bytes) = false
failed (Err Failed) = true
failed (Err (TooLong taken)) = false
failed (Err NoMemory) = false

-- the faults after a read of this name: with the name at the end exactly where the read failed
abbrev pub faults_after : {X : Type 0} → Result X ShelfFault → List ℕ → List (List ℕ) → List (List ℕ)
faults_after (Ok bytes) name faults = faults
faults_after (Err Failed) name faults = faults ++ name ∷ []
faults_after (Err (TooLong taken)) name faults = faults
faults_after (Err NoMemory) name faults = faults

-- a fact of the bytes taken, where they were too many
abbrev pub IfTooLong : {X : Type 0} → Result X ShelfFault → (ℕ → Type 0) → Type 0
IfTooLong (Ok bytes) P = ⊤
IfTooLong (Err Failed) P = ⊤
IfTooLong (Err (TooLong taken)) P = P taken
IfTooLong (Err NoMemory) P = ⊤
