-- The fields of a record of three, by their places.
use Rattle.std.proofs.Common.{◌≡◌, ◌≢◌, ℕ, zero, suc, ◌<◌, Some, None, List, [], ◌∷◌, length, refl, arith}
use Rattle.csv.specs.Records.{field_at}
use Rattle.prta_times.specs.Parts.{three_of}

pub three_are : (fields : List (List ℕ)) (first second third : List ℕ) → field_at fields 0 ≡ Some first → field_at fields 1 ≡ Some second → field_at fields 2 ≡ Some third → length fields ≡ 3 → Some (first, second, third) ≡ three_of fields
unfolding field_at
three_are [] first second third a b d size = absurd (omega arith)
three_are (x ∷ []) first second third a b d size = absurd (omega arith)
three_are (x ∷ y ∷ []) first second third a b d size = absurd (omega arith)
three_are (x ∷ y ∷ z ∷ []) first second third a b d size = cc
three_are (x ∷ y ∷ z ∷ w ∷ rest) first second third a b d size = absurd (omega arith)

-- another number of fields
pub not_three : (fields : List (List ℕ)) → length fields ≢ 3 → None ≡ three_of fields
not_three [] size = refl
not_three (x ∷ []) size = refl
not_three (x ∷ y ∷ []) size = refl
not_three (x ∷ y ∷ z ∷ []) size = absurd (size (omega arith))
not_three (x ∷ y ∷ z ∷ w ∷ rest) size = refl

-- a field that is missing
pub missing : (fields : List (List ℕ)) (i : ℕ) → i < 3 → field_at fields i ≡ None → None ≡ three_of fields
unfolding field_at
missing fields i low none = not_three fields (λ size. there fields i (omega arith) none)
  where
    there : (fields : List (List ℕ)) (i : ℕ) → i < length fields → field_at fields i ≢ None
    there [] i low e = omega arith
    there (x ∷ fields) zero low e = cc
    there (x ∷ fields) (suc i) low e = there fields i (omega arith) e
