-- The parts of a text.
use Rattle.std.proofs.Common.{◌≡◌, ℕ, ◌+◌, ◌<◌, Bool, true, false, cond, nat_eq, Some, None, List, [], ◌∷◌, length, take, drop, get_or, position, refl, ap, sym, ◌∙◌, arith, inl, inr}
use Rattle.std.specs.List.{onto_first, position_or_len}
use Rattle.std.proofs.lemmas.Bool.{cases_lt, lt-ltb, le-ltb, cond-true, cond-false}
use Rattle.std.proofs.lemmas.List.Sums.{fails_before_first}
use Rattle.std.proofs.lemmas.List.Splits.{slice_split_none, slice_split_first}
use Rattle.prta_session.specs.Text.{parts}

-- ---- a text has at least one part

pub record HasFirst (pieces : List (List ℕ)) : Type 0 where
  pub first : List ℕ
  pub rest : List (List ℕ)
  pub is : pieces ≡ first ∷ rest

pub parts_have_first : (byte : ℕ) (text : List ℕ) → HasFirst (parts byte text)
parts_have_first byte [] = record { first = []; rest = []; is = refl }
parts_have_first byte (x ∷ xs) = here (nat_eq x byte) (parts byte xs) (parts_have_first byte xs)
  where
    here : (b : Bool) (pieces : List (List ℕ)) → HasFirst pieces → HasFirst (cond b ([] ∷ pieces) (onto_first x pieces))
    here true pieces h = record { first = []; rest = pieces; is = refl }
    here false pieces h = record { first = x ∷ h.first; rest = h.rest; is = ap (onto_first x) h.is }

-- ---- the first part, by the place of the byte

place_is : (p : ℕ → Bool) (xs : List ℕ) (k : ℕ) → position p xs ≡ Some k → (position_or_len p xs < length xs) × (position_or_len p xs ≡ k)
place_is p xs k e =
    elim (cases_lt (position_or_len p xs) (length xs)) [
      | inl within ↦
          let found : Some (position_or_len p xs) ≡ Some k = sym (cond-true _ (Some (position_or_len p xs)) None (lt-ltb _ _ within)) ∙ e in
          (within, cc)
      | inr past ↦
          let none : None ≡ Some k = sym (cond-false _ (Some (position_or_len p xs)) None (le-ltb _ _ past)) ∙ e in
          absurd (cc)
    ]

pub parts_at_place : (byte : ℕ) (text : List ℕ) (k : ℕ) → position (λ b. nat_eq b byte) text ≡ Some k → parts byte text ≡ take k text ∷ parts byte (drop (k + 1) text)
parts_at_place byte text k e =
    let place = place_is (λ b. nat_eq b byte) text k e in
    slice_split_first (λ b. nat_eq b byte) text 0 place.0 ∙ ap (λ i. take i text ∷ parts byte (drop (i + 1) text)) place.1

no_place : (p : ℕ → Bool) (xs : List ℕ) (d : ℕ) → position p xs ≡ None → (i : ℕ) → i < length xs → p (get_or xs i d) ≡ false
no_place p xs d none i low =
    elim (cases_lt (position_or_len p xs) (length xs)) [
      | inl within ↦
          let found : Some (position_or_len p xs) ≡ None = sym (cond-true _ (Some (position_or_len p xs)) None (lt-ltb _ _ within)) ∙ none in
          absurd (cc)
      | inr past ↦ fails_before_first p xs i d (omega arith)
    ]

pub parts_without_place : (byte : ℕ) (text : List ℕ) → position (λ b. nat_eq b byte) text ≡ None → parts byte text ≡ text ∷ []
parts_without_place byte text e = slice_split_none (λ b. nat_eq b byte) text (λ i d low. no_place (λ b. nat_eq b byte) text d e i low)
