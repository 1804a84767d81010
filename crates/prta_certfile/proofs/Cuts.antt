-- Where bytes are cut.
use Rattle.std.proofs.Common.{◌≡◌, ◌⊎◌, ℕ, suc, ◌+◌, ◌<◌, Bool, true, false, not, nat_eq, Option, Some, None, List, [], ◌∷◌, ◌++◌, length, take, drop, get_or, position, option_map, All, refl, ap, ap₂, sym, ◌∙◌, arith, inl, inr, take-append-drop, drop-cons, eqb-true, eq-eqb}
use Rattle.std.specs.List.{list_all, position_or_len}
use Rattle.std.proofs.lemmas.Bool.{cases_Bool, cases_lt, lt-ltb, not-true}
use Rattle.std.proofs.lemmas.List.{get_or_default, get_or-take, length-take}
use Rattle.std.proofs.lemmas.List.Elements.{All-nil, All-cons, All-head, All-tail, All-append}
use Rattle.std.proofs.lemmas.List.Sums.{AllPass-from_list_all, fails_before_first}
use Rattle.std.proofs.lemmas.List.Quantifiers.{position-Some}
use Rattle.std.proofs.lemmas.List.Splits.{slice_split_none, slice_split_at}
use Rattle.prta_certfile.specs.Reading.{cut, words}

-- no byte of these is this one
abbrev pub Lacks : ℕ → List ℕ → Type 0
Lacks byte bytes = All (λ b. nat_eq b byte ≡ false) bytes

pub lacks_literal : (byte : ℕ) (text : List ℕ) → list_all (λ b. not (nat_eq b byte)) text ≡ true → Lacks byte text
lacks_literal byte text all k d low = not-true _ (AllPass-from_list_all (λ b. not (nat_eq b byte)) text all k d low)

pub lacks_append : (byte : ℕ) (xs ys : List ℕ) → Lacks byte xs → Lacks byte ys → Lacks byte (xs ++ ys)
lacks_append byte xs ys a b = All-append (λ b. nat_eq b byte ≡ false) xs ys a b

pub option_cases : {X : Type 0} (o : Option X) → (o ≡ None) ⊎ ((x : X) × (o ≡ Some x))
option_cases None = inl refl
option_cases (Some x) = inr (x, refl)

-- ---- what is cut

pub cut_at : (byte : ℕ) (xs ys : List ℕ) → Lacks byte xs → cut byte (xs ++ byte ∷ ys) ≡ Some (xs, ys)
cut_at byte [] ys h = rw (eq-eqb byte byte refl) refl
cut_at byte (x ∷ xs) ys h =
    rw (All-head (λ b. nat_eq b byte ≡ false) x xs h)
    (ap (option_map (λ (parts : List ℕ × List ℕ). (x ∷ parts.0, parts.1))) (cut_at byte xs ys (All-tail (λ b. nat_eq b byte ≡ false) x xs h)))

pub cut_nowhere : (byte : ℕ) (xs : List ℕ) → Lacks byte xs → cut byte xs ≡ None
cut_nowhere byte [] h = refl
cut_nowhere byte (x ∷ xs) h =
    rw (All-head (λ b. nat_eq b byte ≡ false) x xs h)
    (ap (option_map (λ (parts : List ℕ × List ℕ). (x ∷ parts.0, parts.1))) (cut_nowhere byte xs (All-tail (λ b. nat_eq b byte ≡ false) x xs h)))

pub record IsCut (byte : ℕ) (text before after : List ℕ) : Type 0 where
  pub whole : text ≡ before ++ byte ∷ after
  pub lacks : Lacks byte before

same_parts : {X Y : Type 0} (a b : X × Y) → Some a ≡ Some b → a ≡ b
same_parts a b e = cc

none_some : {X : Type 0} (x : X) → None ≡ Some x → ⊥
none_some x e = cc

some_none : {X : Type 0} (x : X) → Some x ≡ None → ⊥
some_none x e = cc

pub cut_found : (byte : ℕ) (text before after : List ℕ) → cut byte text ≡ Some (before, after) → IsCut byte text before after
cut_found byte [] before after e = absurd (none_some {X = List ℕ × List ℕ} (before, after) e)
cut_found byte (x ∷ xs) before after e =
    elim (cases_Bool (nat_eq x byte)) [
      | inl here ↦
          let found : Some ([], xs) ≡ Some (before, after) = rw here at e in
          let parts = same_parts ([], xs) (before, after) found in
          let none : [] ≡ before = ap (λ (p : List ℕ × List ℕ). p.0) parts in
          let rest : xs ≡ after = ap (λ (p : List ℕ × List ℕ). p.1) parts in
          record {
            whole = ap₂ (λ (b : ℕ) (bs : List ℕ). b ∷ bs) (eqb-true x byte here) rest ∙ ap (λ (bs : List ℕ). bs ++ byte ∷ after) none;
            lacks = rw (sym none) (All-nil (λ b. nat_eq b byte ≡ false));
          }
      | inr other ↦
          let found : option_map (λ (parts : List ℕ × List ℕ). (x ∷ parts.0, parts.1)) (cut byte xs) ≡ Some (before, after) = rw other at e in
          elim (option_cases (cut byte xs)) [
            | inl none ↦ absurd (none_some {X = List ℕ × List ℕ} (before, after) (rw none at found))
            | inr some ↦
                let is : Some (x ∷ some.0.0, some.0.1) ≡ Some (before, after) = rw some.1 at found in
                let parts = same_parts (x ∷ some.0.0, some.0.1) (before, after) is in
                let first : x ∷ some.0.0 ≡ before = ap (λ (p : List ℕ × List ℕ). p.0) parts in
                let rest : some.0.1 ≡ after = ap (λ (p : List ℕ × List ℕ). p.1) parts in
                let later : IsCut byte xs some.0.0 some.0.1 = cut_found byte xs some.0.0 some.0.1 some.1 in
                record {
                  whole = ap (λ (bs : List ℕ). x ∷ bs) later.whole ∙ ap₂ (λ (left right : List ℕ). left ++ byte ∷ right) first rest;
                  lacks = rw (sym first) (All-cons (λ b. nat_eq b byte ≡ false) x some.0.0 other later.lacks);
                }
          ]
    ]

pub cut_lacks : (byte : ℕ) (text : List ℕ) → cut byte text ≡ None → Lacks byte text
cut_lacks byte [] e = All-nil (λ b. nat_eq b byte ≡ false)
cut_lacks byte (x ∷ xs) e =
    elim (cases_Bool (nat_eq x byte)) [
      | inl here ↦ absurd (some_none {X = List ℕ × List ℕ} ([], xs) (rw here at e))
      | inr other ↦
          let found : option_map (λ (parts : List ℕ × List ℕ). (x ∷ parts.0, parts.1)) (cut byte xs) ≡ None = rw other at e in
          elim (option_cases (cut byte xs)) [
            | inl none ↦ All-cons (λ b. nat_eq b byte ≡ false) x xs other (cut_lacks byte xs none)
            | inr some ↦ absurd (some_none {X = List ℕ × List ℕ} (x ∷ some.0.0, some.0.1) (rw some.1 at found))
          ]
    ]

-- by the place of the byte
pub cut_by_place : (byte : ℕ) (bytes : List ℕ) (k : ℕ) → position (λ b. nat_eq b byte) bytes ≡ Some k → cut byte bytes ≡ Some (take k bytes, drop (k + 1) bytes)
cut_by_place byte bytes k e =
    let found = position-Some (λ b. nat_eq b byte) bytes k 0 e in
    let before : Lacks byte (take k bytes) = λ i d low. take_fails byte bytes k i d low found.0 found.2 in
    let is_byte : get_or bytes k 0 ≡ byte = eqb-true (get_or bytes k 0) byte found.1 in
    let more : suc k ≡ k + 1 = omega arith in
    let whole : bytes ≡ take k bytes ++ byte ∷ drop (k + 1) bytes =
    sym (take-append-drop k bytes) ∙ ap (λ (bs : List ℕ). take k bytes ++ bs) (drop-cons bytes k 0 found.0) ∙ ap₂ (λ (b i : ℕ). take k bytes ++ b ∷ drop i bytes) is_byte more in
    ap (cut byte) whole ∙ cut_at byte (take k bytes) (drop (k + 1) bytes) before
  where
    take_fails : (byte : ℕ) (bytes : List ℕ) (k i d : ℕ) → i < length (take k bytes) → k < length bytes → ((j : ℕ) → j < k → nat_eq (get_or bytes j 0) byte ≡ false) → nat_eq (get_or (take k bytes) i d) byte ≡ false
    take_fails byte bytes k i d low in_bytes h =
        let below : i < k = omega (arith, length-take k bytes) in
        ap (λ b. nat_eq b byte) (get_or-take k bytes i d below ∙ get_or_default bytes i d 0 (omega arith)) ∙ h i below

-- where no place is found, the test fails at each
nowhere_fails : (p : ℕ → Bool) (xs : List ℕ) (d : ℕ) → position p xs ≡ None → (i : ℕ) → i < length xs → p (get_or xs i d) ≡ false
nowhere_fails p xs d none i low =
    elim (cases_lt (position_or_len p xs) (length xs)) [
      | inl within ↦ let found = rw (lt-ltb (position_or_len p xs) (length xs) within) at none in cc
      | inr past ↦ fails_before_first p xs i d (omega arith)
    ]

pub cut_no_place : (byte : ℕ) (bytes : List ℕ) → position (λ b. nat_eq b byte) bytes ≡ None → cut byte bytes ≡ None
cut_no_place byte bytes e = cut_nowhere byte bytes (λ k d low. nowhere_fails (λ b. nat_eq b byte) bytes d e k low)

-- ---- words

pub words_more : (text word rest : List ℕ) → cut 32 text ≡ Some (word, rest) → words text ≡ word ∷ words rest
words_more text word rest e =
    let is : IsCut 32 text word rest = cut_found 32 text word rest e in
    ap words is.whole ∙ slice_split_at (λ b. nat_eq b 32) word 32 rest is.lacks refl

pub words_last : (text : List ℕ) → cut 32 text ≡ None → words text ≡ text ∷ []
words_last text e = slice_split_none (λ b. nat_eq b 32) text (cut_lacks 32 text e)
