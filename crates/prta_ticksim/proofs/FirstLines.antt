-- The lines of bytes, one after the other.
use Rattle.std.proofs.Common.{◌≡◌, ℕ, suc, ◌+◌, ◌-◌, ◌<◌, ◌≤◌, Bool, true, false, not, nat_eq, Some, None, List, [], ◌∷◌, length, take, drop, map, get_or, position, option_map, refl, ap, sym, ◌∙◌, arith, inl, inr}
use Rattle.std.specs.List.{position_or_len, slice_split}
use Rattle.std.specs.Str.Lines.{strip_carriage_return, lines_of_parts, lines}
use Rattle.std.proofs.Math.Seq.{drop-cons}
use Rattle.std.proofs.lemmas.Bool.{cases_Bool, ne_eqb, not_from_true}
use Rattle.std.proofs.lemmas.List.{take_all, length-drop}
use Rattle.std.proofs.lemmas.List.Splits.{slice_split_first, slice_split_none, length-slice_split}
use Rattle.prta_number.specs.Decimal.{value_of}
use Rattle.prta_ticksim.specs.Choices.{is_number, number_of, bad_line}
use Rattle.prta_ticksim.proofs.Positions.{position_here, position_nowhere, position_found, nowhere_fails}

-- ---- the first line

abbrev is_feed : ℕ → Bool
is_feed byte = nat_eq byte 10

one_more : (line : List ℕ) (parts : List (List ℕ)) → 0 < length parts → lines_of_parts (line ∷ parts) ≡ strip_carriage_return line ∷ lines_of_parts parts
one_more line [] some = absurd (omega arith)
one_more line (next ∷ parts) some = refl

-- up to the first line feed
pub line_at_feed : (bytes : List ℕ) (k : ℕ) → position is_feed bytes ≡ Some k → lines bytes ≡ strip_carriage_return (take k bytes) ∷ lines (drop (k + 1) bytes)
line_at_feed bytes k found =
    let at : (position_or_len is_feed bytes ≡ k) × (k < length bytes) = position_found is_feed bytes k found in
    ap lines_of_parts (slice_split_first is_feed bytes 0 (omega (arith, at.0, at.1)))
    ∙ one_more (take (position_or_len is_feed bytes) bytes) (slice_split is_feed (drop (position_or_len is_feed bytes + 1) bytes)) (omega (arith, length-slice_split is_feed (drop (position_or_len is_feed bytes + 1) bytes)))
    ∙ ap (λ (n : ℕ). strip_carriage_return (take n bytes) ∷ lines (drop (n + 1) bytes)) at.0

-- all bytes, where there is none
pub line_without_feed : (bytes : List ℕ) → position is_feed bytes ≡ None → 0 < length bytes → lines bytes ≡ bytes ∷ []
line_without_feed bytes none some =
    let has : nat_eq (length bytes) 0 ≡ false = ne_eqb (length bytes) 0 (λ e. omega arith) in
    ap lines_of_parts (slice_split_none is_feed bytes (λ i d low. nowhere_fails is_feed bytes d none i low)) ∙ rw has refl

-- what is left behind the first n elements
pub rest_of : {X : Type 0} (xs : List X) (n : ℕ) → take (length xs - n) (drop n xs) ≡ drop n xs
rest_of xs n = take_all (length xs - n) (drop n xs) (omega (arith, length-drop n xs))

-- ---- one line more

pub record IsNext (all : List (List ℕ)) (n : ℕ) (line : List ℕ) (later : List (List ℕ)) : Type 0 where
  pub listed : n < length all
  pub is_line : get_or all n [] ≡ line
  pub rest : drop (n + 1) all ≡ later

pub next_line : (all : List (List ℕ)) (n : ℕ) (line : List ℕ) (later : List (List ℕ)) → drop n all ≡ line ∷ later → IsNext all n line later
next_line all n line later here =
    let low : n < length all = omega (arith, length-drop n all, ap length here) in
    let cut : get_or all n [] ∷ drop (suc n) all ≡ line ∷ later = sym (drop-cons all n [] low) ∙ here in
    let more : n + 1 ≡ suc n = omega arith in
    record { listed = low; is_line = cc; rest = ap (λ k. drop k all) more ∙ (cc) }

-- ---- the first bad line

module _ (bytes : List ℕ) (n : ℕ) (good : (k : ℕ) → k < n → is_number (get_or (lines bytes) k []) ≡ true) where
  abbrev is_bad : List ℕ → Bool
  is_bad line = not (is_number line)

  pub bad_at : (line : List ℕ) (later : List (List ℕ)) → drop n (lines bytes) ≡ line ∷ later → is_number line ≡ false → bad_line bytes ≡ Some (n + 1)
  bad_at line later here bad =
      let next : IsNext (lines bytes) n line later = next_line (lines bytes) n line later here in
      ap (option_map (λ k. k + 1))
      (position_here is_bad (lines bytes) n [] next.listed (ap is_bad next.is_line ∙ ap not bad) (λ k low. not_from_true (is_number (get_or (lines bytes) k [])) (good k low)))

  pub none_bad : drop n (lines bytes) ≡ [] → bad_line bytes ≡ None
  none_bad here =
      let past : length (lines bytes) ≤ n = omega (arith, length-drop n (lines bytes), ap length here) in
      ap (option_map (λ k. k + 1)) (position_nowhere is_bad (lines bytes) [] (λ k low. not_from_true (is_number (get_or (lines bytes) k [])) (good k (omega arith))))

  pub all_values : (numbers : List ℕ) → numbers ≡ map value_of (take n (lines bytes)) → drop n (lines bytes) ≡ [] → numbers ≡ map value_of (lines bytes)
  all_values numbers so_far here = so_far ∙ ap (map value_of) (take_all n (lines bytes) (omega (arith, length-drop n (lines bytes), ap length here)))

-- ---- what the number of a line tells

pub number_tells : (line : List ℕ) (n : ℕ) → number_of line ≡ Some n → (is_number line ≡ true) × (n ≡ value_of line)
number_tells line n is =
    elim (cases_Bool (is_number line)) [
      | inl yes_number ↦ let found : Some (value_of line) ≡ Some n = rw yes_number at is in let same : n ≡ value_of line = cc in (yes_number, same)
      | inr no_number ↦ let found = rw no_number at is in cc
    ]

pub no_number_tells : (line : List ℕ) → number_of line ≡ None → is_number line ≡ false
no_number_tells line is =
    elim (cases_Bool (is_number line)) [
      | inl yes_number ↦ let found = rw yes_number at is in cc
      | inr no_number ↦ no_number
    ]

pub no_lines : (bytes : List ℕ) → length bytes ≡ 0 → lines bytes ≡ []
no_lines [] e = refl
no_lines (byte ∷ bytes) e = absurd (omega arith)
