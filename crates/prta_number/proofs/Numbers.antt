-- Numbers in decimal, read and printed.
use Rattle.std.proofs.Common.{◌≡◌, ℕ, ◌+◌, ◌-◌, ◌*◌, ◌^◌, ◌<◌, ◌≤◌, true, not, ◌||◌, nat_lt, nat_le, nat_eq, Some, None, List, length, fold, get_or, decimal, ap, sym, ◌∙◌, arith, ⊎_elim, inl, inr, rules, lt-ltb, ltb-true, eq-eqb, eqb-true, ne_eqb}
use Rattle.std.specs.List.{list_all}
use Rattle.std.specs.Char.{is_ascii_digit}
use Rattle.std.proofs.lemmas.Bool.{cases_Bool, cases_eq, and_parts, and_from, or_left, or_right, or_cases, not-true, not_from_false, cond-true, le-leb, leb-true}
use Rattle.std.proofs.lemmas.Str.Parse.{IsNumeralModel, IsDigitsTest, numerals_by_fold}
use Rattle.std.proofs.lemmas.Fmt.{digits_decimal, digits_value-decimal, decimal-digits_value, decimal_nonempty, first_decimal, decimal_digit}
use Rattle.prta_number.specs.Decimal.{value_of, is_decimal, is_number_within, number_within, PrintedNumbersAreRead, ReadNumbersArePrinted}

abbrev AreDigits : List ℕ → Type 0
AreDigits text = list_all is_ascii_digit text ≡ true

digits_test : IsDigitsTest AreDigits
digits_test = search rules

own : IsNumeralModel AreDigits value_of
own = numerals_by_fold AreDigits digits_test (λ n digits. fold (λ value digit. value * 10 + (digit - 48)) n digits) (search rules)

-- a number that is printed is read
pub decimal_is : (n : ℕ) → n < 2 ^ 64 → is_decimal (decimal n) ≡ true
decimal_is n small =
    let some : 0 < length (decimal n) = decimal_nonempty n small in
    and_from (list_all is_ascii_digit (decimal n)) _ (digits_decimal own n small)
    (and_from (nat_lt 0 (length (decimal n))) _ (lt-ltb 0 (length (decimal n)) some) (⊎_elim
    (λ (zero : n ≡ 0). or_left (nat_eq (length (decimal n)) 1) _ (eq-eqb (length (decimal n)) 1 (ap length (ap decimal zero ∙ decimal_digit 0 (omega arith)))))
    (λ (other : n ≡ 0 → ⊥).
    let above : 48 < get_or (decimal n) 0 0 = first_decimal n (omega (arith, other)) small in
    or_right (nat_eq (length (decimal n)) 1) _ (not_from_false _ (ne_eqb (get_or (decimal n) 0 0) 48 (λ e. omega arith))))
    (cases_eq n 0)))

pub printed_numbers_are_read : PrintedNumbersAreRead
printed_numbers_are_read low high n from to wide =
    let small : n < 2 ^ 64 = omega arith in
    let same : value_of (decimal n) ≡ n = digits_value-decimal own n small in
    let test : is_number_within low high (decimal n) ≡ true =
    and_from _ _ (decimal_is n small) (and_from _ _ (le-leb low (value_of (decimal n)) (omega arith)) (le-leb (value_of (decimal n)) high (omega arith))) in
    cond-true _ (Some (value_of (decimal n))) None test ∙ ap Some same

-- what a number that is read tells of its text
pub record IsRead (low high : ℕ) (text : List ℕ) (n : ℕ) : Type 0 where
  pub passes : is_number_within low high text ≡ true
  pub value : value_of text ≡ n
  pub from : low ≤ n
  pub to : n ≤ high

pub read_number : (low high : ℕ) (text : List ℕ) (n : ℕ) → number_within low high text ≡ Some n → IsRead low high text n
read_number low high text n e =
    elim (cases_Bool (is_number_within low high text)) [
      | inl holds ↦
          let found : Some (value_of text) ≡ Some n = rw holds at e in
          let same : value_of text ≡ n = cc in
          let (form, range) = and_parts (is_decimal text) _ holds in
          let (least, most) = and_parts (nat_le low (value_of text)) (nat_le (value_of text) high) range in
          let above = leb-true low (value_of text) least in
          let below = leb-true (value_of text) high most in
          record { passes = holds; value = same; from = omega arith; to = omega arith }
      | inr fails ↦ let none : None ≡ Some n = rw fails at e in absurd (cc)
    ]

-- the text of a number is its decimal
printed : (text : List ℕ) (n : ℕ) → is_decimal text ≡ true → value_of text ≡ n → n < 2 ^ 64 → decimal n ≡ text
printed text n form same small =
    let (digits, begins) = and_parts (list_all is_ascii_digit text) _ form in
    let (some, first) = and_parts (nat_lt 0 (length text)) _ begins in
    ap decimal (sym same) ∙ decimal-digits_value own text digits (ltb-true _ _ some) (λ z. alone text first z) (omega arith)
  where
    alone : (text : List ℕ) → (nat_eq (length text) 1 || not (nat_eq (get_or text 0 0) 48)) ≡ true → get_or text 0 0 ≡ 48 → length text ≡ 1
    alone text first z = elim (or_cases (nat_eq (length text) 1) (not (nat_eq (get_or text 0 0) 48)) first) [
      | inl one ↦ eqb-true (length text) 1 one
      | inr other ↦ let no = not-true _ other in absurd (let yes_zero = eq-eqb (get_or text 0 0) 48 z in cc)
    ]

pub read_numbers_are_printed : ReadNumbersArePrinted
read_numbers_are_printed low high n text wide e =
    let read = read_number low high text n e in
    let (form, range) = and_parts (is_decimal text) _ read.passes in
    let to = read.to in
    printed text n form read.value (omega arith)

-- the digits of a printed number are digits
pub decimal_digits : (n : ℕ) → n < 2 ^ 64 → list_all is_ascii_digit (decimal n) ≡ true
decimal_digits n small = digits_decimal own n small
