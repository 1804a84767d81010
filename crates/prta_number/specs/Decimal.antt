-- Whole numbers in decimal: which texts write one, and which.
use Rattle.std.specs.Prelude.{◌≡◌, ℕ, ◌+◌, ◌-◌, ◌*◌, ◌^◌, ◌<◌, ◌≤◌, Bool, not, ◌&&◌, ◌||◌, nat_eq, nat_lt, nat_le, if◌then◌else◌, Option, Some, None, List, length, fold, slice_index, decimal}
use Rattle.std.specs.Char.{is_ascii_digit}
use Rattle.std.specs.List.{list_all}

-- the number that decimal digits write
abbrev pub value_of : List ℕ → ℕ
value_of digits = fold (λ value digit. value * 10 + (digit - 48)) 0 digits

-- decimal digits, at least one, of which the first is no 0 unless it stands alone
abbrev pub is_decimal : List ℕ → Bool
is_decimal text = list_all is_ascii_digit text && (nat_lt 0 (length text) && (nat_eq (length text) 1 || not (nat_eq (slice_index text 0) 48)))

-- the text writes a number from low to high
abbrev pub is_number_within : ℕ → ℕ → List ℕ → Bool
is_number_within low high text = is_decimal text && (nat_le low (value_of text) && nat_le (value_of text) high)

-- that number
abbrev pub number_within : ℕ → ℕ → List ℕ → Option ℕ
number_within low high text = if is_number_within low high text then Some (value_of text) else None

-- a number that is printed is read
abbrev pub PrintedNumbersAreRead : Type 0
PrintedNumbersAreRead = (low high n : ℕ) → low ≤ n → n ≤ high → high < 2 ^ 64 → number_within low high (decimal n) ≡ Some n

-- a text that is read is printed as it was
abbrev pub ReadNumbersArePrinted : Type 0
ReadNumbersArePrinted = (low high n : ℕ) (text : List ℕ) → high < 2 ^ 64 → number_within low high text ≡ Some n → decimal n ≡ text
