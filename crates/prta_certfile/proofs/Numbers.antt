-- Numbers in decimal, as the lines of a certificate hold them.
use Rattle.std.proofs.Common.{◌≡◌, ◌⊎◌, ℕ, ◌^◌, ◌<◌, ◌≤◌, true, false, nat_eq, Some, List, get_or, decimal, arith, inl, inr}
use Rattle.std.specs.Char.{is_ascii_digit}
use Rattle.std.proofs.lemmas.Bool.Decides.{nat_tests}
use Rattle.std.proofs.lemmas.List.Sums.{AllPass-from_list_all}
use Rattle.prta_number.specs.Decimal.{number_within}
use Rattle.prta_number.proofs.Numbers.{read_number as number_read, read_numbers_are_printed, decimal_digits}
use Rattle.prta_certfile.proofs.Cuts.{Lacks}

pub record IsNumber (high : ℕ) (text : List ℕ) (n : ℕ) : Type 0 where
  pub printed : decimal n ≡ text
  pub small : n ≤ high

-- a number that is read is printed as it was
pub read_number : (high : ℕ) (text : List ℕ) (n : ℕ) → high < 2 ^ 64 → number_within 0 high text ≡ Some n → IsNumber high text n
read_number high text n wide e = record {
  printed = read_numbers_are_printed 0 high n text wide e;
  small = (number_read 0 high text n e).to;
}

-- a byte that is no digit
pub decimal_lacks : (byte n : ℕ) → n < 2 ^ 64 → byte < 48 ⊎ 57 < byte → Lacks byte (decimal n)
decimal_lacks byte n small other k d low =
    let digit = AllPass-from_list_all is_ascii_digit (decimal n) (decimal_digits n small) k d low in
    not_this (get_or (decimal n) k d) byte digit other
  where
    not_this : (b byte : ℕ) → is_ascii_digit b ≡ true → byte < 48 ⊎ 57 < byte → nat_eq b byte ≡ false
    not_this b byte digit (inl low) = grind (arith, nat_tests)
    not_this b byte digit (inr high) = grind (arith, nat_tests)
