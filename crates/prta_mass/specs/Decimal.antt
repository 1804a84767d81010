-- Chances as decimals.
use Rattle.std.specs.Prelude.{ℕ, ◌+◌, ◌*◌, ◌/◌, ◌%◌, ◌^◌, List, [], ◌∷◌, map}
use Rattle.std.specs.Int.{div_ceil}
use Rattle.prta_mass.specs.Unit.{unit}

-- the character of the digit of n that counts 10^place
abbrev pub digit_at : ℕ → ℕ → ℕ
digit_at n place = 48 + n / 10 ^ place % 10

-- a number of units of 10^-12, below 10: a digit, a point and twelve digits
abbrev pub decimal_text : ℕ → List ℕ
decimal_text n = digit_at n 12 ∷ 46 ∷ map (digit_at n) (11 ∷ 10 ∷ 9 ∷ 8 ∷ 7 ∷ 6 ∷ 5 ∷ 4 ∷ 3 ∷ 2 ∷ 1 ∷ 0 ∷ [])

-- a chance in units of 2^-60, rounded down and rounded up to 12 decimals
abbrev pub decimal_below : ℕ → List ℕ
decimal_below u = decimal_text (u * 10 ^ 12 / unit)

abbrev pub decimal_above : ℕ → List ℕ
decimal_above u = decimal_text (div_ceil (u * 10 ^ 12) unit)
