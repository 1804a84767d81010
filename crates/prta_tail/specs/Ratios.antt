-- The ratios at which a level's backlog may have a geometric tail.
use Rattle.std.specs.Prelude.{◌≡◌, ℕ, ◌-◌, ◌^◌, ◌<◌, ◌≤◌, List, [], ◌∷◌, map, All}
use Rattle.std.specs.List.{range_with_len}
use Rattle.prta_tail.specs.declared.ratio.Ratio.{Ratio}
use Rattle.prta_tail.specs.declared.ratio.TheConstants.{RATIOS}

abbrev pub ratio : ℕ → ℕ → Ratio
ratio p q = record { p = p; q = q }

-- (2^j - 1) / 2^j for j from 1 to 10
abbrev pub ratios : List Ratio
ratios = map (λ j. ratio (2 ^ j - 1) (2 ^ j)) (range_with_len 1 10)

-- p/q is above 0 and below 1, and q is small
pub record IsProper (r : Ratio) : Type 0 where
  pub some : 0 < r.p
  pub below_one : r.p < r.q
  pub short : r.q ≤ 1024

-- the ratios of the code, in numbers
pub record StatedRatios : Type 0 where
  pub of_code : RATIOS ≡ ratios
  pub numbers : ratios
      ≡ ratio 1 2 ∷ ratio 3 4 ∷ ratio 7 8 ∷ ratio 15 16 ∷ ratio 31 32 ∷ ratio 63 64 ∷ ratio 127 128 ∷ ratio 255 256 ∷ ratio 511 512 ∷ ratio 1023 1024 ∷ []
  pub proper : All IsProper ratios
