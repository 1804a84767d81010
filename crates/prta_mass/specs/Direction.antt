-- The two directions of rounding. Up serves upper bounds, Down lower bounds.
use Rattle.std.specs.Prelude.{ℕ, ◌/◌, ◌≤◌}
use Rattle.std.specs.Int.{div_ceil}
use Rattle.prta_mass.specs.declared.direction.Dir.{Dir}
use Rattle.prta_mass.specs.declared.direction.Dir.TheVariants.{Up, Down}

-- a stands on the safe side of b: at most b in Up, at least b in Down
abbrev pub IsSafe : Dir → ℕ → ℕ → Type 0
IsSafe Up a b = a ≤ b
IsSafe Down a b = b ≤ a

-- the quotient: its floor in Up, its ceiling in Down
abbrev pub divided : Dir → ℕ → ℕ → ℕ
divided Up n w = n / w
divided Down n w = div_ceil n w
