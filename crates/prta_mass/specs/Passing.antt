-- Passing an allowance.
use Rattle.std.specs.Prelude.{ℕ, ◌*◌, Bool, nat_le}
use Rattle.prta_mass.specs.Unit.{unit}

-- a chance of u units is at most p / q
abbrev pub passes : ℕ → ℕ → ℕ → Bool
passes u p q = nat_le (u * q) (p * unit)
