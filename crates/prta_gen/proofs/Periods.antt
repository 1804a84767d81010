-- The four periods.
use Rattle.std.proofs.Common.{◌≡◌, ℕ, zero, suc, ◌*◌, ◌%◌, ◌^◌, ◌<◌, ◌≤◌, refl, arith}
use Rattle.prta_gen.specs.Generator.{drawn, state_after, drawn_period}
use Rattle.prta_gen.proofs.States.{drawn_below}

-- 50 to 400 ticks, and a divisor of 400
pub record IsPeriod (period : ℕ) : Type 0 where
  pub low : 50 ≤ period
  pub high : period ≤ 400
  pub divides : 400 % period ≡ 0

of_four : (k : ℕ) → k < 4 → IsPeriod (50 * 2 ^ k)
of_four zero low = record { low = omega arith; high = omega arith; divides = refl }
of_four (suc zero) low = record { low = omega arith; high = omega arith; divides = refl }
of_four (suc (suc zero)) low = record { low = omega arith; high = omega arith; divides = refl }
of_four (suc (suc (suc zero))) low = record { low = omega arith; high = omega arith; divides = refl }
of_four (suc (suc (suc (suc k)))) low = absurd (omega arith)

pub period_is : (x : ℕ) → IsPeriod (drawn_period x)
period_is x = of_four (drawn 4 (state_after 1 x)) (drawn_below 4 (state_after 1 x) (omega arith))
