-- The unit in which chances are counted.
use Rattle.std.specs.Prelude.{ℕ}

-- a chance of 1, in units of 2^-60
abbrev pub unit : ℕ
unit = 1152921504606846976
