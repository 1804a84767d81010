-- Counts, which stay at 2^64 - 1.
use Rattle.std.specs.Prelude.{ℕ, ◌+◌, ◌-◌, ◌^◌, ◌≤◌, min}

-- one more, at most 2^64 - 1
abbrev pub raised : ℕ → ℕ
raised count = min (count + 1) (2 ^ 64 - 1)

-- a count rose in a call, which shows nothing once it stands at 2^64 - 1
abbrev pub HasRisen : ℕ → ℕ → Type 0
HasRisen before now = raised before ≤ now
