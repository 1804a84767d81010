-- Limbs of a value, each a part of its bits, and weighted sums of one limb.
use Rattle.std.specs.Prelude.{ℕ, ◌+◌, ◌*◌, ◌/◌, ◌%◌, ◌^◌, List, sum_by}
use Rattle.prta_mass.specs.Table.{Table}
use Rattle.prta_mass.specs.Chances.{at, before}

-- the halves, cut at 32 bits
abbrev pub high_half : ℕ → ℕ
high_half x = x / 2 ^ 32

abbrev pub low_half : ℕ → ℕ
low_half x = x % 2 ^ 32

-- the quarters, of 15 bits; the top one is not cut
abbrev pub top_quarter : ℕ → ℕ
top_quarter x = x / 2 ^ 45

abbrev pub high_quarter : ℕ → ℕ
high_quarter x = x / 2 ^ 30 % 2 ^ 15

abbrev pub middle_quarter : ℕ → ℕ
middle_quarter x = x / 2 ^ 15 % 2 ^ 15

abbrev pub low_quarter : ℕ → ℕ
low_quarter x = x % 2 ^ 15

-- the sum over the pairs of the weight times one limb of the list's value one time before place k
abbrev pub limb_sum : (ℕ → ℕ) → Table → List ℕ → ℕ → ℕ
limb_sum limb table cells k = sum_by (λ pair. pair.1 * limb (before (at cells) k pair.0)) table

-- four quarters, or their sums, each at its place
abbrev pub joined : ℕ → ℕ → ℕ → ℕ → ℕ
joined top high middle low = top * 2 ^ 45 + high * 2 ^ 30 + middle * 2 ^ 15 + low
