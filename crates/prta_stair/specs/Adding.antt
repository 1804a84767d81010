-- The sums of an addition, by steps and by marks.
use Rattle.std.specs.Prelude.{ℕ, zero, suc, ◌+◌, ◌-◌, ◌*◌, ◌%◌, Bool, false, not, nat_eq, ◌||◌, List, take, sum_by}
use Rattle.prta_mass.specs.Table.{Table}
use Rattle.prta_mass.specs.Chances.{before}
use Rattle.prta_stair.specs.Steps.{Steps, value_at}

-- the sum over the pairs of the weight times the list's value one time before place k
abbrev pub sum_at : Table → Steps → ℕ → ℕ
sum_at table steps k = sum_by (λ pair. pair.1 * before (value_at steps) k pair.0) table

-- the sum of the first n marks
abbrev pub sum_of_first : ℕ → List ℕ → ℕ
sum_of_first n marks = sum_by (λ mark. mark) (take n marks)

-- the sum of the marks up to place k, the first of which stands at `first`
abbrev pub marked : List ℕ → ℕ → ℕ → ℕ
marked marks first k = sum_of_first (k + 1 - first) marks

-- at some place below k the sum leaves a remainder
abbrev pub some_rest : ℕ → (ℕ → ℕ) → ℕ → Bool
some_rest total sum zero = false
some_rest total sum (suc k) = some_rest total sum k || not (nat_eq (sum k % total) 0)
