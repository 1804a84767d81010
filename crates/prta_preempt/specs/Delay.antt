-- The delay of a response at a split place: what ends by then stays, what ends later is put off by the time of a job.
use Rattle.std.specs.Prelude.{ℕ, ◌+◌, ◌-◌, ◌*◌, ◌%◌, max, Bool, ◌&&◌, not, nat_le, nat_lt, nat_eq, if◌then◌else◌, List, length, sum_by}
use Rattle.std.specs.List.{range_with_len, list_any}
use Rattle.prta_mass.specs.Table.{Table, total}
use Rattle.prta_mass.specs.Chances.{at, cells_of}
use Rattle.prta_mass.specs.Direction.{divided}
use Rattle.prta_mass.specs.declared.direction.Dir.{Dir}

-- the sum over the pairs of the weight times the value one time before place k, but not before the split place
abbrev pub delayed_sum : Table → ℕ → List ℕ → ℕ → ℕ
delayed_sum table d cells k = sum_by (λ pair. pair.1 * at cells (max (k - pair.0) d)) table

-- the list after the delay: the cells up to d stay, and one above is the weighted mean, rounded in the direction
abbrev pub delayed : Dir → Table → ℕ → List ℕ → List ℕ
delayed dir table d cells = cells_of (length cells) (λ k. if nat_le k d then at cells k else divided dir (delayed_sum table d cells k) (total table))

-- the division leaves a remainder in cell k, above d
abbrev pub leaves_rest_above : Table → ℕ → List ℕ → ℕ → Bool
leaves_rest_above table d cells k = nat_lt d k && not (nat_eq (delayed_sum table d cells k % total table) 0)

-- it does so in some cell
abbrev pub is_delay_rounded : Table → ℕ → List ℕ → Bool
is_delay_rounded table d cells = list_any (leaves_rest_above table d cells) (range_with_len 0 (length cells))

-- the tail above d: what each cell has more than cell d, and 0 up to d
abbrev pub tail_above : ℕ → List ℕ → List ℕ
tail_above d cells = cells_of (length cells) (λ k. if nat_le k d then 0 else at cells k - at cells d)

-- the cells up to d, and above it cell d and what the tail has there
abbrev pub merged : ℕ → List ℕ → List ℕ → List ℕ
merged d cells tail = cells_of (length cells) (λ k. if nat_le k d then at cells k else at cells d + at tail k)
