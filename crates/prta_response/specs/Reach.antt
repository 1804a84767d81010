-- How far the cells of a response have to be made, so that the one at a limit is right after all delays.
use Rattle.std.specs.Prelude.{ℕ, ◌+◌, ◌-◌, ◌≤◌, min, List, [], ◌∷◌, slice_index_or}
use Rattle.prta_mass.specs.Table.{Table}
use Rattle.prta_sheet.specs.Job.{Job}

-- the least time of a table, its first
abbrev pub least : Table → ℕ
least pairs = (slice_index_or pairs 0 (0, 0)).0

-- what the cells up to a reach suffice for: each delay reads within the reach, which grows by the least time of its table up to the limit, and is the limit at the end
abbrev pub Suffices : (Job → Table) → ℕ → ℕ → List Job → ℕ → Type 0
Suffices table r limit [] reach = limit ≤ reach
Suffices table r limit (job ∷ jobs) reach = (job.release - r ≤ reach) × Suffices table r limit jobs (min limit (reach + least (table job)))
