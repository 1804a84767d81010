-- What the other calls of a curve make of its list of chances.
use Rattle.std.specs.Prelude.{ℕ, ◌-◌, Option, Bool, nat_lt, if◌then◌else◌, List, length, find, option_map}
use Rattle.std.specs.List.{range_with_len}
use Rattle.prta_mass.specs.Unit.{unit}
use Rattle.prta_mass.specs.Chances.{at, cells_of}
use Rattle.prta_dist.specs.declared.effect.Break.{Break}

-- s taken off each cell below top, not below 0, and the unit from top on
abbrev pub lower : ℕ → ℕ → List ℕ → List ℕ
lower s top cells = cells_of (length cells) (λ k. if nat_lt k top then at cells k - s else unit)

-- the value from the place on
abbrev pub raise : ℕ → ℕ → List ℕ → List ℕ
raise place value cells = cells_of (length cells) (λ k. if nat_lt k place then at cells k else value)

-- the image is below the list at k
abbrev pub breaks_at : List ℕ → List ℕ → ℕ → Bool
breaks_at cells image k = nat_lt (at image k) (at cells k)

-- a place with the list's cell and the image's
abbrev pub break_at : List ℕ → List ℕ → ℕ → Break
break_at cells image k = record { place = k; had = at cells k; got = at image k }

-- the first place where the image is below the list
abbrev pub first_break : List ℕ → List ℕ → Option Break
first_break cells image = option_map (break_at cells image) (find (breaks_at cells image) (range_with_len 0 (length cells)))
