-- The shift of a list of chances.
use Rattle.std.specs.Prelude.{ℕ, ◌+◌, List, length}
use Rattle.prta_mass.specs.Chances.{at, cells_of}

-- at each cell the value t places later: what stood at t or before is gathered at 0
abbrev pub shifted : ℕ → List ℕ → List ℕ
shifted t cells = cells_of (length cells) (λ k. at cells (k + t))
