-- The steps of a list of chances, place by place.
use Rattle.std.specs.Prelude.{ℕ, nat_lt, if◌then◌else◌, List, []}
use Rattle.prta_certfile.specs.Text.{pair_text}

-- what is written at a place: the step there, where the value is above the one before
abbrev pub step_text : ℕ → ℕ → ℕ → List ℕ
step_text before place value = if nat_lt before value then pair_text (place, value) else []
