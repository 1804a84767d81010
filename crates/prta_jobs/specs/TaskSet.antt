-- Sets of tasks: a flag for each task number below the limit of tasks.
use Rattle.std.specs.Prelude.{ℕ, Bool, false, List, slice_index_or}

-- whether a set holds a task; it holds no number past its flags
abbrev pub holds : List Bool → ℕ → Bool
holds set i = slice_index_or set i false
