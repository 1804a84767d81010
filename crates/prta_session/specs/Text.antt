-- Texts in parts.
use Rattle.std.specs.Prelude.{ℕ, nat_eq, Option, Some, None, List, []}
use Rattle.std.specs.List.{slice_split}
use denote.Ref.{Bor}

-- the parts of a text between the bytes of one value
abbrev pub parts : ℕ → List ℕ → List (List ℕ)
parts byte text = slice_split (λ b. nat_eq b byte) text

-- the parts of what is left of a text, where something is
abbrev pub parts_left : ℕ → Option (Bor (List ℕ)) → List (List ℕ)
parts_left byte None = []
parts_left byte (Some rest) = parts byte rest.now
