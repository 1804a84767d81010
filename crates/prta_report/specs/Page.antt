-- Pages: bytes that are written into room that was taken before.
use Rattle.std.specs.Prelude.{ℕ, List}

-- the bytes written so far, and how many more have room
pub record PageParts : Type 0 where
  pub written : List ℕ
  pub spare : ℕ
