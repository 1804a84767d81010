-- A sink over a writer, as contracts see it.
use Rattle.std.specs.Prelude.{ℕ, Option, List}

-- the bytes that the writer holds, where it tells them, and the count of the faults
pub record WriterState : Type 0 where
  pub holds : Option (List ℕ)
  pub faults : ℕ
