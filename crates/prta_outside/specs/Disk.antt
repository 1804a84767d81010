-- What the opening of a file says, and a shelf over the files of a disk.
use Rattle.std.specs.Prelude.{◌≡◌, ℕ, Option, Some, None, IsSomeAnd, List, ⊤}

-- where a disk tells its files, one that was opened at a path has the bytes under that path left
abbrev pub OpensAt : Option (List ℕ → Option (List ℕ)) → List ℕ → Option (List ℕ) → Type 0
OpensAt None path left = ⊤
OpensAt (Some files) path left = IsSomeAnd left (λ bytes. files path ≡ Some bytes)

-- the names of the reads that failed, and the count of the calls of the disk that failed
pub record FolderState : Type 0 where
  pub failed : List (List ℕ)
  pub faults : ℕ
