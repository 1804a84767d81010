-- What a sink took in a call, where it tells that.
use Rattle.std.specs.Prelude.{◌≡◌, ℕ, ◌≤◌, ◌++◌, Option, option_map, List, take, length}

-- the whole text
abbrev pub Took : Option (List ℕ) → Option (List ℕ) → List ℕ → Type 0
Took before now text = now ≡ option_map (λ taken. taken ++ text) before

-- the first bytes of the text
abbrev pub TookPart : Option (List ℕ) → Option (List ℕ) → List ℕ → Type 0
TookPart before now text = (n : ℕ) × (n ≤ length text) × (now ≡ option_map (λ taken. taken ++ take n text) before)

-- the text but for its end, which stands on a page
pub record TookAllBut (before now : Option (List ℕ)) (text page : List ℕ) : Type 0 where
  pub put : List ℕ
  pub took : Took before now put
  pub rest : put ++ page ≡ text

-- the first bytes of some line of a kind; the whole line where the sink's count of faults didn't rise
pub record TookLine (before now : Option (List ℕ)) (Risen : Type 0) (IsKind : List ℕ → Type 0) : Type 0 where
  pub line : List ℕ
  pub is : IsKind line
  pub part : TookPart before now line
  pub whole : ¬ Risen → Took before now line
