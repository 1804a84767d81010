-- What workers tell of the tasks that they analysed.
use Rattle.std.specs.Prelude.{◌≡◌, ℕ, Option, Some, None, option_map, refl, List, [], ◌++◌}
use Rattle.std.proofs.Common.{ap, append-nil, append_assoc}

-- the tasks told so far, where they are told, and then some more
abbrev pub lengthened : Option (List ℕ) → List ℕ → Option (List ℕ)
lengthened told more = option_map (λ before. before ++ more) told

-- none more
pub lengthened-nil : (told : Option (List ℕ)) → lengthened told [] ≡ told
lengthened-nil None = refl
lengthened-nil (Some before) = ap Some (append-nil before)

-- some more, and then others
pub lengthened-append : (told : Option (List ℕ)) (xs ys : List ℕ) → lengthened (lengthened told xs) ys ≡ lengthened told (xs ++ ys)
lengthened-append None xs ys = refl
lengthened-append (Some before) xs ys = ap Some (append_assoc before xs ys)

-- a worker with a list: its cap, the list, and how many more tasks there is room for
pub record ListState : Type 0 where
  pub cap : ℕ
  pub list : List ℕ
  pub spare : ℕ
