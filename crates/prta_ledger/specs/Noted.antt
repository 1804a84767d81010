-- Entries appended to those noted, where these are told.
use Rattle.std.specs.Prelude.{◌≡◌, Option, Some, None, option_map, refl, List, [], ◌++◌}
use Rattle.std.proofs.Common.{ap, append-nil, append_assoc}
use Rattle.prta_ledger.specs.declared.entry.Entry.{Entry}

-- the entries noted, and then some more
abbrev pub appended : Option (List Entry) → List Entry → Option (List Entry)
appended noted more = option_map (λ before. before ++ more) noted

-- none more
pub appended-nil : (noted : Option (List Entry)) → appended noted [] ≡ noted
appended-nil None = refl
appended-nil (Some before) = ap Some (append-nil before)

-- some more, and then others
pub appended-append : (noted : Option (List Entry)) (xs ys : List Entry) → appended (appended noted xs) ys ≡ appended noted (xs ++ ys)
appended-append None xs ys = refl
appended-append (Some before) xs ys = ap Some (append_assoc before xs ys)
