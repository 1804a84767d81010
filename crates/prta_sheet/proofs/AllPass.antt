-- The first of several answers is none exactly where each of them is none.
use Rattle.std.proofs.Common.{◌≡◌, false, Option, None, List, [], ◌∷◌, ◌++◌, refl}
use Rattle.std.specs.List.{AllByRecursion as Each}
use Rattle.toml.specs.Data.{get_member}
use Rattle.prta_sheet.specs.declared.fault.SheetFault.TheVariants.{OutOfRange}
use Rattle.prta_sheet.specs.declared.conditions.Condition.TheVariants.{Range}
use Rattle.prta_sheet.specs.Format.{Row}
use Rattle.prta_sheet.specs.DocumentConditions.{first_of, fails, rows_fault, Spot}
use Rattle.prta_sheet.proofs.FirstOf.{first_none, next_none, both_none, when_none, when_false}
use Rattle.prta_sheet.proofs.Each.{Each-append, Each-left, Each-right, Each-weaker}

module _ {X Y : Type 0} (f : X → Option Y) where
  pub first_of-each : (xs : List X) → first_of f xs ≡ None → Each (λ x. f x ≡ None) xs
  first_of-each [] h = tt
  first_of-each (x ∷ xs) h =
      (first_none (f x) (first_of f xs) h, first_of-each xs (next_none (f x) (first_of f xs) h))

  pub first_of-none : (xs : List X) → Each (λ x. f x ≡ None) xs → first_of f xs ≡ None
  first_of-none [] h = refl
  first_of-none (x ∷ xs) h = both_none (f x) (first_of f xs) h.0 (first_of-none xs h.1)

  pub first_of-left : (xs ys : List X) → first_of f (xs ++ ys) ≡ None → first_of f xs ≡ None
  first_of-left xs ys h = first_of-none xs (Each-left (λ x. f x ≡ None) xs ys (first_of-each (xs ++ ys) h))

  pub first_of-right : (xs ys : List X) → first_of f (xs ++ ys) ≡ None → first_of f ys ≡ None
  first_of-right xs ys h = first_of-none ys (Each-right (λ x. f x ≡ None) xs ys (first_of-each (xs ++ ys) h))

  pub first_of-append : (xs ys : List X) → first_of f xs ≡ None → first_of f ys ≡ None → first_of f (xs ++ ys) ≡ None
  first_of-append xs ys h k = first_of-none (xs ++ ys) (Each-append (λ x. f x ≡ None) xs ys (first_of-each xs h) (first_of-each ys k))

-- no value of a table is outside its range
module _ (s : Spot) where
  abbrev pub IsRowInRange : Row → Type 0
  IsRowInRange row = fails row.range (get_member row.text s.table) ≡ false

  pub rows_in_range : rows_fault Range s ≡ None → Each IsRowInRange s.rows
  rows_in_range h = Each-weaker _ IsRowInRange (λ row here. when_none _ (OutOfRange s.at row.key) here) s.rows (first_of-each _ s.rows h)

  pub no_row_out_of_range : Each IsRowInRange s.rows → rows_fault Range s ≡ None
  no_row_out_of_range h = first_of-none _ s.rows (Each-weaker IsRowInRange _ (λ row here. when_false _ (OutOfRange s.at row.key) here) s.rows h)
