-- The counts of the records so far, and the first record that gives none.
use Rattle.std.proofs.Common.{◌≡◌, ℕ, ◌+◌, ◌<◌, Bool, true, false, not, Some, None, option_map, List, [], ◌∷◌, ◌++◌, length, get_or, take, map, position, ap, sym, ◌∙◌, arith, ap₂, inl, inr, is_some}
use Rattle.std.proofs.lemmas.Bool.{cases_lt}
use Rattle.std.proofs.lemmas.Grind.{flat_map-append}
use Rattle.std.proofs.lemmas.List.{take_more, length-map, get_or-map, map-append}
use Rattle.prta_sheet.proofs.Ranges.{no_position, All_from_places}
use Rattle.csv.specs.Records.{Row, fields_of}
use Rattle.prta_times.specs.declared.fault.CountsFault.TheVariants.{BadRow}
use Rattle.prta_times.specs.Counts.{Count, count_in, is_count, counts_of, bad_row}
use Rattle.prta_times.specs.Parts.{counts_among}
use Rattle.prta_times.proofs.First.{first_at}

module _ (rows : List Row) where
  abbrev fields : List (List (List ℕ))
  fields = map fields_of rows

  -- the first records give counts
  abbrev pub AreGood : ℕ → Type 0
  AreGood n = (k : ℕ) → k < n → is_count (get_or fields k []) ≡ true

  field_at_place : (i : ℕ) (row : Row) → i < length rows → row ≡ get_or rows i row → get_or fields i [] ≡ fields_of row
  field_at_place i row low is = get_or-map fields_of rows i row [] low ∙ ap fields_of (sym is)

  module _ (i : ℕ) (row : Row) (low : i < length rows) (is : row ≡ get_or rows i row) where
    pub good_next : (count : Count) → Some count ≡ count_in (fields_of row) → AreGood i → AreGood (i + 1)
    good_next count e good k below =
        elim (cases_lt k i) [
          | inl before ↦ good k before
          | inr past ↦
              let same : k ≡ i = omega arith in
              ap (λ n. is_count (get_or fields n [])) same ∙ ap is_count (field_at_place i row low is) ∙ ap is_some (sym e)
        ]

    pub counts_next : (counts : List Count) (count : Count) → Some count ≡ count_in (fields_of row) → counts ≡ counts_among (map fields_of (take i rows)) → counts ++ count ∷ [] ≡ counts_among (map fields_of (take (i + 1) rows))
    counts_next counts count e so_far =
        let more : take (i + 1) rows ≡ take i rows ++ row ∷ [] = take_more rows i row low ∙ ap (λ (r : Row). take i rows ++ r ∷ []) (sym is) in
        sym (ap (λ rs. counts_among (map fields_of rs)) more
        ∙ ap counts_among (map-append fields_of (take i rows) (row ∷ []))
        ∙ flat_map-append (λ (fs : List (List ℕ)). counts_of (count_in fs)) (map fields_of (take i rows)) (fields_of row ∷ [])
        ∙ ap₂ (λ xs ys. xs ++ ys) (sym so_far) (ap (λ o. counts_of o ++ []) (sym e)))

    pub bad_here : None ≡ count_in (fields_of row) → AreGood i → option_map BadRow (bad_row fields) ≡ Some (BadRow (i + 1))
    bad_here e good =
        let fails : List (List ℕ) → Bool = λ fs. not (is_count fs) in
        let low_there : i < length fields = omega (arith, length-map rows fields_of) in
        let first : position fails fields ≡ Some i = first_at fails fields i [] low_there (λ k l. ap not (good k l)) (ap fails (field_at_place i row low is) ∙ ap (λ o. not (is_some o)) (sym e)) in
        ap (λ o. option_map BadRow (option_map (λ k. k + 1) o)) first

  pub all_good : AreGood (length rows) → bad_row fields ≡ None
  all_good good = ap (option_map (λ k. k + 1)) (no_position (λ (fs : List (List ℕ)). not (is_count fs)) fields (All_from_places (λ (fs : List (List ℕ)). not (is_count fs) ≡ false) fields [] (λ k low. ap not (good k (omega (arith, length-map rows fields_of))))))
