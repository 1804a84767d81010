-- Counts in their ranges, and the tables that they make.
use Rattle.std.proofs.Common.{◌≡◌, ℕ, ◌<◌, ◌≤◌, Bool, true, false, ◌||◌, if◌then◌else◌, Option, Some, None, List, [], ◌∷◌, length, fold, All, refl, sym, arith, true≢false, ◌⊎◌, inl, inr}
use Rattle.std.specs.List.{list_any, AllByRecursion as Each}
use Rattle.std.proofs.lemmas.Bool.{cases_order}
use Rattle.std.proofs.lemmas.List.Elements.{All-from_recursion, recursion_from_All}
use Rattle.prta_mass.specs.Table.{Table, IsTableWithin, times, total}
use Rattle.std.specs.List.Sorted.{IsStrictlyIncreasing}
use Rattle.prta_mass.specs.declared.table.TheConstants.{POINT_LIMIT, TOTAL_LIMIT}
use Rattle.prta_fewpoints.specs.declared.wide.TheConstants.{WIDE_LIMIT}
use Rattle.prta_mass.proofs.Totals.{total_positive}
use Rattle.prta_number.specs.Decimal.{number_within}
use Rattle.prta_number.proofs.Numbers.{read_number}
use Rattle.prta_sheet.specs.declared.limits.TheConstants.{TIME_LIMIT}
use Rattle.prta_sheet.specs.Document.{◌>>=◌}
use Rattle.prta_sheet.proofs.Each.{Each-append}
use Rattle.prta_times.specs.Counts.{Count, count_in, counts_of, with_weight, is_of, counted}
use Rattle.prta_times.specs.declared.points.Points.{Points}
use Rattle.prta_times.specs.declared.points.Points.TheVariants.{Every, AtMost}
use Rattle.prta_times.specs.Points.{most_times}
use Rattle.prta_times.specs.Parts.{CanAsk, CanMake, IsInRange, counts_among, with_count}
use Rattle.prta_times.proofs.WithWeight.{before_first, at_first, after_first, no_shorter}
use Rattle.prta_times.proofs.CountedSums.{counted_are_sums}

-- ---- what is read is in its ranges

numbers_in_range : (task time weight : List ℕ) → Each IsInRange (counts_of (number_within 1 TIME_LIMIT time >>= (λ t. number_within 1 TOTAL_LIMIT weight >>= (λ w. Some (record { task = task; time = t; weight = w })))))
numbers_in_range task time weight = by (number_within 1 TIME_LIMIT time) (number_within 1 TOTAL_LIMIT weight) refl refl
  where
    by : (t w : Option ℕ) → number_within 1 TIME_LIMIT time ≡ t → number_within 1 TOTAL_LIMIT weight ≡ w → Each IsInRange (counts_of (t >>= (λ t. w >>= (λ w. Some (record { task = task; time = t; weight = w })))))
    by None w e f = tt
    by (Some t) None e f = tt
    by (Some t) (Some w) e f =
        let time_read = read_number 1 TIME_LIMIT time t e in
        let weight_read = read_number 1 TOTAL_LIMIT weight w f in
        (record { some_time = time_read.from; short = time_read.to; some_weight = weight_read.from }, tt)

count_in_range : (fields : List (List ℕ)) → Each IsInRange (counts_of (count_in fields))
count_in_range [] = tt
count_in_range (x ∷ []) = tt
count_in_range (x ∷ y ∷ []) = tt
count_in_range (x ∷ y ∷ z ∷ []) = numbers_in_range x y z
count_in_range (x ∷ y ∷ z ∷ w ∷ rest) = tt

each_in_range : (rows : List (List (List ℕ))) → Each IsInRange (counts_among rows)
each_in_range [] = tt
each_in_range (row ∷ rows) = Each-append IsInRange (counts_of (count_in row)) (counts_among rows) (count_in_range row) (each_in_range rows)

pub are_in_range : (rows : List (List (List ℕ))) → All IsInRange (counts_among rows)
are_in_range rows = All-from_recursion IsInRange (counts_among rows) (each_in_range rows)

-- ---- points in their ranges

pub record IsGoodPoint (pair : ℕ × ℕ) : Type 0 where
  pub some_time : 0 < pair.0
  pub short : pair.0 ≤ TIME_LIMIT
  pub some_weight : 0 < pair.1

good_with : (time weight : ℕ) (table : Table) → 1 ≤ time → time ≤ TIME_LIMIT → 1 ≤ weight → Each IsGoodPoint table → Each IsGoodPoint (with_weight time weight table)
good_with time weight [] some short weighs good = (record { some_time = some; short = short; some_weight = weighs }, tt)
good_with time weight (pair ∷ pairs) some short weighs good =
    elim (cases_order time pair.0) [
      | inl same ↦ rw (at_first time weight pair pairs same) (record { some_time = some; short = short; some_weight = omega arith }, good.1)
      | inr (inl before) ↦ rw (before_first time weight pair pairs before) (record { some_time = some; short = short; some_weight = weighs }, good)
      | inr (inr after) ↦ rw (after_first time weight pair pairs after) (good.0, good_with time weight pairs some short weighs good.1)
    ]

module _ (name : List ℕ) where
  good_next : (table : Table) (count : Count) → IsInRange count → Each IsGoodPoint table → Each IsGoodPoint (with_count name table count)
  good_next table count is good = by (is_of name count)
    where
      by : (b : Bool) → Each IsGoodPoint (if b then with_weight count.time count.weight table else table)
      by true = good_with count.time count.weight table is.some_time is.short is.some_weight good
      by false = good

  good_after : (table : Table) (counts : List Count) → Each IsInRange counts → Each IsGoodPoint table → Each IsGoodPoint (fold (with_count name) table counts)
  good_after table [] are good = good
  good_after table (count ∷ counts) are good = good_after (with_count name table count) counts are.1 (good_next table count are.0 good)

  -- a count of the task makes a point
  some_after : (table : Table) (counts : List Count) → (list_any (is_of name) counts ≡ true) ⊎ (1 ≤ length table) → 1 ≤ length (fold (with_count name) table counts)
  some_after table [] (inl any) = absurd (true≢false (sym any))
  some_after table [] (inr some) = some
  some_after table (count ∷ counts) h = some_after (with_count name table count) counts (by (is_of name count) h)
    where
      by : (b : Bool) → ((b || list_any (is_of name) counts) ≡ true) ⊎ (1 ≤ length table) → (list_any (is_of name) counts ≡ true) ⊎ (1 ≤ length (if b then with_weight count.time count.weight table else table))
      by true h = inr (no_shorter count.time count.weight table).0
      by false h = h

  module _ (counts : List Count) (are : All IsInRange counts) where
    pub good_points : All IsGoodPoint (counted name counts)
    good_points = All-from_recursion IsGoodPoint (counted name counts) (good_after [] counts (recursion_from_All IsInRange counts are) tt)

    pub positive : All (λ pair. 0 < pair.0) (counted name counts)
    positive k d low = (good_points k d low).some_time

    rising : IsStrictlyIncreasing (times (counted name counts))
    rising = (counted_are_sums name counts).rising

    weigh : All (λ pair. 0 < pair.1) (counted name counts)
    weigh k d low = (good_points k d low).some_weight

    made_within : (most : ℕ) → list_any (is_of name) counts ≡ true → length (counted name counts) ≤ most → total (counted name counts) ≤ TOTAL_LIMIT → IsTableWithin most (counted name counts)
    made_within most any few limited =
        let some : 0 < length (counted name counts) = some_after [] counts (inl any) in
        record { some = some; few = few; positive_times = positive; increasing = rising; positive_weights = weigh; weighs = total_positive (counted name counts) some weigh; limited = limited }

    pub makes_points : (points : Points) → CanAsk points → list_any (is_of name) counts ≡ true → length (counted name counts) ≤ most_times points → total (counted name counts) ≤ TOTAL_LIMIT →
        CanMake points (counted name counts)
    makes_points Every asked any few limited = made_within POINT_LIMIT any few limited
    makes_points (AtMost k) asked any few limited = record {
      wide = made_within WIDE_LIMIT any few limited;
      some = asked.0;
      few = asked.1;
      short = λ k d low. (good_points k d low).short;
    }
