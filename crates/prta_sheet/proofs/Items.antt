-- The values of an array.
use Rattle.std.proofs.Common.{◌≡◌, ◌≢◌, ℤ, Bool, false, ◌&&◌, nat_le, Some, unwrap_or, List, [], ◌∷◌, length, refl, ap, ap₂, sym, ◌∙◌, arith}
use Rattle.std.specs.List.{list_all}
use Rattle.std.specs.Option.{option_map_or}
use Rattle.toml.specs.Data.{Data, string, integer, float, boolean, datetime, array, table, Items, item, no_items, as_array}
use Rattle.toml.specs.View.{view, items_view}
use Rattle.toml.specs.declared.value.Value.{Value}
use Rattle.prta_sheet.specs.Format.{each_item, item_count, is_array_of, is_pair_with, is_times, is_cycle}
use Rattle.prta_sheet.specs.Reading.{integers_of}

-- what gives one answer for none, one, and three items or more gives it for items that aren't two
pub not_two : {X : Type 0} (missing : X) (f : Items → X) →
    f no_items ≡ missing →
    ((a : Data) → f (item a no_items) ≡ missing) →
    ((a b c : Data) (rest : Items) → f (item a (item b (item c rest))) ≡ missing) →
    (items : List Value) → length items ≢ 2 → f (items_view items) ≡ missing
not_two missing f none one more [] other = none
not_two missing f none one more (first ∷ []) other = one (view first)
not_two missing f none one more (first ∷ second ∷ []) other = absurd (other refl)
not_two missing f none one more (first ∷ second ∷ third ∷ rest) other = more (view first) (view second) (view third) (items_view rest)

-- a test of each item is a test of each value
pub each_item_view : (test : Data → Bool) (values : List Value) → list_all (λ v. test (view v)) values ≡ each_item test (items_view values)
each_item_view test [] = refl
each_item_view test (v ∷ values) = ap (λ rest. test (view v) && rest) (each_item_view test values)

pub is_array_of_values : (test : Data → Bool) (d : Data) (values : List Value) → Some (items_view values) ≡ as_array d → list_all (λ v. test (view v)) values ≡ is_array_of test d
is_array_of_values test (array items) values e = each_item_view test values ∙ ap (λ o. each_item test (unwrap_or o no_items)) e
is_array_of_values test (string s) values e = cc
is_array_of_values test (integer n) values e = cc
is_array_of_values test (float x) values e = cc
is_array_of_values test (boolean b) values e = cc
is_array_of_values test (datetime t) values e = cc
is_array_of_values test (table entries) values e = cc

-- the items are as many as the values
pub item_count_view : (values : List Value) → item_count (items_view values) ≡ length values
item_count_view [] = refl
item_count_view (v ∷ values) = omega (arith, item_count_view values)

-- an array of few tables, by its values
pub is_cycle_of_values : (d : Data) (values : List Value) → Some (items_view values) ≡ as_array d → ((nat_le 1 (length values) && nat_le (length values) 16) && list_all (λ v. is_times (view v)) values) ≡ is_cycle d
is_cycle_of_values (array items) values e =
    ap₂ (λ n b. (nat_le 1 n && nat_le n 16) && b) (sym (item_count_view values)) (each_item_view is_times values)
    ∙ ap (λ o. (nat_le 1 (item_count (unwrap_or o no_items)) && nat_le (item_count (unwrap_or o no_items)) 16) && each_item is_times (unwrap_or o no_items)) e
is_cycle_of_values (string s) values e = cc
is_cycle_of_values (integer n) values e = cc
is_cycle_of_values (float x) values e = cc
is_cycle_of_values (boolean b) values e = cc
is_cycle_of_values (datetime t) values e = cc
is_cycle_of_values (table entries) values e = cc

-- a test of two integers is one of the two that the array has
pub is_pair_with_integers : (test : ℤ → ℤ → Bool) (d : Data) → is_pair_with test d ≡ option_map_or (λ p. test p.0 p.1) (integers_of d) false
is_pair_with_integers test (string s) = refl
is_pair_with_integers test (integer n) = refl
is_pair_with_integers test (float x) = refl
is_pair_with_integers test (boolean b) = refl
is_pair_with_integers test (datetime t) = refl
is_pair_with_integers test (table entries) = refl
is_pair_with_integers test (array items) = by_items items
  where
    by_second : (a : ℤ) (d : Data) → is_pair_with test (array (item (integer a) (item d no_items))) ≡ option_map_or (λ p. test p.0 p.1) (integers_of (array (item (integer a) (item d no_items)))) false
    by_second a (string s) = refl
    by_second a (integer n) = refl
    by_second a (float x) = refl
    by_second a (boolean b) = refl
    by_second a (datetime t) = refl
    by_second a (table entries) = refl
    by_second a (array items) = refl

    by_first : (c d : Data) → is_pair_with test (array (item c (item d no_items))) ≡ option_map_or (λ p. test p.0 p.1) (integers_of (array (item c (item d no_items)))) false
    by_first (string s) d = refl
    by_first (integer n) d = by_second n d
    by_first (float x) d = refl
    by_first (boolean b) d = refl
    by_first (datetime t) d = refl
    by_first (table entries) d = refl
    by_first (array items) d = refl

    by_items : (items : Items) → is_pair_with test (array items) ≡ option_map_or (λ p. test p.0 p.1) (integers_of (array items)) false
    by_items no_items = refl
    by_items (item c no_items) = by_one c
      where
        by_one : (c : Data) → is_pair_with test (array (item c no_items)) ≡ false
        by_one (string s) = refl
        by_one (integer n) = refl
        by_one (float x) = refl
        by_one (boolean b) = refl
        by_one (datetime t) = refl
        by_one (table entries) = refl
        by_one (array items) = refl
    by_items (item c (item d no_items)) = by_first c d
    by_items (item c (item d (item e rest))) = by_more c d
      where
        by_more : (c d : Data) → is_pair_with test (array (item c (item d (item e rest)))) ≡ false
        by_more (integer n) (integer m) = refl
        by_more (integer n) (string s) = refl
        by_more (integer n) (float x) = refl
        by_more (integer n) (boolean b) = refl
        by_more (integer n) (datetime t) = refl
        by_more (integer n) (table entries) = refl
        by_more (integer n) (array items) = refl
        by_more (string s) d = refl
        by_more (float x) d = refl
        by_more (boolean b) d = refl
        by_more (datetime t) d = refl
        by_more (table entries) d = refl
        by_more (array items) d = refl
