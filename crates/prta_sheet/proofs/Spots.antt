-- The tables among the elements of `task`, one element after the other.
use Rattle.std.proofs.Common.{◌≡◌, ℕ, ◌+◌, ◌<◌, ◌≤◌, Option, None, List, length, get_or, drop, ap, sym, ◌∙◌}
use Rattle.std.proofs.lemmas.List.{drop_all}
use Rattle.toml.specs.Data.{as_table}
use Rattle.toml.specs.View.{view, items_view}
use Rattle.toml.specs.declared.value.Value.{Value}
use Rattle.toml.proofs.Views.{items_view-drop}
use Rattle.prta_mass.specs.Table.{or_else}
use Rattle.prta_sheet.specs.declared.fault.Place.TheVariants as place
use Rattle.prta_sheet.specs.Format.{states_cycle, task_rows}
use Rattle.prta_sheet.specs.DocumentConditions.{Spot, first_of, spot, task_spots}
use Rattle.prta_sheet.proofs.FirstOf.{first_of_append}

module _ {Y : Type 0} (f : Spot → Option Y) (format : ℕ) (values : List Value) where
  -- the answer along the elements from i on
  abbrev pub from : ℕ → Option Y
  from i = first_of f (task_spots format i (items_view (drop i values)))

  -- the answer at an element
  abbrev pub at : ℕ → Value → Option Y
  at i value = first_of f (spot (place.Task i) (λ table. task_rows (states_cycle format table)) (as_table (view value)))

  pub one_more : (i : ℕ) (value : Value) → i < length values → value ≡ get_or values i value → from i ≡ or_else (at i value) (from (i + 1))
  one_more i value low is =
      let here : at i (get_or values i value) ≡ at i value = ap (at i) (sym is) in
      rw (items_view-drop values i value low) (first_of_append f (spot (place.Task i) (λ table. task_rows (states_cycle format table)) (as_table (view (get_or values i value)))) (task_spots format (i + 1) (items_view (drop (i + 1) values))))
      ∙ ap (λ o. or_else o (from (i + 1))) here

  pub past : (i : ℕ) → length values ≤ i → from i ≡ None
  past i high = rw (drop_all i values high)
