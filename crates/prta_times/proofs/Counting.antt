-- A task's counted times, count by count.
use Rattle.std.proofs.Common.{◌≡◌, ℕ, zero, suc, ◌+◌, ◌<◌, ◌≤◌, Bool, true, false, nat_lt, if◌then◌else◌, Some, None, option_map, List, [], ◌∷◌, length, get_or, take, fold, refl, ap, sym, ◌∙◌, arith, le_refl}
use Rattle.std.proofs.lemmas.Bool.{lt-ltb, le-ltb}
use Rattle.std.proofs.lemmas.List.{take_all, get_or_default}
use Rattle.std.proofs.lemmas.List.Sums.{fold_more}
use Rattle.prta_mass.specs.Table.{Table}
use Rattle.prta_sheet.specs.Sheet.{Task, task_at}
use Rattle.prta_sheet.proofs.Ranges.{no_position, All_from_places}
use Rattle.prta_times.specs.declared.fault.CountsFault.TheVariants.{TooManyPoints}
use Rattle.prta_times.specs.declared.points.Points.{Points}
use Rattle.prta_times.specs.Points.{most_times}
use Rattle.prta_times.specs.Counts.{Count, with_weight, is_of, counted, too_many_points}
use Rattle.prta_times.specs.Parts.{with_count, within_limit}
use Rattle.prta_times.proofs.First.{first_at}
use Rattle.prta_times.proofs.WithWeight.{no_shorter}

module _ (name : List ℕ) where
  -- ---- one count

  no_shorter_with : (table : Table) (count : Count) → length table ≤ length (with_count name table count)
  no_shorter_with table count = by (is_of name count)
    where
      by : (b : Bool) → length table ≤ length (if b then with_weight count.time count.weight table else table)
      by true = (no_shorter count.time count.weight table).1
      by false = le_refl _

  -- ---- all counts

  no_shorter_after : (table : Table) (counts : List Count) → length table ≤ length (fold (with_count name) table counts)
  no_shorter_after table [] = le_refl _
  no_shorter_after table (count ∷ counts) = omega (arith, no_shorter_with table count, no_shorter_after (with_count name table count) counts)

  -- more counts make no fewer points
  first_counts : (table : Table) (counts : List Count) (n : ℕ) → length (fold (with_count name) table (take n counts)) ≤ length (fold (with_count name) table counts)
  first_counts table counts zero = no_shorter_after table counts
  first_counts table [] (suc n) = le_refl _
  first_counts table (count ∷ counts) (suc n) = first_counts (with_count name table count) counts n

  module _ (counts : List Count) (i : ℕ) (count : Count) (low : i < length counts) (is : count ≡ get_or counts i count) where
    pub counted_next : with_count name (counted name (take i counts)) count ≡ counted name (take (i + 1) counts)
    counted_next = ap (with_count name (counted name (take i counts))) is ∙ sym (fold_more (with_count name) [] counts i count low)

    pub too_long : (most : ℕ) → most < length (counted name (take (i + 1) counts)) → None ≡ within_limit most (counted name counts)
    too_long most many =
        let above : nat_lt most (length (counted name counts)) ≡ true = lt-ltb _ _ (omega (arith, many, first_counts [] counts (i + 1))) in
        rw above refl

  pub not_long : (most : ℕ) (counts : List Count) (n : ℕ) → length counts ≤ n → length (counted name (take n counts)) ≤ most → Some (counted name (take n counts)) ≡ within_limit most (counted name counts)
  not_long most counts n all few =
      let whole : take n counts ≡ counts = take_all n counts all in
      let below : nat_lt most (length (counted name counts)) ≡ false = le-ltb _ _ (omega (arith, few, ap (λ cs. length (counted name cs)) whole)) in
      rw (whole, below) refl

-- ---- over the tasks

is_long : (most : ℕ) (table : Table) → None ≡ within_limit most table → nat_lt most (length table) ≡ true
is_long most table e = by (nat_lt most (length table)) e
  where
    by : (b : Bool) → None ≡ (if b then None else Some table) → b ≡ true
    by true e = refl
    by false e = cc

module _ (points : Points) (tasks : List Task) (counts : List Count) where
  abbrev table_at : ℕ → Table
  table_at k = counted (task_at tasks k).name counts

  abbrev has_many : Task → Bool
  has_many task = nat_lt (most_times points) (length (counted task.name counts))

  pub too_many_here : (i : ℕ) (task : Task) (name : List ℕ) → i < length tasks → task ≡ get_or tasks i task → name ≡ task.name → None ≡ within_limit (most_times points) (counted name counts) →
      ((k : ℕ) → k < i → length (table_at k) ≤ most_times points) → option_map TooManyPoints (too_many_points points tasks counts) ≡ Some (TooManyPoints i)
  too_many_here i task name low is same long few =
      let here : has_many task ≡ true = ap (λ n. nat_lt (most_times points) (length (counted n counts))) (sym same) ∙ is_long (most_times points) (counted name counts) long in
      let there : task_at tasks i ≡ task = get_or_default tasks i _ task low ∙ sym is in
      ap (option_map TooManyPoints) (first_at has_many tasks i _ low (λ k l. le-ltb _ _ (few k l)) (ap has_many there ∙ here))

  pub none_too_many : ((k : ℕ) → k < length tasks → length (table_at k) ≤ most_times points) → too_many_points points tasks counts ≡ None
  none_too_many few = no_position has_many tasks (All_from_places (λ (task : Task). has_many task ≡ false) tasks _ (λ k low. le-ltb _ _ (few k low)))
