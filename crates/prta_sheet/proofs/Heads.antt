-- The conditions on the heads of tasks don't look at their tables.
use Rattle.std.proofs.Common.{◌≡◌, ℕ, zero, suc, Bool, ◌&&◌, ◌||◌, not, nat_le, Option, Some, None, option_map, List, [], ◌∷◌, map, take, length, bytes_eq, refl, ap, ap₂, sym, ◌∙◌}
use Rattle.std.specs.List.{range_with_len, position_or_len}
use Rattle.std.proofs.lemmas.List.{length-map}
use Rattle.prta_mass.specs.Table.{or_else, when}
use Rattle.prta_sheet.specs.declared.limits.TheConstants.{TASK_LIMIT}
use Rattle.prta_sheet.specs.declared.fault.SheetFault.TheVariants.{TaskCount}
use Rattle.prta_sheet.specs.Sheet.{Task, task_at}
use Rattle.prta_sheet.specs.Accepted.{is_good_name}
use Rattle.prta_sheet.specs.DocumentConditions.{first_of}
use Rattle.prta_sheet.specs.SheetConditions.{task_count, has_name, is_bad_at, first_bad_name, name_fault_at, name_fault, offset_fault}
use Rattle.prta_sheet.specs.Reading.{head_of, head_faults}

first_same : (p q : ℕ → Bool) → ((i : ℕ) → p i ≡ q i) → (is : List ℕ) → first_of (λ i. when (p i) i) is ≡ first_of (λ i. when (q i) i) is
first_same p q same [] = refl
first_same p q same (i ∷ is) = rw (same i, first_same p q same is) refl

mapped_same : {Y : Type 0} (f g : ℕ → Y) → ((i : ℕ) → f i ≡ g i) → (o : Option ℕ) → option_map f o ≡ option_map g o
mapped_same f g same None = refl
mapped_same f g same (Some i) = ap Some (same i)

module _ {X : Type 0} (f : X → Task) where
  abbrev heads : List X → List Task
  heads xs = map (λ x. head_of (f x)) xs

  same_length : (xs : List X) → length (heads xs) ≡ length (map f xs)
  same_length xs = length-map xs (λ x. head_of (f x)) ∙ sym (length-map xs f)

  same_name : (xs : List X) (i : ℕ) → (task_at (heads xs) i).name ≡ (task_at (map f xs) i).name
  same_name [] i = refl
  same_name (x ∷ xs) zero = refl
  same_name (x ∷ xs) (suc i) = same_name xs i

  same_has : (xs : List X) (i : ℕ) (name : List ℕ) → has_name (take i (heads xs)) name ≡ has_name (take i (map f xs)) name
  same_has [] zero name = refl
  same_has [] (suc i) name = refl
  same_has (x ∷ xs) zero name = refl
  same_has (x ∷ xs) (suc i) name = ap (λ rest. bytes_eq (f x).name name || rest) (same_has xs i name)

  same_bad : (xs : List X) (i : ℕ) → is_bad_at (heads xs) i ≡ is_bad_at (map f xs) i
  same_bad xs i =
      ap (λ name. not (is_good_name name) || has_name (take i (heads xs)) name) (same_name xs i)
      ∙ ap (λ b. not (is_good_name (task_at (map f xs) i).name) || b) (same_has xs i (task_at (map f xs) i).name)

  same_first_bad : (xs : List X) → first_bad_name (heads xs) ≡ first_bad_name (map f xs)
  same_first_bad xs =
      ap (λ n. first_of (λ i. when (is_bad_at (heads xs) i) i) (range_with_len 0 n)) (same_length xs)
      ∙ first_same (is_bad_at (heads xs)) (is_bad_at (map f xs)) (same_bad xs) (range_with_len 0 (length (map f xs)))

  same_names : (xs : List X) → name_fault (heads xs) ≡ name_fault (map f xs)
  same_names xs =
      ap (option_map (name_fault_at (heads xs))) (same_first_bad xs)
      ∙ mapped_same (name_fault_at (heads xs)) (name_fault_at (map f xs)) (λ i. rw (same_name xs i) refl) (first_bad_name (map f xs))

  same_place : (p : Task → Bool) → ((task : Task) → p (head_of task) ≡ p task) → (xs : List X) → position_or_len p (heads xs) ≡ position_or_len p (map f xs)
  same_place p same [] = refl
  same_place p same (x ∷ xs) = rw (same (f x), same_place p same xs) refl

  same_offsets : (xs : List X) → offset_fault (heads xs) ≡ offset_fault (map f xs)
  same_offsets xs = rw (same_place (λ task. nat_le task.period task.offset) (λ task. refl) xs, same_length xs) refl

  same_count : (xs : List X) → task_count (heads xs) ≡ task_count (map f xs)
  same_count xs = ap (λ n. when (not (nat_le 1 n && nat_le n TASK_LIMIT)) (TaskCount n)) (same_length xs)

  pub head_faults_same : (xs : List X) → head_faults (heads xs) ≡ head_faults (map f xs)
  head_faults_same xs = ap₂ or_else (same_count xs) (ap₂ or_else (same_names xs) (same_offsets xs))
