-- Tests that all numbers of a range pass, or all tasks of an order.
use Rattle.std.proofs.Common.{◌≡◌, ℕ, zero, suc, ◌+◌, ◌<◌, Bool, true, false, ◌&&◌, List, length, get_or, ap, sym, ◌∙◌, arith, ⊎_elim}
use Rattle.std.specs.List.{list_all, range_with_len}
use Rattle.std.proofs.lemmas.List.FromFn.{length-range_with_len, get_or-range_with_len}
use Rattle.std.proofs.lemmas.List.Sums.{AllPass-from_list_all, list_all-from_AllPass}
use Rattle.std.proofs.lemmas.Bool.{cases_Bool}
use Rattle.prta_sheet.specs.Machine.{place}
use Rattle.prta_jobs.specs.Permutation.{is_order}
use Rattle.prta_jobs.specs.Laws.{HasPlaces}
use Rattle.prta_jobs.proofs.OrderLists.{each_once, places}

module _ (p : ℕ → Bool) where
  pub all_in_range : (n : ℕ) → ((k : ℕ) → k < n → p k ≡ true) → list_all p (range_with_len 0 n) ≡ true
  all_in_range n h =
      list_all-from_AllPass p (range_with_len 0 n)
      (λ k d low.
      let size : length (range_with_len 0 n) ≡ n = length-range_with_len 0 n in
      let here : get_or (range_with_len 0 n) k d ≡ 0 + k = get_or-range_with_len 0 n k d (omega arith) in
      ap p here ∙ h (0 + k) (omega arith))

  pub in_range : (n k : ℕ) → list_all p (range_with_len 0 n) ≡ true → k < n → p k ≡ true
  in_range n k all low =
      let size : length (range_with_len 0 n) ≡ n = length-range_with_len 0 n in
      let here : get_or (range_with_len 0 n) k 0 ≡ k = omega (arith, get_or-range_with_len 0 n k 0 low) in
      ap p (sym here) ∙ AllPass-from_list_all p (range_with_len 0 n) all k 0 (omega arith)

  pub some_in_range : (a n : ℕ) → list_all p (range_with_len a n) ≡ false → (k : ℕ) × (k < a + n) × (p k ≡ false)
  some_in_range a zero e = absurd (cc)
  some_in_range a (suc n) e = ⊎_elim
      (λ (pass : p a ≡ true).
      let later = some_in_range (a + 1) n (sym (ap (λ b. b && list_all p (range_with_len (a + 1) n)) pass) ∙ e) in
      (later.0, omega (arith, later.1), later.2))
      (λ (fail : p a ≡ false). (a, omega arith, fail))
      (cases_Bool (p a))

  -- an order lists each task
  pub all_in_order : (n : ℕ) (order : List ℕ) → is_order n order ≡ true → ((i : ℕ) → i < n → p i ≡ true) → list_all p order ≡ true
  all_in_order n order is h = list_all-from_AllPass p order (λ k d low. h (get_or order k d) ((each_once n order is).tasks k d low))

  pub in_order : (n : ℕ) (order : List ℕ) → is_order n order ≡ true → list_all p order ≡ true → (i : ℕ) → i < n → p i ≡ true
  in_order n order is all i low =
      let at : HasPlaces n order = places n order (each_once n order is) in
      ap p (sym (at.task_at_place i low)) ∙ AllPass-from_list_all p order all (place order i) 0 (omega (arith, at.place_below i low, at.length_is))
