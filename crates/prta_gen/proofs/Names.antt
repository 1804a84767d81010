-- The names of the tasks are good, and differ.
use Rattle.std.proofs.Common.{◌≡◌, ℕ, ◌+◌, ◌-◌, ◌*◌, ◌<◌, Bool, true, nat_eq, List, ◌++◌, get_or, drop, fold, codes, decimal, refl, ap, sym, ◌∙◌, arith, eqb-true}
use Rattle.std.specs.Fmt.{digits}
use Rattle.std.specs.List.{list_all, range_with_len}
use Rattle.std.proofs.lemmas.List.FromFn.{get_or-range_with_len, length-range_with_len}
use Rattle.std.proofs.lemmas.List.Sums.{AllPass-from_list_all}
use Rattle.prta_sheet.specs.Accepted.{is_good_name}

abbrev pub name_of : ℕ → List ℕ
name_of i = codes "t" ++ decimal i

-- a test of a range holds of each of its numbers
of_range : (p : ℕ → Bool) (n : ℕ) → list_all p (range_with_len 0 n) ≡ true → (i : ℕ) → i < n → p i ≡ true
of_range p n all i low =
    let at : get_or (range_with_len 0 n) i 0 ≡ i = get_or-range_with_len 0 n i 0 low ∙ omega arith in
    ap p (sym at) ∙ AllPass-from_list_all p (range_with_len 0 n) all i 0 (omega (arith, length-range_with_len 0 n))

twelve_good : list_all (λ i. is_good_name (name_of i)) (range_with_len 0 12) ≡ true
unfolding digits
twelve_good = refl

pub good_name : (i : ℕ) → i < 12 → is_good_name (name_of i) ≡ true
good_name i low = of_range (λ i. is_good_name (name_of i)) 12 twelve_good i low

-- the number that a name ends with
abbrev number_in : List ℕ → ℕ
number_in name = fold (λ n digit. n * 10 + (digit - 48)) 0 (drop 1 name)

twelve_told : list_all (λ i. nat_eq (number_in (name_of i)) i) (range_with_len 0 12) ≡ true
unfolding digits
twelve_told = refl

number_is : (i : ℕ) → i < 12 → number_in (name_of i) ≡ i
number_is i low = eqb-true _ _ (of_range (λ i. nat_eq (number_in (name_of i)) i) 12 twelve_told i low)

pub same_number : (i j : ℕ) → i < 12 → j < 12 → name_of i ≡ name_of j → i ≡ j
same_number i j low high same = sym (number_is i low) ∙ ap number_in same ∙ number_is j high
