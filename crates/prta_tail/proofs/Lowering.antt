-- Numbers that are lowered one after the other.
use Rattle.std.proofs.Common.{◌≡◌, ℕ, ◌+◌, ◌≤◌, ◌<◌, min, List, length, get_or, map, replicate, set, ap, ap₂, sym, ◌∙◌, arith, ⊎_elim}
use Rattle.std.specs.List.{range_with_len}
use Rattle.std.proofs.lemmas.List.{length-set, get_or-set_same, get_or-set_other, get_or-replicate}
use Rattle.std.proofs.lemmas.List.FromFn.{fill_by_all, length-map-range_with_len, get_or-map-range_with_len}
use Rattle.std.proofs.lemmas.Bool.{cases_lt}

-- the first n numbers are lowered to those of f, and the others are as before
pub record Lowered (f : ℕ → ℕ) (before now : List ℕ) (n : ℕ) : Type 0 where
  pub size : length now ≡ length before
  pub done : (k : ℕ) → k < n → get_or now k 0 ≡ min (get_or before k 0) (f k)
  pub rest : (k : ℕ) → n ≤ k → get_or now k 0 ≡ get_or before k 0

pub lowered_more : (f : ℕ → ℕ) (before now : List ℕ) (n : ℕ) → Lowered f before now n → n < length now → (x : ℕ) → x ≡ min (get_or now n 0) (f n) → Lowered f before (set now n x) (n + 1)
lowered_more f before now n is low x x_is = record {
  size = length-set now n x ∙ is.size;
  done = λ k l. ⊎_elim
      (λ (h : k < n). get_or-set_other now n k x 0 (omega arith) ∙ is.done k h)
      (λ (h : n ≤ k).
      let e : k ≡ n = omega arith in
      ap (λ i. get_or (set now n x) i 0) e ∙ get_or-set_same now n x 0 low ∙ x_is ∙ ap₂ (λ a i. min a (f i)) (is.rest n (omega arith)) (sym e) ∙ ap (λ i. min (get_or before i 0) (f k)) (sym e))
      (cases_lt k n);
  rest = λ k l. get_or-set_other now n k x 0 (omega arith) ∙ is.rest k (omega arith);
}

pub lowered_all : (f : ℕ → ℕ) (before now : List ℕ) (n : ℕ) → Lowered f before now n → length now ≤ n → now ≡ map (λ k. min (get_or before k 0) (f k)) (range_with_len 0 (length before))
lowered_all f before now n is all = fill_by_all (λ k. min (get_or before k 0) (f k)) now (length before) 0 is.size (λ k low. is.done k (omega (arith, is.size)))

-- lists that are read at each place
pub map_same : (f g : ℕ → ℕ) (n : ℕ) → ((k : ℕ) → k < n → f k ≡ g k) → map f (range_with_len 0 n) ≡ map g (range_with_len 0 n)
map_same f g n same =
    fill_by_all g (map f (range_with_len 0 n)) n 0 (length-map-range_with_len f 0 n) (λ k low. get_or-map-range_with_len f 0 n k k 0 low (omega arith) ∙ same k low)

-- numbers that stand for those of g are lowered to those of f
pub lowered_from : (f g : ℕ → ℕ) (n : ℕ) (xs : List ℕ) → xs ≡ map g (range_with_len 0 n) → map (λ k. min (get_or xs k 0) (f k)) (range_with_len 0 n) ≡ map (λ k. min (g k) (f k)) (range_with_len 0 n)
lowered_from f g n xs is =
    map_same (λ k. min (get_or xs k 0) (f k)) (λ k. min (g k) (f k)) n
    (λ k low. ap (λ x. min x (f k)) (ap (λ ys. get_or ys k 0) is ∙ get_or-map-range_with_len g 0 n k k 0 low (omega arith)))

-- from a number that none is above
pub lowered_first : (f : ℕ → ℕ) (n most : ℕ) → ((k : ℕ) → f k ≤ most) → map (λ k. min (get_or (replicate n most) k 0) (f k)) (range_with_len 0 n) ≡ map f (range_with_len 0 n)
lowered_first f n most low =
    map_same (λ k. min (get_or (replicate n most) k 0) (f k)) f n
    (λ k near. let here : get_or (replicate n most) k 0 ≡ most = get_or-replicate n k most 0 near in omega (arith, here, low k))
