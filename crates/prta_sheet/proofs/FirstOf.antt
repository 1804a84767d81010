-- The first answer: of two, of a chain, along a list and along a range.
use Rattle.std.proofs.Common.{◌≡◌, ℕ, zero, suc, ◌+◌, ◌<◌, ◌≤◌, Bool, true, false, Option, Some, None, option_map, List, [], ◌∷◌, ◌++◌, refl, ap, sym, ◌∙◌, subst, arith, inl, inr}
use Rattle.std.specs.List.{range_with_len}
use Rattle.std.specs.Option.{option_or}
use Rattle.std.proofs.lemmas.Bool.{cases_lt}
use Rattle.prta_mass.specs.Table.{or_else, when}
use Rattle.prta_sheet.specs.DocumentConditions.{first_of}

module _ {X : Type 0} where
  pub first_some : (a b : Option X) (x : X) → a ≡ Some x → or_else a b ≡ Some x
  first_some a b x e = rw e refl

  pub past_none : (a b : Option X) → a ≡ None → or_else a b ≡ b
  past_none a b e = rw e refl

  pub first_none : (a b : Option X) → or_else a b ≡ None → a ≡ None
  first_none None b h = refl
  first_none (Some x) b h = h

  pub next_none : (a b : Option X) → or_else a b ≡ None → b ≡ None
  next_none None b h = h
  next_none (Some x) b h = cc

  pub both_none : (a b : Option X) → a ≡ None → b ≡ None → or_else a b ≡ None
  both_none a b e f = past_none a b e ∙ f

  pub when_none : (b : Bool) (x : X) → when b x ≡ None → b ≡ false
  when_none true x h = cc
  when_none false x h = refl

  pub when_true : (b : Bool) (x : X) → b ≡ true → when b x ≡ Some x
  when_true b x e = rw e refl

  pub when_false : (b : Bool) (x : X) → b ≡ false → when b x ≡ None
  when_false b x e = rw e refl

  pub map_none : {Y : Type 0} (f : X → Y) (o : Option X) → option_map f o ≡ None → o ≡ None
  map_none f None h = refl
  map_none f (Some x) h = cc

  pub none_mapped : {Y : Type 0} (f : X → Y) (o : Option X) → o ≡ None → option_map f o ≡ None
  none_mapped f o e = rw e refl

  module _ (f : ℕ → Option X) where
    pub first_of_range : (from n i : ℕ) (x : X) → from ≤ i → i < from + n → ((k : ℕ) → from ≤ k → k < i → f k ≡ None) → f i ≡ Some x → first_of f (range_with_len from n) ≡ Some x
    first_of_range from zero i x low high before here = absurd (omega arith)
    first_of_range from (suc n) i x low high before here =
        elim (cases_lt from i) [
          | inl later ↦ rw (before from (omega arith) later) (first_of_range (from + 1) n i x (omega arith) (omega arith) (λ k a b. before k (omega arith) b) here)
          | inr now ↦ let same : i ≡ from = omega arith in let passes = rw same at here in rw passes refl
        ]

    pub none_of_range : (from n : ℕ) → ((k : ℕ) → from ≤ k → k < from + n → f k ≡ None) → first_of f (range_with_len from n) ≡ None
    none_of_range from zero h = refl
    none_of_range from (suc n) h = rw (h from (omega arith) (omega arith)) (none_of_range (from + 1) n (λ k a b. h k (omega arith) (omega arith)))

    pub none_below : (n : ℕ) → ((k : ℕ) → k < n → f k ≡ None) → first_of f (range_with_len 0 n) ≡ None
    none_below n h = none_of_range 0 n (λ k low high. h k (omega arith))

    -- where none answers, each is silent
    pub none_in_range : (from n k : ℕ) → first_of f (range_with_len from n) ≡ None → from ≤ k → k < from + n → f k ≡ None
    none_in_range from zero k h low high = absurd (omega arith)
    none_in_range from (suc n) k h low high =
        elim (cases_lt from k) [
          | inl later ↦ none_in_range (from + 1) n k (next_none (f from) (first_of f (range_with_len (from + 1) n)) h) (omega arith) (omega arith)
          | inr now ↦ let same : k ≡ from = omega arith in rw same (first_none (f from) (first_of f (range_with_len (from + 1) n)) h)
        ]

-- what holds below a place and at it holds below the next
pub below_next : (P : ℕ → Type 0) (n : ℕ) → ((k : ℕ) → k < n → P k) → P n → (k : ℕ) → k < n + 1 → P k
below_next P n before here k low =
    elim (cases_lt k n) [
      | inl less ↦ before k less
      | inr past ↦ let same : n ≡ k = omega arith in subst P same here
    ]

-- ---- chains of `or`

pub or_else_none : {X : Type 0} (a : Option X) → or_else a None ≡ a
or_else_none (Some x) = refl
or_else_none None = refl

pub or_else_assoc : {X : Type 0} (a b c : Option X) → or_else (or_else a b) c ≡ or_else a (or_else b c)
or_else_assoc (Some x) b c = refl
or_else_assoc None b c = refl

-- the first answer along two lists
pub first_of_append : {X Y : Type 0} (f : X → Option Y) (xs ys : List X) → first_of f (xs ++ ys) ≡ or_else (first_of f xs) (first_of f ys)
first_of_append f [] ys = refl
first_of_append f (x ∷ xs) ys = ap (or_else (f x)) (first_of_append f xs ys) ∙ sym (or_else_assoc (f x) (first_of f xs) (first_of f ys))

-- a chain of `or` gives the first of its answers
pub or_three : {X : Type 0} (a b c : Option X) → option_or (option_or a b) c ≡ or_else a (or_else b c)
or_three (Some x) b c = refl
or_three None (Some x) c = refl
or_three None None c = refl

pub or_five : {X : Type 0} (a b c d e : Option X) → option_or (option_or (option_or (option_or a b) c) d) e ≡ or_else a (or_else b (or_else c (or_else d e)))
or_five (Some x) b c d e = refl
or_five None (Some x) c d e = refl
or_five None None (Some x) d e = refl
or_five None None None (Some x) e = refl
or_five None None None None e = refl

-- the same of a list of six
pub first_of_six : {X : Type 0} (a b c d e f : Option X) → option_or (option_or (option_or (option_or (option_or a b) c) d) e) f ≡ or_else a (or_else b (or_else c (or_else d (or_else e (or_else f None)))))
first_of_six (Some x) b c d e f = refl
first_of_six None (Some x) c d e f = refl
first_of_six None None (Some x) d e f = refl
first_of_six None None None (Some x) e f = refl
first_of_six None None None None (Some x) f = refl
first_of_six None None None None None (Some x) = refl
first_of_six None None None None None None = refl
