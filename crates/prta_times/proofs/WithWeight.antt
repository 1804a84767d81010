-- A table with a weight added at a time: by its place, its length and its total.
use Rattle.std.proofs.Common.{◌≡◌, ◌≢◌, ℕ, suc, ◌+◌, ◌<◌, ◌≤◌, Bool, true, false, not, nat_le, nat_lt, nat_eq, if◌then◌else◌, List, [], ◌∷◌, length, get_or, set, refl, ap, sym, ◌∙◌, arith, inl, inr, subst, ◌⊎◌, Some, None, position, ◌&&◌}
use Rattle.std.specs.List.{position_or_len, insert}
use Rattle.std.proofs.lemmas.Bool.{cases_order, cases_lt, lt-ltb, le-ltb, le-leb, lt-leb, ltb-true, eq-eqb, ne_eqb, eqb-true, and_from, and_parts}
use Rattle.std.proofs.lemmas.List.{get_or_default}
use Rattle.std.proofs.lemmas.List.Sums.{sum_by-cons, prefix_len-le-length}
use Rattle.prta_mass.specs.Table.{Table, total}
use Rattle.prta_times.specs.Counts.{with_weight}

-- the place of the first time that isn't below this one
abbrev pub place : ℕ → Table → ℕ
place time table = position_or_len (λ pair. nat_le time pair.0) table

-- ---- where a first pair stands

module _ (time weight : ℕ) (pair : ℕ × ℕ) (pairs : Table) where
  pub before_first : time < pair.0 → with_weight time weight (pair ∷ pairs) ≡ (time, weight) ∷ pair ∷ pairs
  before_first low = let here : nat_lt time pair.0 ≡ true = lt-ltb time pair.0 low in rw here refl

  pub at_first : time ≡ pair.0 → with_weight time weight (pair ∷ pairs) ≡ (time, pair.1 + weight) ∷ pairs
  at_first same =
      let past : nat_lt time pair.0 ≡ false = le-ltb time pair.0 (omega arith) in
      let here : nat_eq time pair.0 ≡ true = eq-eqb time pair.0 same in
      rw (past, here) refl

  pub after_first : pair.0 < time → with_weight time weight (pair ∷ pairs) ≡ pair ∷ with_weight time weight pairs
  after_first high =
      let past : nat_lt time pair.0 ≡ false = le-ltb time pair.0 (omega arith) in
      let other : nat_eq time pair.0 ≡ false = ne_eqb time pair.0 (λ e. omega arith) in
      rw (past, other) refl

place_first : (time : ℕ) (pair : ℕ × ℕ) (pairs : Table) → time ≤ pair.0 → place time (pair ∷ pairs) ≡ 0
place_first time pair pairs low = let here : nat_le time pair.0 ≡ true = le-leb time pair.0 low in rw here refl

place_later : (time : ℕ) (pair : ℕ × ℕ) (pairs : Table) → pair.0 < time → place time (pair ∷ pairs) ≡ suc (place time pairs)
place_later time pair pairs high = let past : nat_le time pair.0 ≡ false = lt-leb time pair.0 high in rw past (omega arith)

-- ---- by its place

-- what is done at a place: a time that isn't there is inserted, and one that is there gains the weight
abbrev IsAt : ℕ → ℕ → ℕ × ℕ → Table → ℕ → Type 0
IsAt time weight d table p =
    ((p < length table → (get_or table p d).0 ≢ time) → with_weight time weight table ≡ insert table p (time, weight))
    × (p < length table → (get_or table p d).0 ≡ time → with_weight time weight table ≡ set table p (time, (get_or table p d).1 + weight))

at_zero : (time weight : ℕ) (d pair : ℕ × ℕ) (pairs : Table) → time ≤ pair.0 → IsAt time weight d (pair ∷ pairs) 0
at_zero time weight d pair pairs low = (λ other. before_first time weight pair pairs (let differs = other (omega arith) in less time pair.0 low differs), λ some same. at_first time weight pair pairs (sym same))
  where
    less : (a b : ℕ) → a ≤ b → b ≢ a → a < b
    less a b low differs = omega (arith, differs)

at_next : (time weight : ℕ) (d pair : ℕ × ℕ) (pairs : Table) (p : ℕ) → pair.0 < time → IsAt time weight d pairs p → IsAt time weight d (pair ∷ pairs) (suc p)
at_next time weight d pair pairs p high is = (
  λ other. after_first time weight pair pairs high ∙ ap (λ more. pair ∷ more) (is.0 (λ low. other (omega arith))),
  λ low same. after_first time weight pair pairs high ∙ ap (λ more. pair ∷ more) (is.1 (omega arith) same),
)

at_place : (time weight : ℕ) (d : ℕ × ℕ) (table : Table) → IsAt time weight d table (place time table)
at_place time weight d [] = (λ other. refl, λ low. absurd (omega arith))
at_place time weight d (pair ∷ pairs) =
    elim (cases_lt pair.0 time) [
      | inl later ↦ let e : place time (pair ∷ pairs) ≡ suc (place time pairs) = place_later time pair pairs later in subst (IsAt time weight d (pair ∷ pairs)) (sym e) (at_next time weight d pair pairs (place time pairs) later (at_place time weight d pairs))
      | inr here ↦ let e : place time (pair ∷ pairs) ≡ 0 = place_first time pair pairs here in subst (IsAt time weight d (pair ∷ pairs)) (sym e) (at_zero time weight d pair pairs here)
    ]

-- ---- its total and its length

pub total_grows : (time weight : ℕ) (table : Table) → total (with_weight time weight table) ≡ total table + weight
total_grows time weight [] = refl
total_grows time weight (pair ∷ pairs) =
    let first : total (pair ∷ pairs) ≡ pair.1 + total pairs = sum_by-cons (λ (p : ℕ × ℕ). p.1) pair pairs in
    elim (cases_order time pair.0) [
      | inl same ↦ rw (at_first time weight pair pairs same) (omega (arith, first, sum_by-cons (λ (p : ℕ × ℕ). p.1) (time, pair.1 + weight) pairs))
      | inr (inl before) ↦ rw (before_first time weight pair pairs before) (omega (arith, sum_by-cons (λ (p : ℕ × ℕ). p.1) (time, weight) (pair ∷ pairs)))
      | inr (inr after) ↦ rw (after_first time weight pair pairs after) (omega (arith, first, sum_by-cons (λ (p : ℕ × ℕ). p.1) pair (with_weight time weight pairs), total_grows time weight pairs))
    ]

pub no_shorter : (time weight : ℕ) (table : Table) → (1 ≤ length (with_weight time weight table)) × (length table ≤ length (with_weight time weight table))
no_shorter time weight [] = (omega arith, omega arith)
no_shorter time weight (pair ∷ pairs) =
    elim (cases_order time pair.0) [
      | inl same ↦ rw (at_first time weight pair pairs same) (omega arith, omega arith)
      | inr (inl before) ↦ rw (before_first time weight pair pairs before) (omega arith, omega arith)
      | inr (inr after) ↦ let rest = no_shorter time weight pairs in rw (after_first time weight pair pairs after) (omega arith, omega (arith, rest.1))
    ]

-- ---- the place

module _ {X : Type 0} (p : X → Bool) (xs : List X) where
  pub found_place : (k : ℕ) → position p xs ≡ Some k → k ≡ position_or_len p xs
  found_place k e = by (nat_lt (position_or_len p xs) (length xs)) e
    where
      by : (b : Bool) → (if b then Some (position_or_len p xs) else None) ≡ Some k → k ≡ position_or_len p xs
      by true e = cc
      by false e = cc

  pub past_place : position p xs ≡ None → length xs ≡ position_or_len p xs
  past_place e = by (cases_lt (position_or_len p xs) (length xs))
    where
      by : (position_or_len p xs < length xs) ⊎ (length xs ≤ position_or_len p xs) → length xs ≡ position_or_len p xs
      by (inl low) = let here : nat_lt (position_or_len p xs) (length xs) ≡ true = lt-ltb _ _ low in let found : Some (position_or_len p xs) ≡ None = rw here at e in cc
      by (inr high) = omega (arith, prefix_len-le-length (λ x. not (p x)) xs)

-- ---- the same by the test of the place

-- the time stands at a place
abbrev pub stands : ℕ → ℕ → Table → Bool
stands time p table = nat_lt p (length table) && nat_eq (get_or table p (0, 0)).0 time

module _ (time weight : ℕ) (table : Table) (p : ℕ) (here : p ≡ place time table) where
  pub place_within : p ≤ length table
  place_within = omega (arith, here, prefix_len-le-length (λ (pair : ℕ × ℕ). not (nat_le time pair.0)) table)

  at_this : IsAt time weight (0, 0) table p
  at_this = subst (IsAt time weight (0, 0) table) (sym here) (at_place time weight (0, 0) table)

  pub inserted_at : stands time p table ≡ false → insert table p (time, weight) ≡ with_weight time weight table
  inserted_at test = sym (at_this.0 other)
    where
      other : p < length table → (get_or table p (0, 0)).0 ≢ time
      other low same = let fails : stands time p table ≡ true = and_from _ _ (lt-ltb p (length table) low) (eq-eqb _ time same) in cc

  pub grown_at : (pair : ℕ × ℕ) → pair ≡ get_or table p pair → stands time p table ≡ true → set table p (pair.0, pair.1 + weight) ≡ with_weight time weight table
  grown_at pair is test =
      let (within, equal) = and_parts (nat_lt p (length table)) (nat_eq (get_or table p (0, 0)).0 time) test in
      let low : p < length table = ltb-true p (length table) within in
      let same : (get_or table p (0, 0)).0 ≡ time = eqb-true (get_or table p (0, 0)).0 time equal in
      let this : pair ≡ get_or table p (0, 0) = is ∙ get_or_default table p pair (0, 0) low in
      ap (λ (x : ℕ × ℕ). set table p (x.0, x.1 + weight)) this
      ∙ ap (λ t. set table p (t, (get_or table p (0, 0)).1 + weight)) same
      ∙ sym (at_this.1 low same)
