-- Support points and the places that a re-sampling reads.
use Rattle.std.proofs.Common.{◌≡◌, ℕ, zero, suc, ◌+◌, ◌-◌, ◌%◌, ◌<◌, ◌≤◌, Bool, true, false, not, cond, ◌||◌, nat_le, nat_eq, if◌then◌else◌, refl, sym, ◌∙◌, arith, ⊎_elim, subst}
use Rattle.std.specs.List.{range_with_len, position_or_len}
use Rattle.std.proofs.lemmas.Bool.{cases_lt, cond_both, le-leb, lt-leb, eq-eqb, ne_eqb}
use Rattle.prta_mass.specs.declared.direction.Dir.{Dir}
use Rattle.prta_mass.specs.declared.direction.Dir.TheVariants.{Up, Down}
use Rattle.prta_mass.specs.declared.support.Support.{Support}
use Rattle.prta_mass.specs.Support.{is_support}
use Rattle.prta_mass.specs.Direction.{IsSafe}
use Rattle.prta_resample.specs.Resample.{support_below, support_above, read_place}

either_is : (a b : Bool) → b ≡ true → (a || b) ≡ true
either_is true b e = refl
either_is false b e = e

pub is_fine : (s : Support) (cap k : ℕ) → k ≤ s.fine → is_support s cap k ≡ true
is_fine s cap k h = rw (le-leb k s.fine h) refl

pub is_multiple : (s : Support) (cap k : ℕ) → k % s.step ≡ 0 → is_support s cap k ≡ true
is_multiple s cap k h = either_is (nat_le k s.fine) _ (rw (eq-eqb (k % s.step) 0 h) refl)

pub is_last : (s : Support) (cap k : ℕ) → k ≡ cap - 1 → is_support s cap k ≡ true
is_last s cap k h = either_is (nat_le k s.fine) _ (either_is (nat_eq (k % s.step) 0) _ (eq-eqb k (cap - 1) h))

pub is_between : (s : Support) (cap k : ℕ) → s.fine < k → (k % s.step ≡ 0 → ⊥) → (k ≡ cap - 1 → ⊥) → is_support s cap k ≡ false
is_between s cap k a b c = rw (lt-leb k s.fine a, ne_eqb (k % s.step) 0 b) (ne_eqb k (cap - 1) c)

module _ (s : Support) (cap : ℕ) where
  -- the support point below: k itself where it is one, else that of the place before
  pub below_point : (k : ℕ) → is_support s cap k ≡ true → support_below s cap k ≡ k
  below_point zero h = refl
  below_point (suc k) h = rw h refl

  pub below_between : (k : ℕ) → is_support s cap (k + 1) ≡ false → support_below s cap (k + 1) ≡ support_below s cap k
  below_between k h = let e : k + 1 ≡ suc k = omega arith in subst (λ n. is_support s cap n ≡ false → support_below s cap n ≡ support_below s cap k) (sym e) (λ g. rw g refl) h

  pub below_low : (k : ℕ) → support_below s cap k ≤ k
  below_low zero = omega arith
  below_low (suc k) = cond_both (is_support s cap (suc k)) (suc k) (support_below s cap k) (λ x. x ≤ suc k) (λ e. omega arith) (λ e. omega (arith, below_low k))

  pub below_rises : (i k : ℕ) → i ≤ k → support_below s cap i ≤ support_below s cap k
  below_rises i zero l = let e : i ≡ 0 = omega arith in rw e (omega arith)
  below_rises i (suc k) l = ⊎_elim
      (λ (a : k < i). let e : i ≡ suc k = omega arith in subst (λ x. support_below s cap i ≤ support_below s cap x) e (omega arith))
      (λ (a : i ≤ k). cond_both (is_support s cap (suc k)) (suc k) (support_below s cap k) (λ x. support_below s cap i ≤ x)
      (λ e. omega (arith, below_low i)) (λ e. below_rises i k a))
      (cases_lt k i)

  -- the support point above: the next place where that is one, else the one above it
  first_of : (p : ℕ → Bool) (a n : ℕ) → a + position_or_len p (range_with_len a (suc n)) ≡ (if p a then a else a + 1 + position_or_len p (range_with_len (a + 1) n))
  first_of p a n = elim (p a) as (λ b. a + cond (not b) (1 + position_or_len p (range_with_len (a + 1) n)) 0 ≡ (if b then a else a + 1 + position_or_len p (range_with_len (a + 1) n)))
      [ true ↦ omega arith | false ↦ omega arith ]

  above_step : (k : ℕ) → k + 1 < cap → support_above s cap k ≡ (if is_support s cap (k + 1) then k + 1 else support_above s cap (k + 1))
  above_step k h =
      let e : cap - (k + 1) ≡ suc (cap - (k + 1 + 1)) = omega arith in
      rw e (first_of (is_support s cap) (k + 1) (cap - (k + 1 + 1)))

  pub above_point : (k : ℕ) → k + 1 < cap → is_support s cap (k + 1) ≡ true → support_above s cap k ≡ k + 1
  above_point k h is = above_step k h ∙ rw is refl

  pub above_between : (k : ℕ) → k + 1 < cap → is_support s cap (k + 1) ≡ false → support_above s cap k ≡ support_above s cap (k + 1)
  above_between k h is = above_step k h ∙ rw is refl

  above_most : (m k : ℕ) → k + 1 + m ≡ cap - 1 → support_above s cap k ≤ cap - 1
  above_most zero k h = rw (above_point k (omega arith) (is_last s cap (k + 1) (omega arith))) (omega arith)
  above_most (suc m) k h = rw (above_step k (omega arith)) (cond_both (is_support s cap (k + 1)) (k + 1) (support_above s cap (k + 1)) (λ x. x ≤ cap - 1)
      (λ e. omega arith) (λ e. above_most m (k + 1) (omega arith)))

  pub above_low : (k : ℕ) → k < cap - 1 → support_above s cap k ≤ cap - 1
  above_low k h = above_most (cap - 1 - (k + 1)) k (omega arith)

  above_next : (k : ℕ) → k + 1 < cap → support_above s cap k ≤ support_above s cap (k + 1)
  above_next k h = rw (above_step k h) (cond_both (is_support s cap (k + 1)) (k + 1) (support_above s cap (k + 1)) (λ x. x ≤ support_above s cap (k + 1)) (λ e. omega arith) (λ e. omega arith))

  above_after : (m i : ℕ) → i + m < cap → support_above s cap i ≤ support_above s cap (i + m)
  above_after zero i h = let e : i + zero ≡ i = omega arith in subst (λ x. support_above s cap i ≤ support_above s cap x) (sym e) (omega arith)
  above_after (suc m) i h =
      let e : i + m + 1 ≡ i + suc m = omega arith in
      let a = above_after m i (omega arith) in
      let b = above_next (i + m) (omega arith) in
      subst (λ x. support_above s cap i ≤ support_above s cap x) e (omega (arith, a, b))

  above_rises : (i k : ℕ) → i ≤ k → k < cap → support_above s cap i ≤ support_above s cap k
  above_rises i k l h = let e : i + (k - i) ≡ k = omega arith in subst (λ x. support_above s cap i ≤ support_above s cap x) e (above_after (k - i) i (omega arith))

  -- the place read in Down, at the last cell and below it
  pub down_last : (k : ℕ) → k ≡ cap - 1 → read_place Down s cap k ≡ k
  down_last k h = rw (eq-eqb k (cap - 1) h) refl

  pub down_below : (k : ℕ) → k < cap - 1 → read_place Down s cap k ≡ support_above s cap k - 1
  down_below k h = rw (ne_eqb k (cap - 1) (λ e. omega arith)) refl

  -- the last cell is read for itself
  pub read_last : (dir : Dir) (k : ℕ) → k ≡ cap - 1 → read_place dir s cap k ≡ k
  read_last Up k h = below_point k (is_last s cap k h)
  read_last Down k h = down_last k h

  -- what is read is a place of the list, on the safe side, and rises
  pub read_low : (dir : Dir) (k : ℕ) → k < cap → read_place dir s cap k < cap
  read_low Up k h = omega (arith, below_low k)
  read_low Down k h = ⊎_elim
      (λ (l : k < cap - 1). rw (down_below k l) (omega (arith, above_low k l)))
      (λ (l : cap - 1 ≤ k). rw (down_last k (omega arith)) h)
      (cases_lt k (cap - 1))

  pub read_safe : (dir : Dir) (k : ℕ) → IsSafe dir (read_place dir s cap k) k
  read_safe Up k = below_low k
  read_safe Down k = cond_both (nat_eq k (cap - 1)) k (support_above s cap k - 1) (λ x. k ≤ x) (λ e. omega arith) (λ e. omega arith)

  pub read_rises : (dir : Dir) (i k : ℕ) → i ≤ k → k < cap → read_place dir s cap i ≤ read_place dir s cap k
  read_rises Up i k l h = below_rises i k l
  read_rises Down i k l h = ⊎_elim
      (λ (m : k < cap - 1). rw (down_below i (omega arith), down_below k m) (omega (arith, above_rises i k l h)))
      (λ (m : cap - 1 ≤ k). let e = down_last k (omega arith) in let a = read_low Down i (omega arith) in rw e (omega arith))
      (cases_lt k (cap - 1))
