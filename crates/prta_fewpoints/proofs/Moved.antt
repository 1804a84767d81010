-- A choice moves each weight to a time of its table that isn't below the weight's own.
use Rattle.std.proofs.Common.{◌≡◌, ℕ, ◌+◌, ◌*◌, ◌≤◌, ◌<◌, inl, inr, Bool, true, false, cond, nat_le, nat_eq, List, [], ◌∷◌, map, filter, sum_by, length, Contains, refl, ap, sym, ◌∙◌, subst, arith, ⊎_elim}
use Rattle.std.proofs.lemmas.List.Elements.{All-from_recursion}
use Rattle.std.proofs.lemmas.List.Sums.{sum_by-cons}
use Rattle.std.proofs.lemmas.Bool.{cond_both, eq-eqb, ne_eqb, leb-true}
use Rattle.std.proofs.lemmas.Bool.Decides.{nat_tests}
use Rattle.prta_mass.specs.Table.{Table, times, total, greatest}
use Rattle.prta_fewpoints.specs.Wide.{IsWide}
use Rattle.prta_fewpoints.specs.Choices.{IsChoice, moved_to, weight_at, merged}
use Rattle.prta_fewpoints.specs.Laws.{IsMovedUp, IsSafeFor}
use Rattle.prta_fewpoints.proofs.Lists.{Each, Pairs, AnyOf, Each-weaker, Each_all, contains_from_AnyOf, Pairs-from_increasing, sum_by-each}
use Rattle.prta_fewpoints.proofs.Covers.{Rises, Covers, cover_late, greatest_next}
use Rattle.prta_fewpoints.proofs.Reduction.{wide_rises, choice_covers, times_merged}

-- ---- where a weight goes

moved_up : (chosen : List ℕ) (t : ℕ) → t ≤ moved_to chosen t
moved_up [] t = omega arith
moved_up (c ∷ chosen) t = cond_both (nat_le t c) c (moved_to chosen t) (λ x. t ≤ x) (λ e. leb-true t c e) (λ e. moved_up chosen t)

moved_lands : (chosen : List ℕ) (t : ℕ) → AnyOf (λ c. t ≤ c) chosen → AnyOf (λ c. c ≡ moved_to chosen t) chosen
moved_lands [] t h = absurd h
moved_lands (c ∷ chosen) t h =
    cond_both (nat_le t c) c (moved_to chosen t) (λ x. AnyOf (λ d. d ≡ x) (c ∷ chosen)) (λ e. inl refl)
    (λ e. ⊎_elim (λ (l : t ≤ c). absurd (grind (arith, nat_tests))) (λ (k : AnyOf (λ c. t ≤ c) chosen). inr (moved_lands chosen t k)) h)

cover_above : (chosen : List ℕ) (S : Table) → Rises S → Covers chosen S → Each (λ pair. AnyOf (λ c. pair.0 ≤ c) chosen) S
cover_above chosen [] up k = tt
cover_above [] (pair ∷ rest) up k = absurd k
cover_above (c ∷ chosen) (pair ∷ rest) up k = ⊎_elim
    (λ (taken : (c ≡ pair.0) × Covers chosen rest). (inl (omega (arith, taken.0)), Each-weaker (λ pair. AnyOf (λ c. pair.0 ≤ c) chosen) _ (λ pair a. inr a) rest (cover_above chosen rest up.1 taken.1)))
    (λ (passed : Covers (c ∷ chosen) rest). let l : pair.0 < c = cover_late pair.0 c chosen rest up.0 passed in (inl (omega arith), cover_above (c ∷ chosen) rest up.1 passed))
    k

-- each weight of the table goes to a chosen time
abbrev Land : List ℕ → Table → Type 0
Land chosen S = Each (λ pair. AnyOf (λ c. c ≡ moved_to chosen pair.0) chosen) S

-- ---- the weights of the table that a choice makes

-- a weight w is added at x, one of rising times
module _ (worth : ℕ → ℕ) (x w : ℕ) (old new : ℕ → ℕ) (is : (c : ℕ) → new c ≡ cond (nat_eq x c) w 0 + old c) where
  elsewhere : (c : ℕ) → (x ≡ c → ⊥) → new c ≡ old c
  elsewhere c n = is c ∙ ap (λ b. cond b w 0 + old c) (ne_eqb x c n) ∙ omega arith

  behind : (cs : List ℕ) → Each (λ c. x < c) cs → sum_by (λ c. new c * worth c) cs ≡ sum_by (λ c. old c * worth c) cs
  behind cs h = sum_by-each _ _ cs (Each-weaker (λ c. x < c) _ (λ c l. ap (λ n. n * worth c) (elsewhere c (λ e. absurd (omega arith)))) cs h)

  before : (c : ℕ) (cs : List ℕ) → Each (λ d. c < d) cs → AnyOf (λ d. d ≡ x) cs → c < x
  before c [] h t = absurd t
  before c (d ∷ cs) h t = ⊎_elim (λ (e : d ≡ x). omega (arith, h.0)) (λ (t' : AnyOf (λ d. d ≡ x) cs). before c cs h.1 t') t

  pub added : (cs : List ℕ) → Pairs (λ a b. a < b) cs → AnyOf (λ c. c ≡ x) cs → sum_by (λ c. new c * worth c) cs ≡ w * worth x + sum_by (λ c. old c * worth c) cs
  added [] up h = absurd h
  added (c ∷ cs) up h = ⊎_elim
      (λ (e : c ≡ x).
      let hit : new c ≡ w + old c = is c ∙ ap (λ b. cond b w 0 + old c) (eq-eqb x c (sym e)) in
      let late : Each (λ d. x < d) cs = Each-weaker (λ d. c < d) _ (λ d l. omega (arith, e)) cs up.0 in
      omega (arith, sum_by-cons (λ d. new d * worth d) c cs, sum_by-cons (λ d. old d * worth d) c cs, behind cs late, ap (λ n. n * worth c) hit, ap (λ y. w * worth y) e))
      (λ (t : AnyOf (λ c. c ≡ x) cs).
      let l : c < x = before c cs up.0 t in
      omega (arith, sum_by-cons (λ d. new d * worth d) c cs, sum_by-cons (λ d. old d * worth d) c cs, added cs up.1 t, ap (λ n. n * worth c) (elsewhere c (λ e. absurd (omega arith)))))
      h

weight_first : (chosen : List ℕ) (pair : ℕ × ℕ) (S : Table) (c : ℕ) → weight_at chosen (pair ∷ S) c ≡ cond (nat_eq (moved_to chosen pair.0) c) pair.1 0 + weight_at chosen S c
weight_first chosen pair S c = by (nat_eq (moved_to chosen pair.0) c)
  where
    by : (b : Bool) →
        sum_by (λ (p : ℕ × ℕ). p.1) (cond b (pair ∷ filter (λ (p : ℕ × ℕ). nat_eq (moved_to chosen p.0) c) S) (filter (λ (p : ℕ × ℕ). nat_eq (moved_to chosen p.0) c) S)) ≡ cond b pair.1 0 + weight_at chosen S c
    by true = sum_by-cons (λ (p : ℕ × ℕ). p.1) pair (filter (λ (p : ℕ × ℕ). nat_eq (moved_to chosen p.0) c) S)
    by false = omega arith

module _ (worth : ℕ → ℕ) (chosen : List ℕ) (up : Pairs (λ a b. a < b) chosen) where
  no_weights : (cs : List ℕ) → sum_by (λ c. weight_at chosen [] c * worth c) cs ≡ 0
  no_weights [] = refl
  no_weights (c ∷ cs) = omega (arith, sum_by-cons (λ d. weight_at chosen [] d * worth d) c cs, no_weights cs)

  worth_kept : (S : Table) → Land chosen S → sum_by (λ c. weight_at chosen S c * worth c) chosen ≡ sum_by (λ pair. pair.1 * worth (moved_to chosen pair.0)) S
  worth_kept [] lands = no_weights chosen
  worth_kept (pair ∷ S) lands =
      added worth (moved_to chosen pair.0) pair.1 (weight_at chosen S) (weight_at chosen (pair ∷ S)) (weight_first chosen pair S) chosen up lands.0
      ∙ omega (arith, worth_kept S lands.1, sum_by-cons (λ (p : ℕ × ℕ). p.1 * worth (moved_to chosen p.0)) pair S)

  worth_merged : (S : Table) (cs : List ℕ) → sum_by (λ (pair : ℕ × ℕ). pair.1 * worth pair.0) (map (λ c. (c, weight_at chosen S c)) cs) ≡ sum_by (λ c. weight_at chosen S c * worth c) cs
  worth_merged S [] = refl
  worth_merged S (c ∷ cs) =
      omega (
        arith,
        sum_by-cons (λ (p : ℕ × ℕ). p.1 * worth p.0) (c, weight_at chosen S c) (map (λ c. (c, weight_at chosen S c)) cs),
        sum_by-cons (λ d. weight_at chosen S d * worth d) c cs,
        worth_merged S cs,
      )

pub choice_moves : (wide : Table) (chosen : List ℕ) → Rises wide → Pairs (λ a b. a < b) chosen → Covers chosen wide → IsMovedUp wide (merged chosen wide)
choice_moves wide chosen up rising covers =
    let lands : Land chosen wide =
    Each-weaker (λ (pair : ℕ × ℕ). AnyOf (λ c. pair.0 ≤ c) chosen) _ (λ pair a. moved_lands chosen pair.0 a) wide (cover_above chosen wide up covers) in
    record {
      to = moved_to chosen;
      up = All-from_recursion (λ (pair : ℕ × ℕ). pair.0 ≤ moved_to chosen pair.0) wide (Each_all _ (λ pair. moved_up chosen pair.0) wide);
      lands = All-from_recursion (λ (pair : ℕ × ℕ). Contains (times (merged chosen wide)) (moved_to chosen pair.0)) wide
          (Each-weaker (λ (pair : ℕ × ℕ). AnyOf (λ c. c ≡ moved_to chosen pair.0) chosen) (λ (pair : ℕ × ℕ). Contains (times (merged chosen wide)) (moved_to chosen pair.0)) (λ pair a.
          subst (λ cs. Contains cs (moved_to chosen pair.0)) (sym (times_merged chosen wide)) (contains_from_AnyOf chosen (moved_to chosen pair.0) a)) wide lands);
      weights = λ worth. worth_merged worth chosen rising wide chosen ∙ worth_kept worth chosen rising wide lands;
    }

-- ---- the total and the greatest time

pub total_moved : (early late : Table) → IsMovedUp early late → total late ≡ total early
total_moved early late m =
    sum_by-each (λ (pair : ℕ × ℕ). pair.1) (λ (pair : ℕ × ℕ). pair.1 * 1) late (Each_all _ (λ pair. omega arith) late)
    ∙ m.weights (λ c. 1)
    ∙ sum_by-each (λ (pair : ℕ × ℕ). pair.1 * 1) (λ (pair : ℕ × ℕ). pair.1) early (Each_all _ (λ pair. omega arith) early)

-- the last of the chosen times is the table's
last_kept : (weights : ℕ → ℕ) (cs : List ℕ) (S : Table) → 0 < length S → Covers cs S → greatest (map (λ c. (c, weights c)) cs) ≡ greatest S
last_kept weights cs [] l k = absurd (omega arith)
last_kept weights [] (pair ∷ rest) l k = absurd k
last_kept weights (c ∷ []) (pair ∷ []) l k = ⊎_elim (λ (taken : (c ≡ pair.0) × Covers [] []). taken.0) (λ (passed : Covers (c ∷ []) []). absurd passed) k
last_kept weights (c ∷ d ∷ cs) (pair ∷ []) l k = ⊎_elim (λ (taken : (c ≡ pair.0) × Covers (d ∷ cs) []). absurd taken.1) (λ (passed : Covers (c ∷ d ∷ cs) []). absurd passed) k
last_kept weights (c ∷ []) (pair ∷ q ∷ rest) l k = ⊎_elim
    (λ (taken : (c ≡ pair.0) × Covers [] (q ∷ rest)). absurd taken.1)
    (λ (passed : Covers (c ∷ []) (q ∷ rest)). last_kept weights (c ∷ []) (q ∷ rest) (omega arith) passed ∙ sym (greatest_next pair q rest))
    k
last_kept weights (c ∷ d ∷ cs) (pair ∷ q ∷ rest) l k = ⊎_elim
    (λ (taken : (c ≡ pair.0) × Covers (d ∷ cs) (q ∷ rest)).
    greatest_next (c, weights c) (d, weights d) (map (λ c. (c, weights c)) cs)
    ∙ last_kept weights (d ∷ cs) (q ∷ rest) (omega arith) taken.1
    ∙ sym (greatest_next pair q rest))
    (λ (passed : Covers (c ∷ d ∷ cs) (q ∷ rest)). last_kept weights (c ∷ d ∷ cs) (q ∷ rest) (omega arith) passed ∙ sym (greatest_next pair q rest))
    k

-- The law of choices
pub choices_safe : (wide : Table) (k : ℕ) (chosen : List ℕ) → IsWide wide → IsChoice wide k chosen → IsSafeFor wide (merged chosen wide)
choices_safe wide k chosen w c =
    let up : Rises wide = wide_rises wide w in
    let covers : Covers chosen wide = choice_covers wide k chosen up c in
    let moved : IsMovedUp wide (merged chosen wide) = choice_moves wide chosen up (Pairs-from_increasing chosen c.rising) covers in
    record {
      moved = moved;
      same_total = total_moved wide (merged chosen wide) moved;
      same_greatest = last_kept (weight_at chosen wide) chosen wide w.some covers;
    }
