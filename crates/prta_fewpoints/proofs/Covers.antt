-- How a choice lies in a table, and what it costs.
use Rattle.std.proofs.Common.{◌≡◌, ℕ, suc, ◌+◌, ◌-◌, ◌*◌, ◌≤◌, ◌<◌, ◌⊎◌, inl, inr, nat_le, List, [], ◌∷◌, length, get_or, refl, ap, sym, ◌∙◌, subst, arith, ⊎_elim}
use Rattle.std.proofs.lemmas.List.Sums.{sum_by-cons}
use Rattle.std.proofs.lemmas.Bool.{cond-true, cond-false, cases_lt, le-leb, lt-leb}
use Rattle.prta_mass.specs.Table.{Table, times, greatest}
use Rattle.prta_fewpoints.specs.Choices.{moved_to, cost}
use Rattle.prta_fewpoints.proofs.Lists.{Each, Pairs, AnyOf, Each-weaker, Each_both, AnyOf_gives, size-map, sum_by-each}

-- the times rise
abbrev pub Rises : Table → Type 0
Rises table = Pairs (λ a b. a.0 < b.0) table

-- the chosen times stand in the table in their order, and the table's last time is among them
abbrev pub Covers : List ℕ → Table → Type 0
Covers [] [] = Unit {0}
Covers [] (pair ∷ rest) = ⊥
Covers (c ∷ chosen) [] = ⊥
Covers (c ∷ chosen) (pair ∷ rest) = ((c ≡ pair.0) × Covers chosen rest) ⊎ Covers (c ∷ chosen) rest

pub cover_late : (t c : ℕ) (cs : List ℕ) (S : Table) → Each (λ q. t < q.0) S → Covers (c ∷ cs) S → t < c
cover_late t c cs [] h k = absurd k
cover_late t c cs (q ∷ S) h k = ⊎_elim (λ (e : (c ≡ q.0) × Covers cs S). omega (arith, h.0, e.0)) (λ (k' : Covers (c ∷ cs) S). cover_late t c cs S h.1 k') k

-- the cost of what stands behind the first chosen time doesn't depend on it
pub cost_behind : (c : ℕ) (cs : List ℕ) (S : Table) → Each (λ q. c < q.0) S → cost (c ∷ cs) S ≡ cost cs S
cost_behind c cs S h =
    sum_by-each _ _ S (Each-weaker (λ q. c < q.0) _ (λ q l. ap (λ x. q.1 * (x - q.0)) (cond-false (nat_le q.0 c) c (moved_to cs q.0) (lt-leb q.0 c l))) S h)

pub cost_first : (c : ℕ) (cs : List ℕ) (p : ℕ × ℕ) (S : Table) → p.0 ≤ c → cost (c ∷ cs) (p ∷ S) ≡ p.1 * (c - p.0) + cost (c ∷ cs) S
cost_first c cs p S l =
    sum_by-cons (λ (q : ℕ × ℕ). q.1 * (moved_to (c ∷ cs) q.0 - q.0)) p S
    ∙ ap (λ x. p.1 * (x - p.0) + cost (c ∷ cs) S) (cond-true (nat_le p.0 c) c (moved_to cs p.0) (le-leb p.0 c l))

pub cost_taken : (c : ℕ) (cs : List ℕ) (p : ℕ × ℕ) (S : Table) → c ≡ p.0 → Each (λ q. p.0 < q.0) S → cost (c ∷ cs) (p ∷ S) ≡ cost cs S
cost_taken c cs p S e h =
    let late : Each (λ q. c < q.0) S = Each-weaker (λ q. p.0 < q.0) _ (λ q l. omega (arith, e)) S h in
    let none : c - p.0 ≡ 0 = omega arith in
    cost_first c cs p S (omega arith) ∙ ap (λ x. p.1 * x + cost (c ∷ cs) S) none ∙ omega (arith, cost_behind c cs S late)

-- what is gathered moves to the next place and then to the chosen time
pub gathered : (weight moved since t c w : ℕ) → since ≤ t → t ≤ c → moved + weight * (t - since) + (weight + w) * (c - t) ≡ moved + weight * (c - since) + w * (c - t)
gathered weight moved since t c w l l' =
    let e : c - since ≡ (t - since) + (c - t) = omega arith in
    rw e (by_parts weight moved w (t - since) (c - t))
  where
    by_parts : (weight moved w a b : ℕ) → moved + weight * a + (weight + w) * b ≡ moved + weight * (a + b) + w * b
    by_parts weight moved w a b = omega arith

all_cover : (S : Table) → Covers (times S) S
all_cover [] = tt
all_cover (pair ∷ rest) = inl (refl, all_cover rest)

-- some choice of j times
pub some_cover : (j : ℕ) (S : Table) → 0 < j → j ≤ length S → (c : ℕ) × (cs : List ℕ) × (Covers (c ∷ cs) S) × (length (c ∷ cs) ≡ j)
some_cover j [] p l = absurd (omega arith)
some_cover j (pair ∷ rest) p l = ⊎_elim
    (λ (all : length rest < j). (pair.0, times rest, inl (refl, all_cover rest), omega (arith, size-map (λ (p : ℕ × ℕ). p.0) rest)))
    (λ (fewer : j ≤ length rest).
    let r : (c : ℕ) × (cs : List ℕ) × (Covers (c ∷ cs) rest) × (length (c ∷ cs) ≡ j) = some_cover j rest p fewer in
    (r.0, r.1, inr r.2, r.3))
    (cases_lt (length rest) j)

-- ---- the greatest time

pub greatest_next : (p q : ℕ × ℕ) (S : Table) → greatest (p ∷ q ∷ S) ≡ greatest (q ∷ S)
greatest_next p q S =
    let e : length (p ∷ q ∷ S) - 1 ≡ suc (length (q ∷ S) - 1) = omega arith in
    ap (λ k. (get_or (p ∷ q ∷ S) k (0, 0)).0) e

greatest_above : (t : ℕ) (S : Table) → 0 < length S → Each (λ q. t < q.0) S → t < greatest S
greatest_above t [] l h = absurd (omega arith)
greatest_above t (q ∷ []) l h = h.0
greatest_above t (q ∷ r ∷ S) l h = rw (greatest_next q r S) (greatest_above t (r ∷ S) (omega arith) h.1)

greatest_rest : (p : ℕ × ℕ) (S : Table) → Rises (p ∷ S) → 0 < length S → (greatest (p ∷ S) ≡ greatest S) × (p.0 < greatest S)
greatest_rest p [] up l = absurd (omega arith)
greatest_rest p (q ∷ S) up l = (greatest_next p q S, greatest_above p.0 (q ∷ S) (omega arith) up.0)

abbrev pub IsTime : Table → ℕ → Type 0
IsTime table c = AnyOf (λ pair. pair.0 ≡ c) table

pub cover_within : (cs : List ℕ) (S : Table) → Covers cs S → Each (IsTime S) cs
cover_within [] S k = tt
cover_within (c ∷ cs) [] k = absurd k
cover_within (c ∷ cs) (pair ∷ rest) k = ⊎_elim
    (λ (taken : (c ≡ pair.0) × Covers cs rest). (inl (sym taken.0), Each-weaker (IsTime rest) _ (λ d t. inr t) cs (cover_within cs rest taken.1)))
    (λ (passed : Covers (c ∷ cs) rest). Each-weaker (IsTime rest) _ (λ d t. inr t) (c ∷ cs) (cover_within (c ∷ cs) rest passed))
    k

pub cover_rising : (cs : List ℕ) (S : Table) → Rises S → Covers cs S → Pairs (λ a b. a < b) cs
cover_rising [] S up k = tt
cover_rising (c ∷ cs) [] up k = absurd k
cover_rising (c ∷ cs) (pair ∷ rest) up k = ⊎_elim
    (λ (taken : (c ≡ pair.0) × Covers cs rest). (
      Each-weaker (IsTime rest) _ (λ d t. AnyOf_gives (λ q. pair.0 < q.0) (λ q. q.0 ≡ d) (c < d) rest up.0 t (λ q l e. omega (arith, taken.0))) cs (cover_within cs rest taken.1),
      cover_rising cs rest up.1 taken.1,
    ))
    (λ (passed : Covers (c ∷ cs) rest). cover_rising (c ∷ cs) rest up.1 passed)
    k

pub cover_holds : (cs : List ℕ) (S : Table) → Rises S → 0 < length S → Covers cs S → AnyOf (λ c. c ≡ greatest S) cs
cover_holds cs [] up l k = absurd (omega arith)
cover_holds [] (pair ∷ rest) up l k = absurd k
cover_holds (c ∷ cs) (pair ∷ []) up l k = ⊎_elim (λ (taken : (c ≡ pair.0) × Covers cs []). inl (omega (arith, taken.0))) (λ (passed : Covers (c ∷ cs) []). absurd passed) k
cover_holds (c ∷ cs) (pair ∷ q ∷ rest) up l k =
    let top : greatest (pair ∷ q ∷ rest) ≡ greatest (q ∷ rest) = (greatest_rest pair (q ∷ rest) up (omega arith)).0 in
    subst (λ g. AnyOf (λ c. c ≡ g) (c ∷ cs)) (sym top) (⊎_elim
    (λ (taken : (c ≡ pair.0) × Covers cs (q ∷ rest)). inr (cover_holds cs (q ∷ rest) up.1 (omega arith) taken.1))
    (λ (passed : Covers (c ∷ cs) (q ∷ rest)). cover_holds (c ∷ cs) (q ∷ rest) up.1 (omega arith) passed)
    k)

-- rising times of a table, among them the greatest, lie in it
pub cover_of : (cs : List ℕ) (S : Table) → Rises S → Pairs (λ a b. a < b) cs → Each (IsTime S) cs → (0 < length S → AnyOf (λ c. c ≡ greatest S) cs) → Covers cs S
cover_of [] [] up rise within top = tt
cover_of (c ∷ cs) [] up rise within top = within.0
cover_of [] (pair ∷ rest) up rise within top = top (omega arith)
cover_of (c ∷ cs) (pair ∷ rest) up rise within top =
    let later : (d : ℕ) → pair.0 < d → IsTime (pair ∷ rest) d → IsTime rest d = λ d l t. ⊎_elim (λ (e : pair.0 ≡ d). absurd (omega arith)) (λ (t' : IsTime rest d). t') t in
    ⊎_elim
    (λ (e : pair.0 ≡ c).
    let above : Each (λ d. pair.0 < d) cs = Each-weaker (λ d. c < d) _ (λ d l. omega arith) cs rise.0 in
    inl (
      sym e,
      cover_of cs rest up.1 rise.1 (Each_both (λ d. pair.0 < d) (IsTime (pair ∷ rest)) (IsTime rest) later cs above within.1)
          (λ l.
          let g : (greatest (pair ∷ rest) ≡ greatest rest) × (pair.0 < greatest rest) = greatest_rest pair rest up l in
          ⊎_elim (λ (h : c ≡ greatest (pair ∷ rest)). absurd (omega (arith, g.0, g.1))) (λ (h : AnyOf (λ c. c ≡ greatest (pair ∷ rest)) cs). subst (λ x. AnyOf (λ c. c ≡ x) cs) g.0 h) (top (omega arith))),
    ))
    (λ (t : IsTime rest c).
    let first : pair.0 < c = AnyOf_gives (λ q. pair.0 < q.0) (λ q. q.0 ≡ c) (pair.0 < c) rest up.0 t (λ q l e. omega arith) in
    let above : Each (λ d. pair.0 < d) cs = Each-weaker (λ d. c < d) _ (λ d l. omega arith) cs rise.0 in
    inr (cover_of (c ∷ cs) rest up.1 rise (t, Each_both (λ d. pair.0 < d) (IsTime (pair ∷ rest)) (IsTime rest) later cs above within.1)
    (λ l. subst (λ x. AnyOf (λ c. c ≡ x) (c ∷ cs)) ((greatest_rest pair rest up l).0) (top (omega arith)))))
    within.0
