-- The recursion gives the least cost, and picks the first of the covers that have it.
use Rattle.std.proofs.Common.{◌≡◌, ℕ, zero, suc, ◌+◌, ◌-◌, ◌*◌, ◌≤◌, ◌<◌, inl, inr, Option, Some, true, false, List, [], ◌∷◌, length, refl, ap, sym, ◌∙◌, subst, arith, ⊎_elim}
use Rattle.std.proofs.lemmas.Bool.{cond-true, cond-false, cases_Bool, eqb-false}
use Rattle.prta_mass.specs.Table.{Table}
use Rattle.prta_fewpoints.specs.Choices.{cost, IsFirst}
use Rattle.prta_fewpoints.specs.Recursion.{plus, lesser, reaches, scan, least_cost, pick, picks}
use Rattle.prta_fewpoints.proofs.Lists.{Each, Each-weaker, Each_all}
use Rattle.prta_fewpoints.proofs.Optional.{lesser_left, lesser_right, some_one, lesser_low, lesser_other, reaches_true}
use Rattle.prta_fewpoints.proofs.Covers.{Rises, Covers, cover_late, cost_first, cost_taken, gathered}

pub record Picked (j : ℕ) (S : Table) (g : ℕ) : Type 0 where
  pub covers : Covers (picks j S) S
  pub count : length (picks j S) ≡ j
  pub costs : cost (picks j S) S ≡ g
  pub first : (cs : List ℕ) → Covers cs S → length cs ≡ j → cost cs S ≡ g → IsFirst (picks j S) cs

-- the least cost is there where some choice is, and is at most its cost; what is picked has this cost, and is the first that has
pub record IsLeast (j : ℕ) (S : Table) : Type 0 where
  pub found : (cs : List ℕ) → Covers cs S → length cs ≡ j → (g : ℕ) × (least_cost j S ≡ Some g) × (g ≤ cost cs S)
  pub picked : (g : ℕ) → least_cost j S ≡ Some g → Picked j S g

-- the cost of a choice, with what is gathered
abbrev with_gathered : ℕ → ℕ → ℕ → ℕ → List ℕ → Table → ℕ
with_gathered weight moved since c cs S = moved + weight * (c - since) + cost (c ∷ cs) S

record PickedFrom (j weight moved since : ℕ) (S : Table) (g : ℕ) (out : List ℕ) : Type 0 where
  head : ℕ
  tail : List ℕ
  is : out ≡ head ∷ tail
  covers : Covers (head ∷ tail) S
  count : length tail ≡ j
  costs : with_gathered weight moved since head tail S ≡ g
  first : (d : ℕ) (ds : List ℕ) → Covers (d ∷ ds) S → length ds ≡ j → with_gathered weight moved since d ds S ≡ g → IsFirst (head ∷ tail) (d ∷ ds)

module _ (j : ℕ) (ih : (S : Table) → Rises S → IsLeast j S) where
  scan_found : (S : Table) (weight moved since : ℕ) → Each (λ q. since ≤ q.0) S → Rises S → (c : ℕ) (cs : List ℕ) → Covers (c ∷ cs) S → length cs ≡ j →
      (g : ℕ) × (scan (least_cost j) weight moved since S ≡ Some g) × (g ≤ with_gathered weight moved since c cs S)
  scan_found [] weight moved since late up c cs k n = absurd k
  scan_found (pair ∷ rest) weight moved since late up c cs k n =
      let here : ℕ = moved + weight * (pair.0 - since) in
      let behind : Option ℕ = scan (least_cost j) (weight + pair.1) here pair.0 rest in
      ⊎_elim
      (λ (taken : (c ≡ pair.0) × Covers cs rest).
      let r : (g : ℕ) × (least_cost j rest ≡ Some g) × (g ≤ cost cs rest) = (ih rest up.1).found cs taken.1 n in
      let l : (g : ℕ) × (lesser (Some (here + r.0)) behind ≡ Some g) × (g ≤ here + r.0) = lesser_left (here + r.0) behind in
      let at_c : weight * (c - since) ≡ weight * (pair.0 - since) = ap (λ x. weight * (x - since)) taken.0 in
      (l.0, ap (λ o. lesser (plus here o) behind) r.1 ∙ l.1, omega (arith, l.2, r.2, at_c, cost_taken c cs pair rest taken.0 up.0)))
      (λ (passed : Covers (c ∷ cs) rest).
      let later : pair.0 < c = cover_late pair.0 c cs rest up.0 passed in
      let r : (g : ℕ) × (behind ≡ Some g) × (g ≤ with_gathered (weight + pair.1) here pair.0 c cs rest) =
      scan_found rest (weight + pair.1) here pair.0 (Each-weaker (λ q. pair.0 < q.0) _ (λ q l. omega arith) rest up.0) up.1 c cs passed n in
      let l : (g : ℕ) × (lesser (plus here (least_cost j rest)) (Some r.0) ≡ Some g) × (g ≤ r.0) = lesser_right (plus here (least_cost j rest)) r.0 in
      (l.0, ap (λ o. lesser (plus here (least_cost j rest)) o) r.1 ∙ l.1, omega (arith, l.2, r.2, gathered weight moved since pair.0 c pair.1 late.0 (omega arith), cost_first c cs pair rest (omega arith))))
      k

  pick_is : (S : Table) (weight moved since g : ℕ) → Each (λ q. since ≤ q.0) S → Rises S → scan (least_cost j) weight moved since S ≡ Some g →
      PickedFrom j weight moved since S g (pick (least_cost j) (picks j) (Some g) weight moved since S)
  pick_is [] weight moved since g late up e = absurd (cc)
  pick_is (pair ∷ rest) weight moved since g late up e =
      let here : ℕ = moved + weight * (pair.0 - since) in
      let candidate : Option ℕ = plus here (least_cost j rest) in
      let further : List ℕ = pick (least_cost j) (picks j) (Some g) (weight + pair.1) here pair.0 rest in
      let behind : Option ℕ = scan (least_cost j) (weight + pair.1) here pair.0 rest in
      ⊎_elim
      (λ (hit : reaches candidate (Some g) ≡ true).
      let r : (h : ℕ) × (least_cost j rest ≡ Some h) × (here + h ≡ g) = reaches_true here (least_cost j rest) g hit in
      let p : Picked j rest r.0 = (ih rest up.1).picked r.0 r.1 in
      record {
        head = pair.0;
        tail = picks j rest;
        is = cond-true (reaches candidate (Some g)) (pair.0 ∷ picks j rest) further hit;
        covers = inl (refl, p.covers);
        count = p.count;
        costs = omega (arith, cost_taken pair.0 (picks j rest) pair rest refl up.0, p.costs, r.2);
        first = λ d ds k n q. ⊎_elim
            (λ (taken : (d ≡ pair.0) × Covers ds rest).
            let at_d : weight * (d - since) ≡ weight * (pair.0 - since) = ap (λ x. weight * (x - since)) taken.0 in
            inr (sym taken.0, p.first ds taken.1 n (omega (arith, q, at_d, cost_taken d ds pair rest taken.0 up.0, r.2))))
            (λ (passed : Covers (d ∷ ds) rest). inl (cover_late pair.0 d ds rest up.0 passed))
            k;
      })
      (λ (miss : reaches candidate (Some g) ≡ false).
      let e' : behind ≡ Some g = lesser_other candidate behind g e miss in
      let p : PickedFrom j (weight + pair.1) here pair.0 rest g further =
      pick_is rest (weight + pair.1) here pair.0 g (Each-weaker (λ q. pair.0 < q.0) _ (λ q l. omega arith) rest up.0) up.1 e' in
      let later : pair.0 < p.head = cover_late pair.0 p.head p.tail rest up.0 p.covers in
      record {
        head = p.head;
        tail = p.tail;
        is = cond-false (reaches candidate (Some g)) (pair.0 ∷ picks j rest) further miss ∙ p.is;
        covers = inr p.covers;
        count = p.count;
        costs = omega (arith, p.costs, gathered weight moved since pair.0 p.head pair.1 late.0 (omega arith), cost_first p.head p.tail pair rest (omega arith));
        first = λ d ds k n q. ⊎_elim
            (λ (taken : (d ≡ pair.0) × Covers ds rest).
            let r : (h : ℕ) × (least_cost j rest ≡ Some h) × (h ≤ cost ds rest) = (ih rest up.1).found ds taken.1 n in
            let low : g ≤ here + r.0 = lesser_low (here + r.0) behind g (sym (ap (λ o. lesser (plus here o) behind) r.1) ∙ e) in
            let at_d : weight * (d - since) ≡ weight * (pair.0 - since) = ap (λ x. weight * (x - since)) taken.0 in
            let same : here + r.0 ≡ g = omega (arith, low, r.2, q, at_d, cost_taken d ds pair rest taken.0 up.0) in
            absurd (eqb-false (here + r.0) g (sym (ap (λ o. reaches (plus here o) (Some g)) r.1) ∙ miss) same))
            (λ (passed : Covers (d ∷ ds) rest).
            let after_pair : pair.0 < d = cover_late pair.0 d ds rest up.0 passed in
            p.first d ds passed n (omega (arith, q, gathered weight moved since pair.0 d pair.1 late.0 (omega arith), cost_first d ds pair rest (omega arith))))
            k;
      })
      (cases_Bool (reaches candidate (Some g)))

  least_next : (S : Table) → Rises S → IsLeast (suc j) S
  least_next S up = record { found = found; picked = picked }
    where
      all_late : (S : Table) → Each (λ q. 0 ≤ q.0) S
      all_late S = Each_all _ (λ q. omega arith) S

      found : (cs : List ℕ) → Covers cs S → length cs ≡ suc j → (g : ℕ) × (least_cost (suc j) S ≡ Some g) × (g ≤ cost cs S)
      found [] k n = absurd (omega arith)
      found (c ∷ cs) k n =
          let r : (g : ℕ) × (scan (least_cost j) 0 0 0 S ≡ Some g) × (g ≤ with_gathered 0 0 0 c cs S) = scan_found S 0 0 0 (all_late S) up c cs k (omega arith) in
          (r.0, r.1, omega (arith, r.2))

      first : {g : ℕ} {out : List ℕ} → (p : PickedFrom j 0 0 0 S g out) → (cs : List ℕ) → Covers cs S → length cs ≡ suc j → cost cs S ≡ g → IsFirst (p.head ∷ p.tail) cs
      first p [] k n q = absurd (omega arith)
      first p (d ∷ ds) k n q = p.first d ds k (omega arith) (omega (arith, q))

      picked : (g : ℕ) → least_cost (suc j) S ≡ Some g → Picked (suc j) S g
      picked g e =
          let p : PickedFrom j 0 0 0 S g (pick (least_cost j) (picks j) (Some g) 0 0 0 S) = pick_is S 0 0 0 g (all_late S) up e in
          let is : picks (suc j) S ≡ p.head ∷ p.tail = ap (λ o. pick (least_cost j) (picks j) o 0 0 0 S) e ∙ p.is in
          record {
            covers = subst (λ cs. Covers cs S) (sym is) p.covers;
            count = ap length is ∙ ap suc p.count;
            costs = ap (λ cs. cost cs S) is ∙ omega (arith, p.costs);
            first = λ cs k n q. subst (λ xs. IsFirst xs cs) (sym is) (first p cs k n q);
          }

pub is_least : (j : ℕ) (S : Table) → Rises S → IsLeast j S
is_least zero [] up = record {
  found = λ cs k n. (0, refl, omega arith);
  picked = λ g e. record { covers = tt; count = refl; costs = some_one 0 g e; first = λ cs k n q. tt };
}
is_least zero (pair ∷ rest) up = record { found = λ cs k n. absurd (nothing cs k n); picked = λ g e. absurd (cc) }
  where
    nothing : (cs : List ℕ) → Covers cs (pair ∷ rest) → length cs ≡ 0 → ⊥
    nothing [] k n = k
    nothing (c ∷ cs) k n = absurd (omega arith)
is_least (suc j) S up = least_next j (λ S up. is_least j S up) S up
