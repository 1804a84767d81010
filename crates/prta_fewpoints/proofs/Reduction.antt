-- The recursion gives the reduction, and there is no other.
use Rattle.std.proofs.Common.{◌≡◌, ℕ, ◌≤◌, ◌<◌, min, Some, List, [], ◌∷◌, map, length, Contains, refl, ap, sym, ◌∙◌, subst, arith, ⊎_elim}
use Rattle.std.proofs.lemmas.List.Elements.{All-from_recursion, recursion_from_All}
use Rattle.prta_mass.specs.Table.{Table, times, greatest}
use Rattle.prta_fewpoints.specs.Wide.{IsWide}
use Rattle.prta_fewpoints.specs.Choices.{IsChoice, cost, weight_at, merged, IsFirst, IsReduction}
use Rattle.prta_fewpoints.specs.Recursion.{least_cost, picks, kept_times, reduced}
use Rattle.prta_fewpoints.specs.Laws.{IsOneReduction}
use Rattle.prta_fewpoints.proofs.Lists.{Each-weaker, AnyOf-map, AnyOf_unmapped, Pairs_unmapped, AnyOf-from_contains, contains_from_AnyOf, Pairs-from_increasing, increasing_from_Pairs}
use Rattle.prta_fewpoints.proofs.Optional.{one_cost}
use Rattle.prta_fewpoints.proofs.Covers.{Rises, Covers, IsTime, some_cover, cover_within, cover_rising, cover_holds, cover_of}
use Rattle.prta_fewpoints.proofs.Least.{Picked, IsLeast, is_least}

-- ---- choices and covers

pub wide_rises : (wide : Table) → IsWide wide → Rises wide
wide_rises wide w = Pairs_unmapped (λ (pair : ℕ × ℕ). pair.0) (λ a b. a < b) wide (Pairs-from_increasing (times wide) w.increasing)

pub choice_covers : (wide : Table) (k : ℕ) (chosen : List ℕ) → Rises wide → IsChoice wide k chosen → Covers chosen wide
choice_covers wide k chosen up c =
    cover_of chosen wide up (Pairs-from_increasing chosen c.rising)
    (Each-weaker (λ time. Contains (times wide) time) (IsTime wide) (λ time t. AnyOf_unmapped (λ (pair : ℕ × ℕ). pair.0) (λ x. x ≡ time) wide (AnyOf-from_contains (times wide) time t)) chosen
    (recursion_from_All (λ time. Contains (times wide) time) chosen c.within))
    (λ l. AnyOf-from_contains chosen (greatest wide) c.holds)

pub cover_chooses : (wide : Table) (k : ℕ) (chosen : List ℕ) → Rises wide → 0 < length wide → Covers chosen wide → length chosen ≡ min k (length wide) → IsChoice wide k chosen
cover_chooses wide k chosen up some covers count = record {
  rising = increasing_from_Pairs chosen (cover_rising chosen wide up covers);
  within = All-from_recursion (λ time. Contains (times wide) time) chosen
      (Each-weaker (IsTime wide) (λ time. Contains (times wide) time) (λ time t. contains_from_AnyOf (times wide) time (AnyOf-map (λ (pair : ℕ × ℕ). pair.0) (λ x. x ≡ time) wide t)) chosen (cover_within chosen wide covers));
  count = count;
  holds = contains_from_AnyOf chosen (greatest wide) (cover_holds chosen wide up some covers);
}

first_one : (xs ys : List ℕ) → length xs ≡ length ys → IsFirst xs ys → IsFirst ys xs → xs ≡ ys
first_one [] [] n a b = refl
first_one [] (y ∷ ys) n a b = absurd (omega arith)
first_one (x ∷ xs) [] n a b = absurd a
first_one (x ∷ xs) (y ∷ ys) n a b = ⊎_elim
    (λ (l : x < y). ⊎_elim (λ (l' : y < x). absurd (omega arith)) (λ (e : (y ≡ x) × IsFirst ys xs). absurd (omega (arith, e.0))) b)
    (λ (e : (x ≡ y) × IsFirst xs ys). ⊎_elim
    (λ (l' : y < x). absurd (omega (arith, e.0)))
    (λ (e' : (y ≡ x) × IsFirst ys xs). let rest : xs ≡ ys = first_one xs ys (omega arith) e.1 e'.1 in let same : x ≡ y = e.0 in cc)
    b)
    a

-- the times of a merged table are those chosen
pub times_merged : (chosen : List ℕ) (wide : Table) → times (merged chosen wide) ≡ chosen
times_merged chosen wide = go chosen
  where
    go : (cs : List ℕ) → map (λ (pair : ℕ × ℕ). pair.0) (map (λ time. (time, weight_at chosen wide time)) cs) ≡ cs
    go [] = refl
    go (c ∷ cs) = ap (λ rest. c ∷ rest) (go cs)

-- ---- the law

-- what the kept times are
pub record IsCheapest (wide : Table) (k : ℕ) (chosen : List ℕ) : Type 0 where
  pub choice : IsChoice wide k chosen
  pub least : (other : List ℕ) → IsChoice wide k other → cost chosen wide ≤ cost other wide
  pub first : (other : List ℕ) → IsChoice wide k other → cost other wide ≡ cost chosen wide → IsFirst chosen other

pub kept_cheapest : (wide : Table) (k : ℕ) → Rises wide → 0 < length wide → 0 < k → IsCheapest wide k (kept_times wide k)
kept_cheapest wide k up some pos =
    let j : ℕ = min k (length wide) in
    let s : (c : ℕ) × (cs : List ℕ) × (Covers (c ∷ cs) wide) × (length (c ∷ cs) ≡ j) = some_cover j wide (omega arith) (omega arith) in
    let l : IsLeast j wide = is_least j wide up in
    let f : (g : ℕ) × (least_cost j wide ≡ Some g) × (g ≤ cost (s.0 ∷ s.1) wide) = l.found (s.0 ∷ s.1) s.2 s.3 in
    let p : Picked j wide f.0 = l.picked f.0 f.1 in
    record {
      choice = cover_chooses wide k (picks j wide) up some p.covers p.count;
      least = λ other c.
          let r : (g : ℕ) × (least_cost j wide ≡ Some g) × (g ≤ cost other wide) = l.found other (choice_covers wide k other up c) c.count in
          let same : f.0 ≡ r.0 = one_cost (least_cost j wide) f.0 r.0 f.1 r.1 in
          omega (arith, p.costs, r.2, same);
      first = λ other c e. p.first other (choice_covers wide k other up c) c.count (omega (arith, e, p.costs));
    }

only_cheapest : (wide : Table) (k : ℕ) (a b : List ℕ) → IsCheapest wide k a → IsCheapest wide k b → a ≡ b
only_cheapest wide k a b p q =
    let same : cost a wide ≡ cost b wide = omega (arith, p.least b q.choice, q.least a p.choice) in
    first_one a b ((p.choice).count ∙ sym (q.choice).count) (p.first b q.choice (sym same)) (q.first a p.choice same)

pub reduced_is : (wide : Table) (k : ℕ) → IsWide wide → 0 < k → IsReduction wide k (reduced wide k)
reduced_is wide k w pos =
    let chosen : List ℕ = kept_times wide k in
    let p : IsCheapest wide k chosen = kept_cheapest wide k (wide_rises wide w) w.some pos in
    let q : IsCheapest wide k (times (merged chosen wide)) = subst (IsCheapest wide k) (sym (times_merged chosen wide)) p in
    record {
      choice = q.choice;
      merges = ap (λ cs. merged cs wide) (sym (times_merged chosen wide));
      least = q.least;
      first = q.first;
    }

pub one_reduction : (wide : Table) (k : ℕ) → IsWide wide → 0 < k → IsOneReduction wide k
one_reduction wide k w pos = record {
  is = reduced_is wide k w pos;
  only = λ other r.
      let q : IsCheapest wide k (times other) = record { choice = r.choice; least = r.least; first = r.first } in
      r.merges ∙ ap (λ cs. merged cs wide) (only_cheapest wide k (times other) (kept_times wide k) q (kept_cheapest wide k (wide_rises wide w) w.some pos));
}
