-- The steps of the loops over the places of a table, and bounds for their numbers.
use Rattle.std.proofs.Common.{◌≡◌, ℕ, zero, suc, ◌+◌, ◌-◌, ◌*◌, ◌^◌, ◌≤◌, ◌<◌, Option, IfSome, IsSome, Some, None, true, false, nat_le, nat_eq, List, [], ◌∷◌, ◌++◌, filter, length, get_or, drop, refl, ap, sym, ◌∙◌, subst, arith, add-one, append_assoc, mul-le-mul_left, mul-le-mul_right, le_trans}
use Rattle.std.proofs.Math.Seq.{drop-cons, drop-length}
use Rattle.std.proofs.lemmas.Bool.{cond_both, cond-true, cond-false}
use Rattle.std.proofs.lemmas.List.Elements.{All-from_recursion, recursion_from_All}
use Rattle.std.proofs.lemmas.List.Sums.{sum_by-cons}
use Rattle.prta_mass.specs.Table.{Table, total}
use Rattle.prta_mass.specs.declared.table.TheConstants.{TOTAL_LIMIT}
use Rattle.prta_fewpoints.specs.Wide.{IsWide}
use Rattle.prta_fewpoints.specs.Choices.{moved_to, cost, weight_at}
use Rattle.prta_fewpoints.specs.Recursion.{plus, lesser, reaches, scan, least_cost, pick, picks}
use Rattle.prta_fewpoints.specs.Costs.{AreShort}
use Rattle.prta_fewpoints.proofs.Lists.{Each, Each-weaker, AnyOf_gives}
use Rattle.prta_fewpoints.proofs.Optional.{lesser_none, lesser-assoc, lesser_rest}
use Rattle.prta_fewpoints.proofs.Covers.{Rises, Covers, IsTime, cover_within, some_cover}
use Rattle.prta_fewpoints.proofs.Least.{Picked, is_least}
use Rattle.prta_fewpoints.proofs.Reduction.{wide_rises}

-- the pair at a place
abbrev pub pair_at : Table → ℕ → ℕ × ℕ
pair_at table i = get_or table i (0, 0)

pub drop_next : (table : Table) (i : ℕ) → i < length table → drop i table ≡ pair_at table i ∷ drop (i + 1) table
drop_next table i l = rw add-one (drop-cons table i (0, 0) l)

-- what is gathered costs this much at the pair of a place
abbrev pub moved_on : Table → ℕ → ℕ → ℕ → ℕ → ℕ
moved_on table weight moved since i = moved + weight * ((pair_at table i).0 - since)

module _ (behind : Table → Option ℕ) (table : Table) where
  abbrev pub candidate : ℕ → ℕ → ℕ → ℕ → Option ℕ
  candidate weight moved since i = plus (moved_on table weight moved since i) (behind (drop (i + 1) table))

  abbrev pub scanned : ℕ → ℕ → ℕ → ℕ → Option ℕ
  scanned weight moved since i = scan behind weight moved since (drop i table)

  abbrev pub scanned_next : ℕ → ℕ → ℕ → ℕ → Option ℕ
  scanned_next weight moved since i = scan behind (weight + (pair_at table i).1) (moved_on table weight moved since i) (pair_at table i).0 (drop (i + 1) table)

  -- the next place: best is the least of the places before it
  pub scan_more : (best : Option ℕ) (weight moved since i : ℕ) → i < length table →
      lesser (lesser best (candidate weight moved since i)) (scanned_next weight moved since i) ≡ lesser best (scanned weight moved since i)
  scan_more best weight moved since i l =
      lesser-assoc best (candidate weight moved since i) (scanned_next weight moved since i)
      ∙ sym (ap (λ S. lesser best (scan behind weight moved since S)) (drop_next table i l))

  -- past the last place
  pub scan_all : (best : Option ℕ) (weight moved since : ℕ) → lesser best (scanned weight moved since (length table)) ≡ best
  scan_all best weight moved since = ap (λ S. lesser best (scan behind weight moved since S)) (drop-length table) ∙ lesser_none best

  pub scan_none : (weight moved since : ℕ) → scanned weight moved since (length table) ≡ None
  scan_none weight moved since = ap (scan behind weight moved since) (drop-length table)

  -- a place that doesn't reach the goal leaves it to the later ones
  pub scan_miss : (goal : Option ℕ) (weight moved since i : ℕ) → i < length table → scanned weight moved since i ≡ goal → reaches (candidate weight moved since i) goal ≡ false → scanned_next weight moved since i ≡ goal
  scan_miss goal weight moved since i l e miss =
      lesser_rest (candidate weight moved since i) (scanned_next weight moved since i) goal (sym (ap (scan behind weight moved since) (drop_next table i l)) ∙ e) miss

  module _ (after : Table → List ℕ) (goal : Option ℕ) where
    abbrev pub picked : ℕ → ℕ → ℕ → ℕ → List ℕ
    picked weight moved since i = pick behind after goal weight moved since (drop i table)

    pub pick_hit : (weight moved since i : ℕ) → i < length table → reaches (candidate weight moved since i) goal ≡ true →
        picked weight moved since i ≡ (pair_at table i).0 ∷ after (drop (i + 1) table)
    pick_hit weight moved since i l hit =
        ap (pick behind after goal weight moved since) (drop_next table i l) ∙ cond-true (reaches (candidate weight moved since i) goal) _ _ hit

    pub pick_miss : (weight moved since i : ℕ) → i < length table → reaches (candidate weight moved since i) goal ≡ false →
        picked weight moved since i ≡ pick behind after goal (weight + (pair_at table i).1) (moved_on table weight moved since i) (pair_at table i).0 (drop (i + 1) table)
    pick_miss weight moved since i l miss =
        ap (pick behind after goal weight moved since) (drop_next table i l) ∙ cond-false (reaches (candidate weight moved since i) goal) _ _ miss

-- ---- row 0

pub row_0_inside : (table : Table) (j i : ℕ) → j ≡ 0 → i < length table → None ≡ least_cost j (drop i table)
row_0_inside table j i e l = sym (ap (λ k. least_cost k (drop i table)) e ∙ ap (least_cost 0) (drop_next table i l))

-- ---- bounds

moved_low : (top : ℕ) (chosen : List ℕ) (t : ℕ) → Each (λ c. c ≤ top) chosen → t ≤ top → moved_to chosen t ≤ top
moved_low top [] t h l = l
moved_low top (c ∷ chosen) t h l = cond_both (nat_le t c) c (moved_to chosen t) (λ x. x ≤ top) (λ e. h.0) (λ e. moved_low top chosen t h.1 l)

cost_low : (top : ℕ) (chosen : List ℕ) (S : Table) → Each (λ c. c ≤ top) chosen → Each (λ pair. pair.0 ≤ top) S → cost chosen S ≤ total S * top
cost_low top chosen [] h l = omega arith
cost_low top chosen (pair ∷ S) h l =
    let low : moved_to chosen pair.0 ≤ top = moved_low top chosen pair.0 h l.0 in
    let one : pair.1 * (moved_to chosen pair.0 - pair.0) ≤ pair.1 * top = mul-le-mul_left pair.1 (omega arith) in
    omega (
      arith,
      sum_by-cons (λ (p : ℕ × ℕ). p.1 * (moved_to chosen p.0 - p.0)) pair S,
      ap (λ s. s * top) (sum_by-cons (λ (p : ℕ × ℕ). p.1) pair S),
      one,
      cost_low top chosen S h l.1,
    )

-- a least cost is at most the total times a bound of the times
least_low : (top j : ℕ) (S : Table) (g : ℕ) → Rises S → Each (λ pair. pair.0 ≤ top) S → least_cost j S ≡ Some g → g ≤ total S * top
least_low top j S g up h e =
    let p : Picked j S g = (is_least j S up).picked g e in
    let low : Each (λ c. c ≤ top) (picks j S) =
    Each-weaker (IsTime S) _ (λ c t. AnyOf_gives (λ pair. pair.0 ≤ top) (λ pair. pair.0 ≡ c) (c ≤ top) S h t (λ pair l q. omega arith)) (picks j S) (cover_within (picks j S) S p.covers) in
    omega (arith, p.costs, cost_low top (picks j S) S low h)

Each-drop : {X : Type 0} (P : X → Type 0) (i : ℕ) (xs : List X) → Each P xs → Each P (drop i xs)
Each-drop P zero xs h = h
Each-drop P (suc i) [] h = tt
Each-drop P (suc i) (x ∷ xs) h = Each-drop P i xs h.1

Rises-drop : (i : ℕ) (S : Table) → Rises S → Rises (drop i S)
Rises-drop zero S up = up
Rises-drop (suc i) [] up = tt
Rises-drop (suc i) (pair ∷ S) up = Rises-drop i S up.1

pub total-drop-le : (i : ℕ) (S : Table) → total (drop i S) ≤ total S
total-drop-le zero S = omega arith
total-drop-le (suc i) [] = omega arith
total-drop-le (suc i) (pair ∷ S) = omega (arith, sum_by-cons (λ (p : ℕ × ℕ). p.1) pair S, total-drop-le i S)

pub total-drop_next : (S : Table) (i : ℕ) → i < length S → total (drop i S) ≡ (pair_at S i).1 + total (drop (i + 1) S)
total-drop_next S i l = ap total (drop_next S i l) ∙ sum_by-cons (λ (p : ℕ × ℕ). p.1) (pair_at S i) (drop (i + 1) S)

pub cell_low : (top j i : ℕ) (S : Table) (g : ℕ) → Rises S → Each (λ pair. pair.0 ≤ top) S → least_cost j (drop i S) ≡ Some g → g ≤ total S * top
cell_low top j i S g up h e =
    le_trans (least_low top j (drop i S) g (Rises-drop i S up) (Each-drop (λ pair. pair.0 ≤ top) i S h) e) (mul-le-mul_right top (total-drop-le i S))

-- a choice of j times is there wherever there are as many
pub some_least : (j : ℕ) (S : Table) → Rises S → 0 < j → j ≤ length S → IsSome (least_cost j S)
some_least j S up p l =
    let s : (c : ℕ) × (cs : List ℕ) × (Covers (c ∷ cs) S) × (length (c ∷ cs) ≡ j) = some_cover j S p l in
    let r : (g : ℕ) × (least_cost j S ≡ Some g) × (g ≤ cost (s.0 ∷ s.1) S) = (is_least j S up).found (s.0 ∷ s.1) s.2 s.3 in
    subst IsSome (sym r.1) refl

-- the next of the kept times
pub kept_next : (times times' : List ℕ) (time : ℕ) (rest now all : List ℕ) → times' ≡ times ++ time ∷ [] → now ≡ time ∷ rest → times ++ now ≡ all → times' ++ rest ≡ all
kept_next times times' time rest now all a b h = rw a (append_assoc times (time ∷ []) rest ∙ ap (λ more. times ++ more) (sym b) ∙ h)

-- ---- what the loops over places keep of what is gathered

rises_le : (S : Table) (i k : ℕ) → Rises S → i ≤ k → k < length S → (pair_at S i).0 ≤ (pair_at S k).0
rises_le [] i k up l inside = absurd (omega arith)
rises_le (pair ∷ S) zero zero up l inside = omega arith
rises_le (pair ∷ S) zero (suc k) up l inside =
    let later : pair.0 < (pair_at S k).0 = All-from_recursion (λ (p : ℕ × ℕ). pair.0 < p.0) S up.0 k (0, 0) (omega arith) in
    omega arith
rises_le (pair ∷ S) (suc i) zero up l inside = absurd (omega arith)
rises_le (pair ∷ S) (suc i) (suc k) up l inside = rises_le S i k up.1 (omega arith) (omega arith)

-- what is gathered stands at no later time than the pairs that are left, and all weights together are those of a table
pub record IsOnTheWay (table : Table) (i weight since : ℕ) : Type 0 where
  pub since_low : (k : ℕ) → i ≤ k → k < length table → since ≤ (pair_at table k).0
  pub weight_low : weight + total (drop i table) ≤ TOTAL_LIMIT

pub way_start : (table : Table) (i weight since : ℕ) → IsWide table → weight ≡ 0 → since ≡ 0 → IsOnTheWay table i weight since
way_start table i weight since w e f = record { since_low = λ k low inside. omega arith; weight_low = omega (arith, total-drop-le i table, w.limited) }

pub way_next : (table : Table) (i weight since weight' since' : ℕ) → IsWide table → i < length table → weight' ≡ weight + (pair_at table i).1 → since' ≡ (pair_at table i).0 →
    IsOnTheWay table i weight since → IsOnTheWay table (i + 1) weight' since'
way_next table i weight since weight' since' w l e f way = record {
  since_low = λ k low inside. omega (arith, f, rises_le table i k (wide_rises table w) (omega arith) inside);
  weight_low = omega (arith, e, total-drop_next table i l, way.weight_low);
}

-- ---- the same of the numbers that the code has

pub scan_start : (j : ℕ) (S : Table) (weight moved since : ℕ) → weight ≡ 0 → moved ≡ 0 → since ≡ 0 → scan (least_cost j) weight moved since S ≡ least_cost (suc j) S
scan_start j S weight moved since e f g = rw (e, f, g) refl

pub cost_next : (j : ℕ) (S : Table) (best : Option ℕ) (weight moved since i : ℕ) (best' cost cand : Option ℕ) (here weight' moved' since' : ℕ) → i < length S →
    here ≡ moved_on S weight moved since i → cost ≡ least_cost j (drop (i + 1) S) → cand ≡ plus here cost → best' ≡ lesser best cand →
    weight' ≡ weight + (pair_at S i).1 → moved' ≡ moved_on S weight moved since i → since' ≡ (pair_at S i).0 →
    lesser best' (scan (least_cost j) weight' moved' since' (drop (i + 1) S)) ≡ lesser best (scan (least_cost j) weight moved since (drop i S))
cost_next j S best weight moved since i best' cost cand here weight' moved' since' l a b c d e f g =
    rw (d, c, a, b, e, f, g) (scan_more (least_cost j) S best weight moved since i l)

pub pick_start : (j : ℕ) (S : Table) (goal : Option ℕ) (weight moved since : ℕ) → goal ≡ least_cost (suc j) S → weight ≡ 0 → moved ≡ 0 → since ≡ 0 →
    pick (least_cost j) (picks j) goal weight moved since S ≡ picks (suc j) S
pick_start j S goal weight moved since d e f g = rw (d, e, f, g) refl

-- a place that doesn't reach the goal
pub record IsPassed (j : ℕ) (S : Table) (goal : Option ℕ) (weight moved since i weight' moved' since' : ℕ) : Type 0 where
  pub picked : pick (least_cost j) (picks j) goal weight' moved' since' (drop (i + 1) S) ≡ pick (least_cost j) (picks j) goal weight moved since (drop i S)
  pub least : scan (least_cost j) weight moved since (drop i S) ≡ goal → scan (least_cost j) weight' moved' since' (drop (i + 1) S) ≡ goal

pub place_passed : (j : ℕ) (S : Table) (goal : Option ℕ) (weight moved since i : ℕ) (cost cand : Option ℕ) (here weight' moved' since' : ℕ) → i < length S →
    here ≡ moved_on S weight moved since i → cost ≡ least_cost j (drop (i + 1) S) → cand ≡ plus here cost → false ≡ reaches cand goal →
    weight' ≡ weight + (pair_at S i).1 → moved' ≡ moved_on S weight moved since i → since' ≡ (pair_at S i).0 → IsPassed j S goal weight moved since i weight' moved' since'
place_passed j S goal weight moved since i cost cand here weight' moved' since' l a b c d e f g =
    let miss : reaches (candidate (least_cost j) S weight moved since i) goal ≡ false = sym (rw (c, a, b) at d) in
    record {
      picked = rw (e, f, g) (sym (pick_miss (least_cost j) S (picks j) goal weight moved since i l miss));
      least = λ h. rw (e, f, g) (scan_miss (least_cost j) S goal weight moved since i l h miss);
    }

-- a least cost fits
pub cost_fits : (j i : ℕ) (S : Table) (cost : Option ℕ) → IsWide S → AreShort S → cost ≡ least_cost j (drop i S) → IfSome cost (λ g. g ≤ 2 ^ 80)
cost_fits j i S None w h e = tt
cost_fits j i S (Some g) w h e =
    omega (arith, cell_low 1000000 j i S g (wide_rises S w) (recursion_from_All (λ (pair : ℕ × ℕ). pair.0 ≤ 1000000) S h) (sym e), mul-le-mul_right 1000000 w.limited)

-- no time gets more than the total
pub weight_low : (chosen : List ℕ) (S : Table) (time : ℕ) → weight_at chosen S time ≤ total S
weight_low chosen [] time = omega arith
weight_low chosen (pair ∷ S) time =
    let kept : Table = filter (λ (p : ℕ × ℕ). nat_eq (moved_to chosen p.0) time) S in
    let rest : total kept ≤ total S = weight_low chosen S time in
    cond_both (nat_eq (moved_to chosen pair.0) time) (pair ∷ kept) kept (λ ps. total ps ≤ total (pair ∷ S))
    (λ e. omega (arith, rest, sum_by-cons (λ (p : ℕ × ℕ). p.1) pair kept, sum_by-cons (λ (p : ℕ × ℕ). p.1) pair S))
    (λ e. omega (arith, rest, sum_by-cons (λ (p : ℕ × ℕ). p.1) pair S))
