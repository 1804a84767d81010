-- A list that is made by a sweep over marks.
use Rattle.std.proofs.Common.{◌≡◌, ℕ, zero, suc, ◌<◌, ◌≤◌, ◌+◌, ◌-◌, ◌*◌, ◌%◌, ◌∙◌, sym, ap, Bool, true, false, not, nat_eq, ◌||◌, List, [], length, take, get_or, slice_set, arith, refl, subst, ⊎_elim}
use Rattle.std.proofs.Math.Nat.{mul-mod_right}
use Rattle.std.proofs.lemmas.Bool.{cases_lt}
use Rattle.prta_mass.specs.Unit.{unit}
use Rattle.prta_mass.specs.Direction.{divided}
use Rattle.prta_mass.specs.declared.direction.Dir.{Dir}
use Rattle.prta_dist.proofs.Chances.{divided_most, divided_rises, divided_exact}
use Rattle.prta_stair.specs.Steps.{Steps}
use Rattle.prta_stair.specs.Moving.{Makes}
use Rattle.prta_stair.specs.Adding.{sum_of_first, marked, some_rest}
use Rattle.prta_stair.proofs.Marks.{first_more, first_mono, first_past}
use Rattle.prta_stair.proofs.Making.{Made, made_none, made_same, made_written}

again : (a r : Bool) → ((a || r) || r) ≡ (a || r)
again true r = refl
again false true = refl
again false false = refl

-- the sum leaves a remainder
abbrev pub rest_of : ℕ → ℕ → Bool
rest_of w sum = not (nat_eq (sum % w) 0)

no_rest : (w : ℕ) → rest_of w 0 ≡ false
no_rest w = ap (λ r. not (nat_eq r 0)) (ap (λ x. x % w) (let e : 0 ≡ w * 0 = omega arith in e) ∙ mul-mod_right w 0)

pub rests_agree : (w n : ℕ) (S T : ℕ → ℕ) → ((k : ℕ) → k < n → S k ≡ T k) → some_rest w S n ≡ some_rest w T n
rests_agree w zero S T same = refl
rests_agree w (suc n) S T same =
    ap (λ b. b || rest_of w (S n)) (rests_agree w n S T (λ k l. same k (omega arith)))
    ∙ ap (λ s. some_rest w T n || rest_of w s) (same n (omega arith))

no_rests : (w n : ℕ) (S : ℕ → ℕ) → ((k : ℕ) → k < n → S k ≡ 0) → some_rest w S n ≡ false
no_rests w zero S none = refl
no_rests w (suc n) S none =
    ap (λ b. b || rest_of w (S n)) (no_rests w n S (λ k l. none k (omega arith)))
    ∙ ap (rest_of w) (none n (omega arith))
    ∙ no_rest w

rests_on : (w k m sum : ℕ) (S : ℕ → ℕ) (rounded : Bool) → rounded ≡ some_rest w S k → (rounded || rest_of w sum) ≡ rounded → ((n : ℕ) → k ≤ n → S n ≡ sum) → rounded ≡ some_rest w S (k + m)
rests_on w k zero sum S rounded so_far still same = so_far ∙ ap (some_rest w S) (let e : k ≡ k + 0 = omega arith in e)
rests_on w k (suc m) sum S rounded so_far still same =
    sym still
    ∙ ap (λ s. rounded || rest_of w s) (sym (same (k + m) (omega arith)))
    ∙ ap (λ b. b || rest_of w (S (k + m))) (rests_on w k m sum S rounded so_far still same)
    ∙ ap (some_rest w S) (let e : suc (k + m) ≡ k + suc m = omega arith in e)

-- the sweep over the first j marks
pub record Swept (dir : Dir) (w : ℕ) (marks : List ℕ) (first j sum count last : ℕ) (rounded : Bool) (to : Steps) : Type 0 where
  pub few : count ≤ first + j
  pub sum_is : sum ≡ sum_of_first j marks
  pub made : Made (λ k. divided dir (marked marks first k) w) (first + j) last (take count to)
  pub last_is : last ≡ divided dir sum w
  pub rests : rounded ≡ some_rest w (marked marks first) (first + j)
  pub still : (rounded || rest_of w sum) ≡ rounded

module _ (dir : Dir) (w : ℕ) (marks : List ℕ) (first : ℕ) (some : 0 < w) where
  early : (k : ℕ) → k < first → marked marks first k ≡ 0
  early k l = ap (λ n. sum_of_first n marks) (let e : k + 1 - first ≡ 0 = omega (arith, l) in e)

  there : (j : ℕ) → marked marks first (first + j) ≡ sum_of_first (j + 1) marks
  there j = ap (λ n. sum_of_first n marks) (let e : first + j + 1 - first ≡ j + 1 = omega arith in e)

  pub late : (k : ℕ) → first + length marks ≤ k → marked marks first k ≡ sum_of_first (length marks) marks
  late k le = first_past marks (k + 1 - first) (omega (arith, le))

  rises : (i k : ℕ) → i ≤ k → divided dir (marked marks first i) w ≤ divided dir (marked marks first k) w
  rises i k le = divided_rises dir (marked marks first i) (marked marks first k) w some (first_mono marks (i + 1 - first) (k + 1 - first) (omega (arith, le)))

  low : sum_of_first (length marks) marks ≤ w * unit → (k : ℕ) → divided dir (marked marks first k) w ≤ unit
  low most k =
      divided_most dir (marked marks first k) unit w some
      (omega (arith, most, first_mono marks (k + 1 - first) (k + 1 - first + length marks) (omega arith), first_past marks (k + 1 - first + length marks) (omega arith)))

  zero_is : divided dir 0 w ≡ 0
  zero_is = ap (λ s. divided dir s w) (let e : 0 ≡ w * 0 = omega arith in e) ∙ divided_exact dir 0 w some

  pub swept_none : (to : Steps) → Swept dir w marks first 0 0 0 0 false to
  swept_none to =
      let at_first : first ≡ first + 0 = omega arith in
      record {
        few = omega arith;
        sum_is = refl;
        made = subst (λ n. Made (λ k. divided dir (marked marks first k) w) n 0 []) at_first (start first refl);
        last_is = sym zero_is;
        rests = sym (no_rests w first (marked marks first) early) ∙ ap (some_rest w (marked marks first)) at_first;
        still = no_rest w;
      }
    where
      start : (n : ℕ) → n ≡ first → Made (λ k. divided dir (marked marks first k) w) n 0 []
      start zero e = made_none (λ k. divided dir (marked marks first k) w)
      start (suc n) e =
          let none : (k : ℕ) → k < suc n → divided dir (marked marks first k) w ≡ 0 = λ k l. ap (λ s. divided dir s w) (early k (omega (arith, e, l))) ∙ zero_is in
          made_same (λ k. divided dir (marked marks first k) w) 0 0 (suc n) [] (made_none (λ k. divided dir (marked marks first k) w)) (omega arith) (λ k from below. none k below ∙ sym (none 0 (omega arith))) rises (omega (arith, none 0 (omega arith)))

  module _ (j sum count last : ℕ) (rounded : Bool) (to : Steps) (swept : Swept dir w marks first j sum count last rounded to) (inside : j < length marks) where
    one_more : suc (first + j) ≡ first + (j + 1)
    one_more = omega arith

    alone : (n : ℕ) → first + j ≤ n → n < first + (j + 1) → divided dir (marked marks first n) w ≡ divided dir (marked marks first (first + j)) w
    alone n from below = ap (λ m. divided dir (marked marks first m) w) (let e : n ≡ first + j = omega (arith, from, below) in e)

    module _ (more cell : ℕ) (rest : Bool) (more_is : more ≡ sum + get_or marks j 0) (cell_is : cell ≡ divided dir more w) (rest_is : rest ≡ rest_of w more) where
      sum_more : more ≡ sum_of_first (j + 1) marks
      sum_more = omega (arith, more_is, swept.sum_is, first_more marks j inside)

      cell_here : cell ≡ divided dir (marked marks first (first + j)) w
      cell_here = cell_is ∙ ap (λ s. divided dir s w) (sum_more ∙ sym (there j))

      rests_more : (rounded || rest) ≡ some_rest w (marked marks first) (first + (j + 1))
      rests_more =
          ap (λ b. b || rest) swept.rests
          ∙ ap (λ b. some_rest w (marked marks first) (first + j) || b) (rest_is ∙ ap (rest_of w) (sum_more ∙ sym (there j)))
          ∙ ap (some_rest w (marked marks first)) one_more

      still_more : ((rounded || rest) || rest_of w more) ≡ (rounded || rest)
      still_more = ap (λ b. (rounded || rest) || b) (sym rest_is) ∙ again rounded rest

      -- the value stays
      pub swept_same : cell ≤ last → Swept dir w marks first (j + 1) more count last (rounded || rest) to
      swept_same le = record {
        few = omega (arith, swept.few);
        sum_is = sum_more;
        made = made_same (λ k. divided dir (marked marks first k) w) (first + j) last (first + (j + 1)) (take count to) swept.made (omega arith) alone rises (omega (arith, cell_here, le));
        last_is = omega (arith, cell_is, cell_here, le, swept.made.low (first + j) (omega arith));
        rests = rests_more;
        still = still_more;
      }

      -- a step more
      pub swept_more : sum_of_first (length marks) marks ≤ w * unit → count < length to → last < cell → Swept dir w marks first (j + 1) more (count + 1) cell (rounded || rest) (slice_set to count (first + j, cell))
      swept_more most room up = record {
        few = omega (arith, swept.few);
        sum_is = sum_more;
        made = made_written (λ k. divided dir (marked marks first k) w) (first + j) last (first + (j + 1)) cell count to swept.made (omega arith) alone rises cell_here up (low most (first + j)) room;
        last_is = cell_is;
        rests = rests_more;
        still = still_more;
      }

    -- no mark
    pub swept_on : get_or marks j 0 ≡ 0 → Swept dir w marks first (j + 1) sum count last rounded to
    swept_on none =
        subst (λ b. Swept dir w marks first (j + 1) sum count last b to) swept.still
        (swept_same sum last (rest_of w sum) (omega (arith, none)) swept.last_is refl (omega arith))

  pub swept_all : (cap j sum count last : ℕ) (rounded : Bool) (to : Steps) → j ≡ length marks → first + length marks ≤ cap → Swept dir w marks first j sum count last rounded to → Makes cap (λ k. divided dir (marked marks first k) w) (take count to)
  swept_all cap j sum count last rounded to e le swept =
      let made : Made (λ k. divided dir (marked marks first k) w) cap last (take count to) = ⊎_elim
      (λ (l : first + j < cap).
      made_same (λ k. divided dir (marked marks first k) w) (first + j) last cap (take count to) swept.made l
      (λ n from below. ap (λ s. divided dir s w) (late n (omega (arith, e, from)) ∙ sym (late (first + j) (omega (arith, e)))))
      rises (omega (arith, ap (λ s. divided dir s w) (late (first + j) (omega (arith, e)) ∙ ap (λ n. sum_of_first n marks) (sym e) ∙ sym swept.sum_is), swept.last_is)))
      (λ (l : cap ≤ first + j). subst (λ n. Made (λ k. divided dir (marked marks first k) w) n last (take count to)) (let f : first + j ≡ cap = omega (arith, e, le, l) in f) swept.made)
      (cases_lt (first + j) cap) in
      record { steps = made.steps; values = made.values }

  pub swept_rests : (cap j sum count last : ℕ) (rounded : Bool) (to : Steps) → j ≡ length marks → first + length marks ≤ cap → Swept dir w marks first j sum count last rounded to → rounded ≡ some_rest w (marked marks first) cap
  swept_rests cap j sum count last rounded to e le swept =
      rests_on w (first + j) (cap - (first + j)) sum (marked marks first) rounded swept.rests swept.still
      (λ n from. late n (omega (arith, e, from)) ∙ ap (λ m. sum_of_first m marks) (sym e) ∙ sym swept.sum_is)
      ∙ ap (some_rest w (marked marks first)) (let f : first + j + (cap - (first + j)) ≡ cap = omega (arith, e, le) in f)
