-- How far the lists of the two directions come apart by one operation: by no more than the amounts that are noted of it.
use Rattle.std.proofs.Common.{◌≡◌, ℕ, ◌+◌, ◌-◌, ◌*◌, ◌/◌, ◌%◌, ◌<◌, ◌≤◌, max, min, Bool, true, false, not, ◌&&◌, nat_le, nat_eq, if◌then◌else◌, List, [], ◌∷◌, length, take, get_or, set, sum_by, refl, ap, sym, ◌∙◌, arith, ⊎_elim, mul-le-mul_left}
use Rattle.std.specs.List.{list_any, range_with_len}
use Rattle.std.proofs.Math.Nat.{mod-lt, div-add-mod'}
use Rattle.std.proofs.lemmas.Bool.{cases_lt, cases_Bool, both_ways, not-false, eqb-true, le-leb, lt-leb, lt-ltb}
use Rattle.std.proofs.lemmas.List.{length-set, length-take-le, get_or-take, get_or-set_same, get_or-set_other}
use Rattle.std.proofs.lemmas.List.Sums.{sum_by-cons}
use Rattle.prta_mass.specs.Unit.{unit}
use Rattle.prta_mass.specs.Table.{Table, total}
use Rattle.prta_mass.specs.Chances.{at, last, before, cells_of}
use Rattle.prta_mass.specs.Direction.{divided}
use Rattle.prta_mass.specs.declared.direction.Dir.TheVariants.{Up, Down}
use Rattle.prta_mass.specs.declared.support.Support.{Support}
use Rattle.prta_sheet.specs.Weights.{one_if}
use Rattle.prta_shift.specs.Shift.{shifted}
use Rattle.prta_shift.proofs.Shifts.{length-shifted, reads_later}
use Rattle.prta_resample.specs.Resample.{resampled, difference, moved_amount}
use Rattle.prta_resample.proofs.Moving.{below_largest}
use Rattle.prta_resample.proofs.Keeping.{length-resampled}
use Rattle.prta_dist.specs.Addition.{weighted, cell_added, cells_added, settled, added, leaves_rest, is_rounded, cut_amount}
use Rattle.prta_dist.proofs.Cells.{at_cell, at_past, length-cells_of, at-cells_of, last-cells_of}
use Rattle.prta_dist.proofs.Sums.{before_near, before_far}
use Rattle.prta_dist.proofs.Chances.{divided_most}
use Rattle.prta_dist.proofs.Windows.{place_of}
use Rattle.prta_preempt.specs.Delay.{delayed_sum, delayed, leaves_rest_above, is_delay_rounded}

-- two lists of one length, at least one cell long: no value of the second is more than e above the first one's
pub record IsNear (e : ℕ) (up down : List ℕ) : Type 0 where
  pub same : length down ≡ length up
  pub some : 0 < length up
  pub near : (k : ℕ) → at down k ≤ at up k + e

pub near_within : (d e : ℕ) (up down : List ℕ) → d ≤ e → IsNear d up down → IsNear e up down
near_within d e up down le h = record { same = h.same; some = h.some; near = λ k. omega (arith, h.near k) }

near_cells : (n m e : ℕ) (F G : ℕ → ℕ) → m ≡ n → 0 < n → ((k : ℕ) → k < n → G k ≤ F k + e) → IsNear e (cells_of n F) (cells_of m G)
near_cells n m e F G same some h = record {
  same = length-cells_of m G ∙ same ∙ sym (length-cells_of n F);
  some = omega (arith, length-cells_of n F);
  near = λ k. ⊎_elim
      (λ (l : k < n). omega (arith, at-cells_of n F k l, at-cells_of m G k (omega arith), h k l))
      (λ (l : n ≤ k).
      let end : G (m - 1) ≡ G (n - 1) = ap (λ i. G (i - 1)) same in
      omega (
        arith,
        at_past (cells_of n F) k (omega (arith, length-cells_of n F)),
        at_past (cells_of m G) k (omega (arith, length-cells_of m G)),
        last-cells_of n F some,
        last-cells_of m G (omega arith),
        h (n - 1) (omega arith),
        end,
      ))
      (cases_lt k n);
}

-- ---- quotients and sums

-- a ceiling above a floor: 1 more where the floor left a rest
near_divided : (rests : Bool) (x y e w : ℕ) → 0 < w → y ≤ x + w * e → (rests ≡ false → x % w ≡ 0) → divided Down y w ≤ divided Up x w + e + one_if rests
near_divided true x y e w some h whole = divided_most Down y (x / w + e + 1) w some (omega (arith, div-add-mod' x w, mod-lt x some))
near_divided false x y e w some h whole = divided_most Down y (x / w + e + 0) w some (omega (arith, div-add-mod' x w, whole refl))

near_sums : (table : Table) (f g : ℕ → ℕ) (e : ℕ) → ((c : ℕ) → g c ≤ f c + e) → sum_by (λ pair. pair.1 * g pair.0) table ≤ sum_by (λ pair. pair.1 * f pair.0) table + total table * e
near_sums [] f g e h = omega arith
near_sums (pair ∷ table) f g e h = omega (
  arith,
  sum_by-cons (λ (p : ℕ × ℕ). p.1 * g p.0) pair table,
  sum_by-cons (λ (p : ℕ × ℕ). p.1 * f p.0) pair table,
  ap (λ s. s * e) (sum_by-cons (λ (p : ℕ × ℕ). p.1) pair table),
  near_sums table f g e h,
  mul-le-mul_left pair.1 (h pair.0),
)

-- where a test holds in no place, it doesn't in this one
fails_at : (p : ℕ → Bool) (n k : ℕ) → k < n → list_any p (range_with_len 0 n) ≡ false → p k ≡ false
fails_at p n k low none = ⊎_elim
    (λ (holds : p k ≡ true). absurd (both_ways (list_any p (range_with_len 0 n)) none (place_of p n k low holds)))
    (λ (fails : p k ≡ false). fails)
    (cases_Bool (p k))

no_rest : (n : ℕ) → not (nat_eq n 0) ≡ false → n ≡ 0
no_rest n e = eqb-true n 0 (not-false (nat_eq n 0) e)

-- ---- an addition

before_apart : (F G : ℕ → ℕ) (e k c : ℕ) → ((k : ℕ) → G k ≤ F k + e) → before G k c ≤ before F k c + e
before_apart F G e k c h = ⊎_elim
    (λ (far : k < c). omega (arith, before_far F k c far, before_far G k c far))
    (λ (near : c ≤ k). omega (arith, before_near F k c near, before_near G k c near, h (k - c)))
    (cases_lt k c)

-- the rule on the last cell raises it to the unit, and no other cell
near_settled : (e : ℕ) (up down : List ℕ) → IsNear e up down → IsNear (e + (unit - last down)) up (settled Down down)
near_settled e up down h =
    let n : ℕ = length down in
    let new : List ℕ = set down (n - 1) unit in
    let same : length down ≡ length up = h.same in
    let some : 0 < length up = h.some in
    let size : length new ≡ n = length-set down (n - 1) unit in
    let top : last new ≡ unit = ap (λ m. get_or new (m - 1) 0) size ∙ get_or-set_same down (n - 1) unit 0 (omega arith) in
    record {
      same = size ∙ same;
      some = some;
      near = λ k. ⊎_elim
          (λ (l : k < n - 1). omega (arith, get_or-set_other down (n - 1) k unit (last new) (omega arith), at_cell down k (last new) (omega arith), h.near k))
          (λ (l : n - 1 ≤ k). omega (arith, at_past new k (omega arith), top, at_past down k l, h.near k))
          (cases_lt k (n - 1));
    }

-- Up's rounding and Down's cut
pub near_added : (table : Table) (e : ℕ) (up down : List ℕ) → 0 < total table → IsNear e up down →
    IsNear (e + one_if (is_rounded table up) + cut_amount Down table down) (added Up table up) (added Down table down)
near_added table e up down weighs h =
    near_settled (e + one_if (is_rounded table up)) (cells_added Up table up) (cells_added Down table down)
    (near_cells (length up) (length down) (e + one_if (is_rounded table up)) (cell_added Up table up) (cell_added Down table down) h.same h.some (λ k low.
    let terms : weighted table down k ≤ weighted table up k + total table * e = near_sums table (before (at up) k) (before (at down) k) e (λ c. before_apart (at up) (at down) e k c h.near) in
    omega (
      arith,
      near_divided (is_rounded table up) (weighted table up k) (weighted table down k) e (total table) weighs terms
          (λ exact. no_rest (weighted table up k % total table) (fails_at (leaves_rest table up) (length up) k low exact)),
    )))

-- ---- a shift and a re-sampling

pub near_shifted : (t e : ℕ) (up down : List ℕ) → IsNear e up down → IsNear e (shifted t up) (shifted t down)
near_shifted t e up down h = record {
  same = length-shifted t down ∙ h.same ∙ sym (length-shifted t up);
  some = omega (arith, length-shifted t up, h.some);
  near = λ k. omega (arith, reads_later t up k h.some, reads_later t down k (omega (arith, h.some, h.same)), h.near (k + t));
}

-- no value moves by more than the moved amount
moved_most : (old new : List ℕ) (k : ℕ) → 0 < length old → length new ≡ length old → difference (at old k) (at new k) ≤ moved_amount old new
moved_most old new k some same =
    let moved : ℕ → ℕ = λ k. difference (at old k) (at new k) in
    ⊎_elim
    (λ (l : k < length old). below_largest (length old) moved k l)
    (λ (l : length old ≤ k).
    let end : ℕ = length old - 1 in
    let was : at old k ≡ at old end = at_past old k (omega arith) ∙ sym (at_past old end (omega arith)) in
    let is : at new k ≡ at new end = at_past new k (omega arith) ∙ sym (at_past new end (omega arith)) in
    omega (arith, was, is, below_largest (length old) moved end (omega arith)))
    (cases_lt k (length old))

-- both moved amounts
pub near_resampled : (s : Support) (e : ℕ) (up down : List ℕ) → IsNear e up down →
    IsNear (e + moved_amount up (resampled Up s up) + moved_amount down (resampled Down s down)) (resampled Up s up) (resampled Down s down)
near_resampled s e up down h =
    let same : length down ≡ length up = h.same in
    let some : 0 < length up = h.some in
    record {
      same = length-resampled Down s down ∙ same ∙ sym (length-resampled Up s up);
      some = omega (arith, length-resampled Up s up);
      near = λ k. omega (
        arith,
        moved_most up (resampled Up s up) k some (length-resampled Up s up),
        moved_most down (resampled Down s down) k (omega arith) (length-resampled Down s down),
        h.near k,
      );
    }

-- ---- a response run

-- the first cells: past the last of them stands its value
at_first : (cells : List ℕ) (d k : ℕ) → d < length cells → at (take (d + 1) cells) k ≡ at cells (min k d)
at_first cells d k low =
    let first : List ℕ = take (d + 1) cells in
    let size : length first ≡ d + 1 = length-take-le (d + 1) cells (omega arith) in
    let inside : (k : ℕ) → k ≤ d → at first k ≡ at cells k = λ k l. get_or-take (d + 1) cells k (last first) (omega arith) ∙ at_cell cells k (last first) (omega arith) in
    ⊎_elim
    (λ (l : d < k). let end : min k d ≡ d = omega arith in at_past first k (omega arith) ∙ sym (at_past first d (omega arith)) ∙ inside d (omega arith) ∙ ap (at cells) (sym end))
    (λ (l : k ≤ d). let here : min k d ≡ k = omega arith in inside k l ∙ ap (at cells) (sym here))
    (cases_lt d k)

pub near_first : (d e : ℕ) (up down : List ℕ) → d < length up → IsNear e up down → IsNear e (take (d + 1) up) (take (d + 1) down)
near_first d e up down low h =
    let same : length down ≡ length up = h.same in
    let size : (cells : List ℕ) → d < length cells → length (take (d + 1) cells) ≡ d + 1 = λ cells l. length-take-le (d + 1) cells (omega arith) in
    record {
      same = size down (omega arith) ∙ sym (size up low);
      some = omega (arith, size up low);
      near = λ k. omega (arith, at_first up d k low, at_first down d k (omega arith), h.near (min k d));
    }

-- Up's rounding
pub near_delayed : (table : Table) (d e : ℕ) (up down : List ℕ) → 0 < total table → IsNear e up down →
    IsNear (e + one_if (is_delay_rounded table d up)) (delayed Up table d up) (delayed Down table d down)
near_delayed table d e up down weighs h =
    let rounds : Bool = is_delay_rounded table d up in
    near_cells (length up) (length down) (e + one_if rounds)
    (λ k. if nat_le k d then at up k else divided Up (delayed_sum table d up k) (total table))
    (λ k. if nat_le k d then at down k else divided Down (delayed_sum table d down k) (total table)) h.same h.some (λ k low. ⊎_elim
    (λ (late : d < k).
    let terms : delayed_sum table d down k ≤ delayed_sum table d up k + total table * e =
    near_sums table (λ c. at up (max (k - c) d)) (λ c. at down (max (k - c) d)) e (λ c. h.near (max (k - c) d)) in
    let exact : rounds ≡ false → delayed_sum table d up k % total table ≡ 0 = λ none.
    no_rest (delayed_sum table d up k % total table) (ap (λ b. b && not (nat_eq (delayed_sum table d up k % total table) 0)) (sym (lt-ltb d k late)) ∙ fails_at (leaves_rest_above table d up) (length up) k low none) in
    rw (lt-leb k d late) (omega (arith, near_divided rounds (delayed_sum table d up k) (delayed_sum table d down k) e (total table) weighs terms exact)))
    (λ (early : k ≤ d). rw (le-leb k d early) (omega (arith, h.near k)))
    (cases_lt d k))
