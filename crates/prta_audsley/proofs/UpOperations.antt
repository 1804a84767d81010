-- The operations in Up: each keeps a list of chances under another one, and raises no cell.
use Rattle.std.proofs.Common.{◌≡◌, ℕ, ◌+◌, ◌-◌, ◌*◌, ◌<◌, ◌≤◌, max, Bool, true, false, nat_le, if◌then◌else◌, Option, Some, None, List, [], ◌∷◌, ◌++◌, filter, fold, length, take, get_or, refl, ap, sym, ◌∙◌, subst, arith, ⊎_elim, le_trans}
use Rattle.std.specs.List.{AllByRecursion as Each}
use Rattle.std.proofs.lemmas.List.{length-take-le, get_or-take}
use Rattle.std.proofs.lemmas.Bool.{cond_both, cases_Bool, cases_lt}
use Rattle.prta_mass.specs.declared.direction.Dir.TheVariants.{Up}
use Rattle.prta_mass.specs.declared.support.Support.{Support}
use Rattle.prta_mass.specs.Table.{Table, total, IsTable}
use Rattle.prta_mass.specs.Chances.{at, before, IsChances, Dominates}
use Rattle.prta_mass.specs.Direction.{divided}
use Rattle.prta_sheet.specs.Job.{Job}
use Rattle.prta_shift.specs.Shift.{shifted}
use Rattle.prta_shift.specs.Laws.{KeptByShift}
use Rattle.prta_shift.proofs.Shifts.{shifts_chances, reads_later}
use Rattle.prta_resample.specs.Resample.{resampled}
use Rattle.prta_resample.specs.Laws.{KeptByResampling}
use Rattle.prta_resample.proofs.Keeping.{resamplings_keep}
use Rattle.prta_dist.specs.Addition.{weighted, cell_added, added}
use Rattle.prta_dist.proofs.Cells.{at_cell, at_past, at_rises, at_limited, at-cells_of, chances_by}
use Rattle.prta_dist.proofs.Sums.{before_both, sum_most, sum_rises}
use Rattle.prta_dist.proofs.Chances.{divided_most, divided_rises, keep_chances}
use Rattle.prta_preempt.specs.Delay.{delayed_sum, delayed}
use Rattle.prta_preempt.specs.Laws.{KeptByDelay}
use Rattle.prta_preempt.proofs.Tails.{keep_chances as delay_keeps}
use Rattle.prta_backlog.specs.LevelRun.{RunState, kept}
use Rattle.prta_backlog.specs.Laws.{DominatesAlike}
use Rattle.prta_backlog.proofs.Chances.{length-added}
use Rattle.prta_backlog.proofs.Dominance.{alike_added, alike_resampled}
use Rattle.prta_response.proofs.Responses.{at-take}

-- two lists of chances of n cells, the first nowhere above the second
pub record Under (n : ℕ) (F G : List ℕ) : Type 0 where
  pub low_size : length F ≡ n
  pub high_size : length G ≡ n
  pub low : IsChances F
  pub high : IsChances G
  pub dominates : Dominates F G

pub under_self : (n : ℕ) (F : List ℕ) → length F ≡ n → IsChances F → Under n F F
under_self n F size is = record { low_size = size; high_size = size; low = is; high = is; dominates = λ k. omega arith }

under_then : (n : ℕ) (E F G : List ℕ) → Under n E F → Under n F G → Under n E G
under_then n E F G p q = record { low_size = p.low_size; high_size = q.high_size; low = p.low; high = q.high; dominates = λ k. le_trans (p.dominates k) (q.dominates k) }

-- what holds of the cells holds past the end
dominates_by : (F G : List ℕ) → length F ≡ length G → 0 < length F → ((k : ℕ) → k < length F → at F k ≤ at G k) → Dominates F G
dominates_by F G same some h k = ⊎_elim
    (λ (l : k < length F). h k l)
    (λ (l : length F ≤ k).
    let end : length F - 1 ≡ length G - 1 = ap (λ n. n - 1) same in
    omega (
      arith,
      at_past F k (omega arith),
      at_past G k (omega arith),
      at_past F (length F - 1) (omega arith),
      at_past G (length F - 1) (omega arith),
      h (length F - 1) (omega arith),
    ))
    (cases_lt k (length F))

-- an operation on lists of n cells
pub record IsUp (n : ℕ) (op : List ℕ → List ℕ) : Type 0 where
  pub keeps : (F G : List ℕ) → Under n F G → Under n (op F) (op G)
  pub lowers : (F : List ℕ) → length F ≡ n → IsChances F → Under n (op F) F

-- ---- additions

cell_lower : (table : Table) (F : List ℕ) (k : ℕ) → IsTable table → IsChances F → cell_added Up table F k ≤ at F k
cell_lower table F k is chances =
    let most : weighted table F k ≤ total table * at F k =
    sum_most table (before (at F) k) (at F k) (λ c. before_both (λ x. x ≤ at F k) (at F) k c (λ near. at_rises F (k - c) k chances.rising (omega arith)) (λ far. omega arith)) in
    divided_most Up (weighted table F k) (at F k) (total table) is.weighs (omega (arith, most))

pub adds : (n : ℕ) (table : Table) → 0 < n → IsTable table → IsUp n (added Up table)
adds n table some is = record {
  keeps = λ F G u.
      let both : DominatesAlike (added Up table F) (added Up table G) =
      alike_added Up table F G is.weighs record { same = u.low_size ∙ sym u.high_size; some = omega (arith, u.low_size); dominates = u.dominates } in
      record {
        low_size = length-added Up table F ∙ u.low_size;
        high_size = length-added Up table G ∙ u.high_size;
        low = (keep_chances Up table F is u.low).1;
        high = (keep_chances Up table G is u.high).1;
        dominates = both.dominates;
      };
  lowers = λ F size chances. record {
    low_size = length-added Up table F ∙ size;
    high_size = size;
    low = (keep_chances Up table F is chances).1;
    high = chances;
    dominates = dominates_by (added Up table F) F (length-added Up table F) (omega (arith, length-added Up table F))
        (λ k l. let low : k < length F = omega (arith, length-added Up table F) in omega (arith, at-cells_of (length F) (cell_added Up table F) k low, cell_lower table F k is chances));
  };
}

-- ---- delays

module _ (n : ℕ) (table : Table) (d : ℕ) (place : d < n) (is : IsTable table) where
  abbrev put_off : List ℕ → List ℕ
  put_off = delayed Up table d

  cell_keeps : (F G : List ℕ) (k : ℕ) → Dominates F G → (if nat_le k d then at F k else divided Up (delayed_sum table d F k) (total table)) ≤ (if nat_le k d then at G k else divided Up (delayed_sum table d G k) (total table))
  cell_keeps F G k h = elim (nat_le k d) as (λ b. (if b then at F k else divided Up (delayed_sum table d F k) (total table)) ≤ (if b then at G k else divided Up (delayed_sum table d G k) (total table))) [
    | true ↦ h k
    | false ↦ divided_rises Up (delayed_sum table d F k) (delayed_sum table d G k) (total table) is.weighs (sum_rises table (λ c. at F (max (k - c) d)) (λ c. at G (max (k - c) d)) (λ c. h (max (k - c) d)))
  ]

  stays : (F : List ℕ) → length F ≡ n → IsChances F → KeptByDelay d F (put_off F)
  stays F size chances = delay_keeps Up table d F is chances (omega arith)

  pub delays : IsUp n put_off
  delays = record {
    keeps = λ F G u.
        let low : KeptByDelay d F (put_off F) = stays F u.low_size u.low in
        let high : KeptByDelay d G (put_off G) = stays G u.high_size u.high in
        record {
          low_size = low.size ∙ u.low_size;
          high_size = high.size ∙ u.high_size;
          low = low.chances;
          high = high.chances;
          dominates = dominates_by (put_off F) (put_off G) (low.size ∙ u.low_size ∙ sym (high.size ∙ u.high_size)) (omega (arith, low.size, u.low_size))
              (λ k l.
              let here : k < length F = omega (arith, low.size) in
              let there : k < length G = omega (arith, u.low_size, u.high_size) in
              omega (
                arith,
                at-cells_of (length F) (λ k. if nat_le k d then at F k else divided Up (delayed_sum table d F k) (total table)) k here,
                at-cells_of (length G) (λ k. if nat_le k d then at G k else divided Up (delayed_sum table d G k) (total table)) k there,
                cell_keeps F G k u.dominates,
              ));
        };
    lowers = λ F size chances.
        let low : KeptByDelay d F (put_off F) = stays F size chances in
        record {
          low_size = low.size ∙ size;
          high_size = size;
          low = low.chances;
          high = chances;
          dominates = dominates_by (put_off F) F low.size (omega (arith, low.size, size)) (λ k l. low.falls k (omega (arith, low.size)));
        };
  }

-- ---- re-samplings

resamples : (n : ℕ) (s : Support) → 0 < n → IsUp n (resampled Up s)
resamples n s some = record {
  keeps = λ F G u.
      let low : KeptByResampling Up F (resampled Up s F) = resamplings_keep Up s F (omega (arith, u.low_size)) u.low in
      let high : KeptByResampling Up G (resampled Up s G) = resamplings_keep Up s G (omega (arith, u.high_size)) u.high in
      let both : DominatesAlike (resampled Up s F) (resampled Up s G) =
      alike_resampled Up s F G record { same = u.low_size ∙ sym u.high_size; some = omega (arith, u.low_size); dominates = u.dominates } in
      record { low_size = low.size ∙ u.low_size; high_size = high.size ∙ u.high_size; low = low.chances; high = high.chances; dominates = both.dominates };
  lowers = λ F size chances.
      let low : KeptByResampling Up F (resampled Up s F) = resamplings_keep Up s F (omega (arith, size)) chances in
      record {
        low_size = low.size ∙ size;
        high_size = size;
        low = low.chances;
        high = chances;
        dominates = dominates_by (resampled Up s F) F low.size (omega (arith, low.size, size)) (λ k l. low.safe k (omega (arith, low.size)));
      };
}

-- what an instant after the first re-samples
abbrev pub sampled : Option Support → List ℕ → List ℕ
sampled None cells = cells
sampled (Some s) cells = resampled Up s cells

pub samples : (n : ℕ) (support : Option Support) → 0 < n → IsUp n (sampled support)
samples n None some = record { keeps = λ F G u. u; lowers = λ F size is. under_self n F size is }
samples n (Some s) some = resamples n s some

pub kept_begun : (support : Option Support) (cells : List ℕ) (since : ℕ) → kept Up support (record { cells = cells; since = since; begun = true }) ≡ sampled support cells
kept_begun None cells since = refl
kept_begun (Some s) cells since = refl

pub kept_lowers : (n : ℕ) (support : Option Support) (run : RunState) → 0 < n → length run.cells ≡ n → IsChances run.cells → Under n (kept Up support run) run.cells
kept_lowers n None run some size is = under_self n run.cells size is
kept_lowers n (Some s) run some size is =
    cond_both run.begun (resampled Up s run.cells) run.cells (λ cells. Under n cells run.cells)
    (λ e. (resamples n s some).lowers run.cells size is)
    (λ e. under_self n run.cells size is)

-- ---- shifts, and the first cells

-- of two lists the one is shifted further, and reads nowhere above the other
pub shifts : (n s t gap : ℕ) (F G : List ℕ) → 0 < n → length F ≡ n → length G ≡ n → IsChances F → IsChances G → ((k : ℕ) → at F k ≤ at G (k + gap)) → s + gap ≡ t → Under n (shifted s F) (shifted t G)
shifts n s t gap F G some low_size high_size low high h e =
    let kept_low : KeptByShift F (shifted s F) = shifts_chances s F low in
    let kept_high : KeptByShift G (shifted t G) = shifts_chances t G high in
    record {
      low_size = kept_low.size ∙ low_size;
      high_size = kept_high.size ∙ high_size;
      low = kept_low.chances;
      high = kept_high.chances;
      dominates = λ k.
          let same : k + s + gap ≡ k + t = omega arith in
          rw (reads_later s F k (omega arith), reads_later t G k (omega arith)) (subst (λ i. at F (k + s) ≤ at G i) same (h (k + s)));
    }

take_chances : (d : ℕ) (F : List ℕ) → d < length F → IsChances F → IsChances (take (d + 1) F)
take_chances d F long is =
    let size : length (take (d + 1) F) ≡ d + 1 = length-take-le (d + 1) F (omega arith) in
    let cell : (k : ℕ) → k ≤ d → get_or (take (d + 1) F) k 0 ≡ at F k = λ k low. get_or-take (d + 1) F k 0 (omega arith) ∙ at_cell F k 0 (omega arith) in
    chances_by (take (d + 1) F)
    (λ i k le h. omega (arith, cell i (omega arith), cell k (omega arith), at_rises F i k is.rising le))
    (λ k h. omega (arith, cell k (omega arith), at_limited F k is))

pub takes : (n d : ℕ) (F G : List ℕ) → d < n → Under n F G → Under (d + 1) (take (d + 1) F) (take (d + 1) G)
takes n d F G low u =
    let size : length (take (d + 1) F) ≡ d + 1 = length-take-le (d + 1) F (omega (arith, u.low_size)) in
    let other : length (take (d + 1) G) ≡ d + 1 = length-take-le (d + 1) G (omega (arith, u.high_size)) in
    record {
      low_size = size;
      high_size = other;
      low = take_chances d F (omega (arith, u.low_size)) u.low;
      high = take_chances d G (omega (arith, u.high_size)) u.high;
      dominates = dominates_by (take (d + 1) F) (take (d + 1) G) (size ∙ sym other) (omega arith)
          (λ k l. omega (arith, at-take F d k (omega arith) (omega (arith, u.low_size)), at-take G d k (omega arith) (omega (arith, u.high_size)), u.dominates k));
    }

-- ---- operations one after the other, for the jobs that pass a test

module _ (n : ℕ) (op : Job → List ℕ → List ℕ) where
  abbrev pub all_done : List Job → List ℕ → List ℕ
  all_done jobs F = fold (λ F job. op job F) F jobs

  one_done : (job : Job) (F G : List ℕ) → IsUp n (op job) → Under n F G → Under n (op job F) G
  one_done job F G up u = under_then n (op job F) F G (up.lowers F u.low_size u.low) u

  -- fewer of them leave a list that is nowhere below
  pub fewer_done : (p q : Job → Bool) → ((j : Job) → q j ≡ true → p j ≡ true) → (jobs : List Job) → Each (λ j. IsUp n (op j)) jobs → (F G : List ℕ) → Under n F G →
      Under n (all_done (filter p jobs) F) (all_done (filter q jobs) G)
  fewer_done p q sub [] up F G u = u
  fewer_done p q sub (job ∷ jobs) up F G u = ⊎_elim
      (λ (in_q : q job ≡ true).
      let in_p : p job ≡ true = sub job in_q in
      rw (in_p, in_q) (fewer_done p q sub jobs up.1 (op job F) (op job G) ((up.0).keeps F G u)))
      (λ (out_q : q job ≡ false). ⊎_elim
      (λ (in_p : p job ≡ true). rw (in_p, out_q) (fewer_done p q sub jobs up.1 (op job F) G (one_done job F G up.0 u)))
      (λ (out_p : p job ≡ false). rw (out_p, out_q) (fewer_done p q sub jobs up.1 F G u))
      (cases_Bool (p job)))
      (cases_Bool (q job))

  pub more_done : (jobs : List Job) → Each (λ j. IsUp n (op j)) jobs → (F G : List ℕ) → Under n F G → Under n (all_done jobs F) G
  more_done [] up F G u = u
  more_done (job ∷ jobs) up F G u = more_done jobs up.1 (op job F) G (one_done job F G up.0 u)

  pub all_done-append : (xs ys : List Job) (F : List ℕ) → all_done (xs ++ ys) F ≡ all_done ys (all_done xs F)
  all_done-append [] ys F = refl
  all_done-append (x ∷ xs) ys F = all_done-append xs ys (op x F)
