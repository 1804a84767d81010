-- The operations, level runs and images keep dominance.
use Rattle.std.proofs.Common.{◌≡◌, ℕ, zero, suc, ◌+◌, ◌-◌, ◌≤◌, ◌<◌, Bool, true, false, cond, nat_le, List, [], ◌∷◌, length, get_or, set, refl, ap, sym, ◌∙◌, subst, arith, ⊎_elim, Option, Some, None}
use Rattle.std.specs.List.{AllByRecursion as Each}
use Rattle.std.proofs.lemmas.List.{get_or_default, length-set, get_or-set_same, get_or-set_other}
use Rattle.std.proofs.lemmas.Bool.{cases_lt}
use Rattle.prta_mass.specs.Unit.{unit}
use Rattle.prta_mass.specs.declared.direction.Dir.{Dir}
use Rattle.prta_mass.specs.declared.direction.Dir.TheVariants.{Up, Down}
use Rattle.prta_mass.specs.declared.support.Support.{Support}
use Rattle.prta_mass.specs.Table.{Table, total, IsTable}
use Rattle.prta_mass.specs.Chances.{at, before, cells_of}
use Rattle.prta_sheet.specs.Sheet.{Task}
use Rattle.prta_sheet.specs.Job.{Job, table_of}
use Rattle.prta_shift.specs.Shift.{shifted}
use Rattle.prta_resample.specs.Resample.{read_place, resampled}
use Rattle.prta_dist.specs.Addition.{weighted, cell_added, settled, added}
use Rattle.prta_dist.proofs.Cells.{at_past, length-cells_of, at-cells_of, last-cells_of}
use Rattle.prta_dist.proofs.Sums.{sum_rises}
use Rattle.prta_dist.proofs.Chances.{divided_rises}
use Rattle.prta_backlog.specs.Level.{Level, level_at, is_quiet}
use Rattle.prta_backlog.specs.LevelRun.{RunState, tables_added, kept, found_at, after_instant, level_run}
use Rattle.prta_backlog.specs.Laws.{HaveTables, DominatesAlike, OperationsKeepDominance, RunsKeepDominance, ImagesKeepDominance}
use Rattle.prta_backlog.proofs.Released.{level_tables}

alike_cells : (n m : ℕ) (F G : ℕ → ℕ) → n ≡ m → 0 < n → ((k : ℕ) → k < n → F k ≤ G k) → DominatesAlike (cells_of n F) (cells_of m G)
alike_cells n m F G same some h = record {
  same = length-cells_of n F ∙ same ∙ sym (length-cells_of m G);
  some = omega (arith, length-cells_of n F);
  dominates = λ k. ⊎_elim
      (λ (l : k < n). omega (arith, at-cells_of n F k l, at-cells_of m G k (omega arith), h k l))
      (λ (l : n ≤ k).
      let end : G (m - 1) ≡ G (n - 1) = ap (λ i. G (i - 1)) (sym same) in
      omega (
        arith,
        at_past (cells_of n F) k (omega (arith, length-cells_of n F)),
        at_past (cells_of m G) k (omega (arith, length-cells_of m G)),
        last-cells_of n F some,
        last-cells_of m G (omega arith),
        h (n - 1) (omega arith),
        end,
      ))
      (cases_lt k n);
}

-- ---- the operations

at_set_before : (cells : List ℕ) (k : ℕ) → k < length cells - 1 → at (set cells (length cells - 1) unit) k ≡ at cells k
at_set_before cells k h = get_or-set_other cells (length cells - 1) k unit _ (omega arith) ∙ get_or_default cells k _ _ (omega arith)

at_set_last : (cells : List ℕ) (k : ℕ) → 0 < length cells → length cells - 1 ≤ k → at (set cells (length cells - 1) unit) k ≡ unit
at_set_last cells k some h =
    let ended : List ℕ = set cells (length cells - 1) unit in
    let size : length ended ≡ length cells = length-set cells (length cells - 1) unit in
    at_past ended k (omega arith) ∙ ap (λ m. get_or ended (m - 1) 0) size ∙ get_or-set_same cells (length cells - 1) unit 0 (omega arith)

alike_settled : (dir : Dir) (x y : List ℕ) → DominatesAlike x y → DominatesAlike (settled dir x) (settled dir y)
alike_settled Up x y h = h
alike_settled Down x y h =
    let same : length x ≡ length y = h.same in
    let some : 0 < length x = h.some in
    record {
      same = length-set x (length x - 1) unit ∙ same ∙ sym (length-set y (length y - 1) unit);
      some = omega (arith, length-set x (length x - 1) unit);
      dominates = λ k. ⊎_elim
          (λ (l : k < length x - 1). omega (arith, at_set_before x k l, at_set_before y k (omega arith), h.dominates k))
          (λ (l : length x - 1 ≤ k). omega (arith, at_set_last x k some l, at_set_last y k (omega arith) (omega arith)))
          (cases_lt k (length x - 1));
    }

before_le : (F G : ℕ → ℕ) (k c : ℕ) → ((k : ℕ) → F k ≤ G k) → before F k c ≤ before G k c
before_le F G k c h = elim (nat_le c k) as (λ b. cond b (F (k - c)) 0 ≤ cond b (G (k - c)) 0) [ true ↦ h (k - c) | false ↦ omega arith ]

pub alike_added : (dir : Dir) (table : Table) (x y : List ℕ) → 0 < total table → DominatesAlike x y → DominatesAlike (added dir table x) (added dir table y)
alike_added dir table x y some h =
    alike_settled dir (cells_of (length x) (cell_added dir table x)) (cells_of (length y) (cell_added dir table y))
    (alike_cells (length x) (length y) (cell_added dir table x) (cell_added dir table y) h.same h.some (λ k l.
    divided_rises dir (weighted table x k) (weighted table y k) (total table) some
    (sum_rises table (before (at x) k) (before (at y) k) (λ c. before_le (at x) (at y) k c h.dominates))))

pub alike_shifted : (t : ℕ) (x y : List ℕ) → DominatesAlike x y → DominatesAlike (shifted t x) (shifted t y)
alike_shifted t x y h = alike_cells (length x) (length y) (λ k. at x (k + t)) (λ k. at y (k + t)) h.same h.some (λ k l. h.dominates (k + t))

pub alike_resampled : (dir : Dir) (support : Support) (x y : List ℕ) → DominatesAlike x y → DominatesAlike (resampled dir support x) (resampled dir support y)
alike_resampled dir s x y h =
    alike_cells (length x) (length y) (λ k. at x (read_place dir s (length x) k)) (λ k. at y (read_place dir s (length y) k)) h.same h.some
    (λ k l. subst (λ n. at x (read_place dir s (length x) k) ≤ at y (read_place dir s n k)) h.same (h.dominates (read_place dir s (length x) k)))

pub operations_keep_dominance : OperationsKeepDominance
operations_keep_dominance dir x y h = record {
  addition = λ table some. alike_added dir table x y some h;
  shift = λ t. alike_shifted t x y h;
  resampling = λ support. alike_resampled dir support x y h;
}

-- ---- level runs

pub alike_tables : (dir : Dir) (table : Job → Table) (jobs : List Job) (x y : List ℕ) → Each (λ job. IsTable (table job)) jobs → DominatesAlike x y →
    DominatesAlike (tables_added dir table jobs x) (tables_added dir table jobs y)
alike_tables dir table [] x y are h = h
alike_tables dir table (job ∷ jobs) x y are h =
    let one : IsTable (table job) = are.0 in
    alike_tables dir table jobs (added dir (table job) x) (added dir (table job) y) are.1 (alike_added dir (table job) x y one.weighs h)

-- two runs at one time, of which the first one's list dominates the second's
pub record RunsAlike (x y : RunState) : Type 0 where
  pub cells : DominatesAlike x.cells y.cells
  pub since : x.since ≡ y.since
  pub begun : x.begun ≡ y.begun

alike_sampled : (dir : Dir) (s : Support) (b c : Bool) (x y : List ℕ) → b ≡ c → DominatesAlike x y → DominatesAlike (cond b (resampled dir s x) x) (cond c (resampled dir s y) y)
alike_sampled dir s b c x y e h =
    subst (λ c. DominatesAlike (cond b (resampled dir s x) x) (cond c (resampled dir s y) y)) e
    (elim b as (λ b. DominatesAlike (cond b (resampled dir s x) x) (cond b (resampled dir s y) y)) [ true ↦ alike_resampled dir s x y h | false ↦ h ])

alike_kept : (dir : Dir) (support : Option Support) (x y : RunState) → RunsAlike x y → DominatesAlike (kept dir support x) (kept dir support y)
alike_kept dir None x y h = h.cells
alike_kept dir (Some s) x y h = alike_sampled dir s x.begun y.begun x.cells y.cells h.begun h.cells

alike_found : (dir : Dir) (support : Option Support) (x y : RunState) (t : ℕ) → RunsAlike x y → DominatesAlike (found_at dir support x t) (found_at dir support y t)
alike_found dir support x y t h =
    subst (λ s. DominatesAlike (found_at dir support x t) (shifted (t - s) (kept dir support y))) h.since
    (alike_shifted (t - x.since) (kept dir support x) (kept dir support y) (alike_kept dir support x y h))

module _ (dir : Dir) (tasks : List Task) (level : Level) (support : Option Support) (have : HaveTables tasks) where
  alike_instant : (x y : RunState) (t : ℕ) → RunsAlike x y → RunsAlike (after_instant dir tasks level support x t) (after_instant dir tasks level support y t)
  alike_instant x y t h = record {
    cells = alike_tables dir (table_of tasks) (level_at tasks level t) (found_at dir support x t) (found_at dir support y t) (level_tables tasks level t have) (alike_found dir support x y t h);
    since = refl;
    begun = refl;
  }

  pub alike_runs : (x y : List ℕ) (base n : ℕ) → DominatesAlike x y → RunsAlike (level_run dir tasks level support x base n) (level_run dir tasks level support y base n)
  alike_runs x y base zero h = record { cells = h; since = refl; begun = refl }
  alike_runs x y base (suc n) h =
      let low : RunState = level_run dir tasks level support x base n in
      let high : RunState = level_run dir tasks level support y base n in
      let both : RunsAlike low high = alike_runs x y base n h in
      elim (is_quiet tasks level (base + n)) as (λ b. RunsAlike (cond b low (after_instant dir tasks level support low (base + n))) (cond b high (after_instant dir tasks level support high (base + n)))) [
        | true ↦ both
        | false ↦ alike_instant low high (base + n) both
      ]

pub runs_keep_dominance : RunsKeepDominance
runs_keep_dominance dir tasks level support x y base n have h = (alike_runs dir tasks level support have x y base n h).cells

pub images_keep_dominance : ImagesKeepDominance
images_keep_dominance tasks level hyperperiod x y have h =
    let low : RunState = level_run Up tasks level None x 0 hyperperiod in
    let high : RunState = level_run Up tasks level None y 0 hyperperiod in
    let both : RunsAlike low high = alike_runs Up tasks level None have x y 0 hyperperiod h in
    subst (λ s. DominatesAlike (shifted (hyperperiod - low.since) low.cells) (shifted (hyperperiod - s) high.cells)) both.since (alike_shifted (hyperperiod - low.since) low.cells high.cells both.cells)
