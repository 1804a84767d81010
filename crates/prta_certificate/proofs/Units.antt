-- Where a list reaches the unit, after an addition and a shift.
use Rattle.std.proofs.Common.{◌≡◌, ℕ, zero, suc, ◌+◌, ◌-◌, ◌*◌, ◌/◌, ◌≤◌, ◌<◌, min, List, [], ◌∷◌, sum_by, length, get_or, ap, ◌∙◌, arith, ⊎_elim, mul-le-mul_left}
use Rattle.std.specs.List.{AllByRecursion as Each}
use Rattle.std.proofs.Math.Nat.{div-lt_iff_lt-mul}
use Rattle.std.proofs.lemmas.List.Sums.{sum_by-cons}
use Rattle.std.proofs.lemmas.Bool.{cases_lt}
use Rattle.prta_mass.specs.Unit.{unit}
use Rattle.prta_mass.specs.declared.direction.Dir.TheVariants.{Up}
use Rattle.prta_mass.specs.Table.{Table, total, greatest, IsTable}
use Rattle.prta_mass.specs.Chances.{at, before, cells_of, IsChances}
use Rattle.prta_mass.proofs.Latest.{times_low}
use Rattle.prta_sheet.specs.Sheet.{Task}
use Rattle.prta_sheet.specs.Job.{Job, table_of}
use Rattle.prta_shift.specs.Shift.{shifted}
use Rattle.prta_shift.proofs.Shifts.{reads_later}
use Rattle.prta_dist.specs.Addition.{weighted, cell_added, added}
use Rattle.prta_dist.proofs.Cells.{at_past, at_limited, length-cells_of, at-cells_of, last-cells_of}
use Rattle.prta_dist.proofs.Chances.{divided_exact, keep_chances}
use Rattle.prta_dist.proofs.Sums.{before_both, before_near, sum_most, sum_all}
use Rattle.prta_backlog.specs.LevelRun.{tables_added}
use Rattle.prta_backlog.specs.Greatest.{greatest_times}
use Rattle.prta_backlog.proofs.Chances.{length-added}

-- below a place no value is the unit; from it on each is
abbrev pub Low : List ℕ → ℕ → Type 0
Low cells b = (k : ℕ) → k < b → at cells k < unit

abbrev pub Full : List ℕ → ℕ → Type 0
Full cells b = (k : ℕ) → b ≤ k → at cells k ≡ unit

-- the value at any place is that of a cell
pub at_some_cell : (n : ℕ) (F : ℕ → ℕ) (k : ℕ) → 0 < n → at (cells_of n F) k ≡ F (min k (n - 1))
at_some_cell n F k some = ⊎_elim
    (λ (l : k < n). let e : k ≡ min k (n - 1) = omega arith in at-cells_of n F k l ∙ ap F e)
    (λ (l : n ≤ k). let e : n - 1 ≡ min k (n - 1) = omega arith in at_past (cells_of n F) k (omega (arith, length-cells_of n F)) ∙ last-cells_of n F some ∙ ap F e)
    (cases_lt k n)

-- ---- one addition

-- a sum of terms of at most m, one of them less
sum_below : (table : Table) (f : ℕ → ℕ) (m i : ℕ) → ((c : ℕ) → f c ≤ m) → i < length table → f (get_or table i (0, 0)).0 < m → 0 < (get_or table i (0, 0)).1 →
    sum_by (λ pair. pair.1 * f pair.0) table < total table * m
sum_below [] f m i most inside less some = absurd (omega arith)
sum_below (pair ∷ table) f m zero most inside less some =
    let next : suc (f pair.0) ≤ m = less in
    omega (
      arith,
      sum_by-cons (λ (p : ℕ × ℕ). p.1 * f p.0) pair table,
      ap (λ s. s * m) (sum_by-cons (λ (p : ℕ × ℕ). p.1) pair table),
      sum_most table f m most,
      mul-le-mul_left pair.1 next,
    )
sum_below (pair ∷ table) f m (suc i) most inside less some = omega (
  arith,
  sum_by-cons (λ (p : ℕ × ℕ). p.1 * f p.0) pair table,
  ap (λ s. s * m) (sum_by-cons (λ (p : ℕ × ℕ). p.1) pair table),
  sum_below table f m i most (omega arith) less some,
  mul-le-mul_left pair.1 (most pair.0),
)

module _ (table : Table) (cells : List ℕ) (b : ℕ) (is : IsTable table) where
  cell_low : (k : ℕ) → IsChances cells → Low cells b → k < b + greatest table → cell_added Up table cells k < unit
  cell_low k chances low near =
      let most : (c : ℕ) → before (at cells) k c ≤ unit = λ c. before_both (λ x. x ≤ unit) (at cells) k c (λ inside. at_limited cells (k - c) chances) (λ outside. omega arith) in
      let less : before (at cells) k (greatest table) < unit = before_both (λ x. x < unit) (at cells) k (greatest table) (λ inside. low (k - greatest table) (omega arith)) (λ outside. omega arith) in
      let end : length table - 1 < length table = omega (arith, is.some) in
      let sum : weighted table cells k < total table * unit = sum_below table (before (at cells) k) unit (length table - 1) most end less (is.positive_weights (length table - 1) (0, 0) end) in
      (div-lt_iff_lt-mul is.weighs).1 (omega arith)

  cell_full : (k : ℕ) → Full cells b → b + greatest table ≤ k → cell_added Up table cells k ≡ unit
  cell_full k full far =
      let sum : weighted table cells k ≡ total table * unit =
      sum_all table (before (at cells) k) unit (λ i d h.
      let early = times_low table is i d h in
      before_near (at cells) k _ (omega arith) ∙ full _ (omega arith)) in
      ap (λ x. x / total table) sum ∙ divided_exact Up unit (total table) is.weighs

  low_added : 0 < length cells → IsChances cells → Low cells b → Low (added Up table cells) (b + greatest table)
  low_added some chances low k near =
      let n : ℕ = length cells in
      omega (arith, at_some_cell n (cell_added Up table cells) k some, cell_low (min k (n - 1)) chances low (omega arith))

  full_added : b + greatest table < length cells → Full cells b → Full (added Up table cells) (b + greatest table)
  full_added room full k far =
      let n : ℕ = length cells in
      at_some_cell n (cell_added Up table cells) k (omega arith) ∙ cell_full (min k (n - 1)) full (omega arith)

-- ---- several additions

module _ (tasks : List Task) where
  abbrev Tables : List Job → Type 0
  Tables jobs = Each (λ job. IsTable (table_of tasks job)) jobs

  abbrev with_table : Job → List ℕ → List ℕ
  with_table job cells = added Up (table_of tasks job) cells

  times-cons : (job : Job) (jobs : List Job) → greatest_times tasks (job ∷ jobs) ≡ greatest (table_of tasks job) + greatest_times tasks jobs
  times-cons job jobs = sum_by-cons (λ (j : Job). greatest (table_of tasks j)) job jobs

  pub low_tables : (jobs : List Job) (cells : List ℕ) (b : ℕ) → Tables jobs → 0 < length cells → IsChances cells → Low cells b →
      Low (tables_added Up (table_of tasks) jobs cells) (b + greatest_times tasks jobs)
  low_tables [] cells b are some chances low k near = low k (omega arith)
  low_tables (job ∷ jobs) cells b are some chances low k near =
      low_tables jobs (with_table job cells) (b + greatest (table_of tasks job)) are.1 (omega (arith, length-added Up (table_of tasks job) cells)) (keep_chances Up (table_of tasks job) cells are.0 chances).1
      (low_added (table_of tasks job) cells b are.0 some chances low) k (omega (arith, times-cons job jobs))

  pub full_tables : (jobs : List Job) (cells : List ℕ) (b : ℕ) → Tables jobs → b + greatest_times tasks jobs < length cells → Full cells b →
      Full (tables_added Up (table_of tasks) jobs cells) (b + greatest_times tasks jobs)
  full_tables [] cells b are room full k far = full k (omega arith)
  full_tables (job ∷ jobs) cells b are room full k far =
      full_tables jobs (with_table job cells) (b + greatest (table_of tasks job)) are.1 (omega (arith, times-cons job jobs, length-added Up (table_of tasks job) cells))
      (full_added (table_of tasks job) cells b are.0 (omega (arith, times-cons job jobs)) full) k (omega (arith, times-cons job jobs))

-- ---- a shift

pub low_shifted : (cells : List ℕ) (t b : ℕ) → 0 < length cells → Low cells b → Low (shifted t cells) (b - t)
low_shifted cells t b some low k near = omega (arith, reads_later t cells k some, low (k + t) (omega arith))

pub full_shifted : (cells : List ℕ) (t b : ℕ) → 0 < length cells → Full cells b → Full (shifted t cells) (b - t)
full_shifted cells t b some full k far = reads_later t cells k some ∙ full (k + t) (omega arith)

-- a list without the unit below its end has none at all
pub low_past : (cells : List ℕ) (b c : ℕ) → 0 < length cells → length cells ≤ b → Low cells b → Low cells c
low_past cells b c some past low k near = ⊎_elim
    (λ (l : k < length cells). low k (omega arith))
    (λ (l : length cells ≤ k). omega (arith, at_past cells k (omega arith), at_past cells (length cells - 1) (omega arith), low (length cells - 1) (omega arith)))
    (cases_lt k (length cells))
