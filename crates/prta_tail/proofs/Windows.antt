-- The jobs of a later hyperperiod, and the backlog over it.
use Rattle.std.proofs.Common.{◌≡◌, ℕ, zero, suc, ◌+◌, ◌-◌, ◌*◌, ◌≤◌, ◌<◌, max, true, false, cond, List, [], ◌∷◌, ◌++◌, map, filter, length, All, refl, ap, ap₂, sym, ◌∙◌, subst, arith, ⊎_elim, zero-add}
use Rattle.std.specs.List.{AllByRecursion as Each}
use Rattle.std.proofs.lemmas.List.{map-append}
use Rattle.std.proofs.lemmas.List.Elements.{filter-append}
use Rattle.std.proofs.lemmas.List.Sums.{sum_by-cons}
use Rattle.std.proofs.lemmas.Bool.{cases_lt}
use Rattle.prta_mass.specs.Table.{Table, IsTable, greatest}
use Rattle.prta_sheet.specs.Sheet.{Task, cycle_ticks, hyperperiod}
use Rattle.prta_sheet.specs.Job.{Job, table_of, released_at, jobs_before}
use Rattle.prta_sheet.specs.Assignment.{Timed}
use Rattle.prta_sheet.specs.Weights.{jobs_of}
use Rattle.prta_sheet.proofs.Each.{Each-append, Each-weaker}
use Rattle.prta_sheet.proofs.Sums.{sum_by-map}
use Rattle.prta_jobs.specs.Backlog.{backlog_at}
use Rattle.prta_ticksim.proofs.Each.{Pairs, Pairs-weaker, Pairs-filter}
use Rattle.prta_ticksim.proofs.JobOrder.{InOrder, IsBefore, before_is, before_in_order}
use Rattle.prta_ticksim.proofs.Sums.{sum_by-filter}
use Rattle.prta_ticksim.proofs.TimeOf.{time_of}
use Rattle.prta_backlog.specs.Level.{Level, has_task, level_before}
use Rattle.prta_backlog.specs.Greatest.{greatest_times, worst_backlog}
use Rattle.prta_backlog.specs.Laws.{HaveTables}
use Rattle.prta_backlog.proofs.Released.{on_sheet, Each-filter, job_table}
use Rattle.prta_backlog.proofs.Walks.{work_at}
use Rattle.prta_response.specs.Backlog.{level_backlog}
use Rattle.prta_response.proofs.Backlogs.{of_level, level_falls, level_rises}
use Rattle.prta_response.proofs.Copies.{later, table_later, jobs_later, kept_later}
use Rattle.prta_response.proofs.JobsFrom.{jobs_from, jobs_split, IsWithin, each_within}
use Rattle.prta_response.proofs.Released.{released_then}
use Rattle.prta_certificate.proofs.Walks.{now, times_at, now_suc}
use Rattle.prta_tail.proofs.Products.{product}
use Rattle.prta_tail.proofs.Worth.{left}

-- ---- the jobs of a window

-- the level's jobs released in the n ticks from a time on
abbrev pub window : List Task → Level → ℕ → ℕ → List Job
window tasks level s n = filter (of_level level) (jobs_from tasks s n)

pub window_split : (tasks : List Task) (level : Level) (s n : ℕ) → level_before tasks level (s + n) ≡ level_before tasks level s ++ window tasks level s n
window_split tasks level s n = ap (filter (of_level level)) (jobs_split tasks s n) ∙ filter-append (of_level level) (jobs_before tasks s) (jobs_from tasks s n)

window_first : (tasks : List Task) (level : Level) (n : ℕ) → window tasks level 0 n ≡ level_before tasks level n
window_first tasks level n = sym (window_split tasks level 0 n) ∙ ap (level_before tasks level) (zero-add n)

pub window_within : (tasks : List Task) (level : Level) (s n : ℕ) → Each (IsWithin s n) (window tasks level s n)
window_within tasks level s n = Each-filter (IsWithin s n) (of_level level) (jobs_from tasks s n) (each_within tasks s n)

released_listed : (tasks : List Task) (t : ℕ) → Each (λ job. job.task < length tasks) (released_at 0 tasks t)
released_listed tasks t = Each-weaker (λ (job : Job). job.task < 0 + length tasks) _ (λ job low. omega arith) (released_at 0 tasks t) (on_sheet 0 tasks t)

from_listed : (tasks : List Task) (s n : ℕ) → Each (λ job. job.task < length tasks) (jobs_from tasks s n)
from_listed tasks s zero = tt
from_listed tasks s (suc n) = Each-append _ (jobs_from tasks s n) (released_at 0 tasks (s + n)) (from_listed tasks s n) (released_listed tasks (s + n))

pub window_listed : (tasks : List Task) (level : Level) (s n : ℕ) → Each (λ job. job.task < length tasks) (window tasks level s n)
window_listed tasks level s n = Each-filter _ (of_level level) (jobs_from tasks s n) (from_listed tasks s n)

pub before_listed : (tasks : List Task) (level : Level) (n : ℕ) → Each (λ job. job.task < length tasks) (level_before tasks level n)
before_listed tasks level n = subst (Each (λ (job : Job). job.task < length tasks)) (window_first tasks level n) (window_listed tasks level 0 n)

pub are_tables : (tasks : List Task) → HaveTables tasks → (jobs : List Job) → Each (λ job. job.task < length tasks) jobs → Each (λ job. IsTable (table_of tasks job)) jobs
are_tables tasks have jobs listed = Each-weaker (λ (job : Job). job.task < length tasks) _ (λ job low. job_table tasks job have low) jobs listed

Pairs-right : {X : Type 0} (R : X → X → Type 0) (xs ys : List X) → Pairs R (xs ++ ys) → Pairs R ys
Pairs-right R [] ys h = h
Pairs-right R (x ∷ xs) ys h = Pairs-right R xs ys h.1

abbrev pub ByRelease : Job → Job → Type 0
ByRelease a b = a.release ≤ b.release

pub window_in_order : (tasks : List Task) (level : Level) (s n : ℕ) → Pairs ByRelease (window tasks level s n)
window_in_order tasks level s n =
    Pairs-filter (of_level level) ByRelease (jobs_from tasks s n)
    (Pairs-weaker (IsWithin s n) InOrder ByRelease (λ a b p q h. h.0) (jobs_from tasks s n) (each_within tasks s n)
    (Pairs-right InOrder (jobs_before tasks s) (jobs_from tasks s n) (subst (Pairs InOrder) (jobs_split tasks s n) (before_in_order tasks (s + n)))))

-- ---- a later hyperperiod has the copies of the jobs of the first

module _ (tasks : List Task) (short : All (λ task. task.offset < task.period) tasks) (cycles : All (λ task. 1 ≤ cycle_ticks task) tasks) (level : Level) (m : ℕ) where
  abbrev copy : Job → Job
  copy = later tasks short cycles m

  abbrev hyper : ℕ
  hyper = hyperperiod tasks

  pub window_later : window tasks level (m * hyper) hyper ≡ map copy (level_before tasks level hyper)
  window_later =
      ap (λ s. window tasks level s hyper) (sym (zero-add (m * hyper)))
      ∙ ap (filter (of_level level)) (jobs_later tasks short cycles m 0 hyper)
      ∙ kept_later tasks short cycles m (has_task level) (jobs_from tasks 0 hyper)
      ∙ ap (map copy) (window_first tasks level hyper)

  product_later : (f : Table → ℕ) (jobs : List Job) → Each (λ job. job.task < length tasks) jobs → product (λ j. f (table_of tasks j)) (map copy jobs) ≡ product (λ j. f (table_of tasks j)) jobs
  product_later f [] listed = refl
  product_later f (job ∷ jobs) listed = ap₂ (λ a b. a * b) (ap f (table_later tasks short cycles m job listed.0)) (product_later f jobs listed.1)

  pub window_product : (f : Table → ℕ) → product (λ j. f (table_of tasks j)) (window tasks level (m * hyper) hyper) ≡ product (λ j. f (table_of tasks j)) (level_before tasks level hyper)
  window_product f = ap (product (λ j. f (table_of tasks j))) window_later ∙ product_later f (level_before tasks level hyper) (before_listed tasks level hyper)

  -- no assignment of a later hyperperiod ends above the backlog of the greatest times
  abbrev longest : Job → Timed
  longest job = record { job = job; time = greatest (table_of tasks job) }

  covers : (y : List Timed) (jobs : List Job) → jobs_of y ≡ map copy jobs → Each (λ job. job.task < length tasks) jobs → Each (λ e. e.time ≤ greatest (table_of tasks e.job)) y →
      (b b' x since t : ℕ) → b ≤ b' → x ≡ since + m * hyper → backlog_at b x y (t + m * hyper) ≤ backlog_at b' since (map longest jobs) t
  covers [] [] eq listed within b b' x since t l e = omega arith
  covers [] (job ∷ jobs) eq listed within b b' x since t l e = absurd (cc)
  covers (y ∷ ys) [] eq listed within b b' x since t l e = absurd (cc)
  covers (y ∷ ys) (job ∷ jobs) eq listed within b b' x since t l e =
      let head : y.job ≡ copy job = cc in
      let rest : jobs_of ys ≡ map copy jobs = cc in
      let table : table_of tasks y.job ≡ table_of tasks job = ap (table_of tasks) head ∙ table_later tasks short cycles m job listed.0 in
      let release : y.job.release ≡ job.release + m * hyper = ap (λ (j : Job). j.release) head in
      let low : y.time ≤ greatest (table_of tasks job) = subst (λ table. y.time ≤ greatest table) table within.0 in
      covers ys jobs rest listed.1 within.1 ((b - (y.job.release - x)) + y.time) ((b' - (job.release - since)) + greatest (table_of tasks job)) y.job.release job.release t (omega arith) release

-- ---- the backlog of the greatest times

module _ (tasks : List Task) (level : Level) where
  abbrev longest_of : Job → Timed
  longest_of job = record { job = job; time = greatest (table_of tasks job) }

  jobs_of-longest : (jobs : List Job) → jobs_of (map longest_of jobs) ≡ jobs
  jobs_of-longest [] = refl
  jobs_of-longest (job ∷ jobs) = ap (λ (js : List Job). job ∷ js) (jobs_of-longest jobs)

  longest-filter : (jobs : List Job) → map longest_of (filter (of_level level) jobs) ≡ filter (λ e. of_level level e.job) (map longest_of jobs)
  longest-filter [] = refl
  longest-filter (job ∷ jobs) =
      elim (of_level level job) as (λ b. map longest_of (cond b (job ∷ filter (of_level level) jobs) (filter (of_level level) jobs)) ≡ cond b (longest_of job ∷ filter (λ e. of_level level e.job) (map longest_of jobs)) (filter (λ e. of_level level e.job) (map longest_of jobs))) [
        | true ↦ ap (λ (es : List Timed). longest_of job ∷ es) (longest-filter jobs)
        | false ↦ longest-filter jobs
      ]

  time_of-longest : (jobs : List Job) → time_of (of_level level) (map longest_of jobs) ≡ greatest_times tasks (filter (of_level level) jobs)
  time_of-longest jobs =
      sum_by-map (λ (e : Timed). cond (of_level level e.job) e.time 0) longest_of jobs
      ∙ sym (sum_by-filter (of_level level) (λ (job : Job). greatest (table_of tasks job)) jobs)

  module _ (apart : level.higher level.own ≡ false) where
    longest_now : (n : ℕ) → level_backlog level (map longest_of (jobs_before tasks n)) n ≡ now tasks level 0 n
    longest_now zero = refl
    longest_now (suc n) =
        let past : List Job = jobs_before tasks n in
        let new : List Job = released_at 0 tasks n in
        let a : List Timed = map longest_of past in
        let y : List Timed = map longest_of new in
        let all : List Timed = map longest_of (past ++ new) in
        let joined : all ≡ a ++ y = map-append longest_of past new in
        let early : Each (λ (job : Job). job.release ≤ n) (filter (of_level level) (past ++ new)) =
        Each-filter _ (of_level level) (past ++ new) (Each-weaker (IsBefore (suc n)) _ (λ job low. omega arith) (past ++ new) (before_is tasks (suc n))) in
        let falls : level_backlog level all (suc n) ≡ level_backlog level all n - (suc n - n) = level_falls level n (suc n) (past ++ new) all (jobs_of-longest (past ++ new)) early (omega arith) in
        let rises : level_backlog level (a ++ y) n ≡ level_backlog level a n + time_of (of_level level) y = level_rises level n new a y (jobs_of-longest new) (released_then tasks n) in
        let times : time_of (of_level level) y ≡ times_at tasks level n = time_of-longest new ∙ work_at tasks level apart n in
        omega (arith, falls, ap (λ es. level_backlog level es n) joined, rises, times, longest_now n, now_suc tasks level 0 n)

    pub longest_ends : backlog_at 0 0 (map longest_of (level_before tasks level (hyperperiod tasks))) (hyperperiod tasks) ≡ worst_backlog tasks level
    longest_ends = ap (λ es. backlog_at 0 0 es (hyperperiod tasks)) (longest-filter (jobs_before tasks (hyperperiod tasks))) ∙ longest_now (hyperperiod tasks)

-- so it ends at the worst-case backlog at most, from an empty start
pub ends_within : (tasks : List Task) (short : All (λ task. task.offset < task.period) tasks) (cycles : All (λ task. 1 ≤ cycle_ticks task) tasks) (level : Level) (m : ℕ) → level.higher level.own ≡ false →
    (y : List Timed) → jobs_of y ≡ window tasks level (m * hyperperiod tasks) (hyperperiod tasks) → Each (λ e. e.time ≤ greatest (table_of tasks e.job)) y →
    backlog_at 0 (m * hyperperiod tasks) y (hyperperiod tasks + m * hyperperiod tasks) ≤ worst_backlog tasks level
ends_within tasks short cycles level m apart y of_y within =
    let hyper : ℕ = hyperperiod tasks in
    subst (λ x. backlog_at 0 (m * hyper) y (hyper + m * hyper) ≤ x) (longest_ends tasks level apart)
    (covers tasks short cycles level m y (level_before tasks level hyper) (of_y ∙ window_later tasks short cycles level m) (before_listed tasks level hyper) within 0 0 (m * hyper) 0 hyper (omega arith) (omega arith))

-- ---- one backlog over a stretch

later_start : (b x s t : ℕ) (y : List Timed) → x ≤ s → Each (λ e. s ≤ e.job.release) y → s ≤ t → backlog_at b x y t ≡ backlog_at (b - (s - x)) s y t
later_start b x s t [] l late m = omega arith
later_start b x s t (e ∷ y) l late m = let from : s ≤ e.job.release = late.0 in ap (λ n. backlog_at (n + e.time) e.job.release y t) (omega arith)

-- a backlog up to s, and on from there
pub backlog_then : (b x s t : ℕ) (a y : List Timed) → x ≤ s → Each (λ e. e.job.release ≤ s) a → Each (λ e. s ≤ e.job.release) y → s ≤ t →
    backlog_at b x (a ++ y) t ≡ backlog_at (backlog_at b x a s) s y t
backlog_then b x s t [] y l early late m = later_start b x s t y l late m
backlog_then b x s t (e ∷ a) y l early late m = backlog_then ((b - (e.job.release - x)) + e.time) e.job.release s t a y early.0 early.1 late m

backlog_rises_with : (b c x t : ℕ) (y : List Timed) → b ≤ c → backlog_at b x y t ≤ backlog_at c x y t
backlog_rises_with b c x t [] l = omega arith
backlog_rises_with b c x t (e ∷ y) l = backlog_rises_with ((b - (e.job.release - x)) + e.time) ((c - (e.job.release - x)) + e.time) e.job.release t y (omega arith)

-- from b a stretch ends at most at b and the work less the time, or where it ends from an empty start
pub ends_at_most : (b s t : ℕ) (y : List Timed) → Pairs (λ a b. a.job.release ≤ b.job.release) y → Each (λ e. s ≤ e.job.release) y → Each (λ e. e.job.release ≤ t) y → s ≤ t →
    backlog_at b s y t ≤ max (b + left y - (t - s)) (backlog_at 0 s y t)
ends_at_most b s t [] order late early m = omega arith
ends_at_most b s t (e ∷ y) order late early m =
    let r : ℕ = e.job.release in
    let from : s ≤ r = late.0 in
    let to : r ≤ t = early.0 in
    let sum : left (e ∷ y) ≡ e.time + left y = sum_by-cons (λ (e : Timed). e.time) e y in
    ⊎_elim
    (λ (l : b < r - s).
    let same : b - (r - s) + e.time ≡ 0 - (r - s) + e.time = omega arith in
    omega (arith, ap (λ n. backlog_at n r y t) same))
    (λ (l : r - s ≤ b).
    let ih : backlog_at (b - (r - s) + e.time) r y t ≤ max (b - (r - s) + e.time + left y - (t - r)) (backlog_at 0 r y t) = ends_at_most (b - (r - s) + e.time) r t y order.1 order.0 early.1 to in
    let up : backlog_at 0 r y t ≤ backlog_at (0 - (r - s) + e.time) r y t = backlog_rises_with 0 (0 - (r - s) + e.time) r t y (omega arith) in
    rw sum (bound b e.time (left y) r s t (backlog_at (b - (r - s) + e.time) r y t) (backlog_at 0 r y t) (backlog_at (0 - (r - s) + e.time) r y t) from to l ih up))
    (cases_lt b (r - s))
  where
    bound : (b c w r s t x z v : ℕ) → s ≤ r → r ≤ t → r - s ≤ b → x ≤ max (b - (r - s) + c + w - (t - r)) z → z ≤ v → x ≤ max (b + (c + w) - (t - s)) v
    bound b c w r s t x z v p q l h g = omega arith
