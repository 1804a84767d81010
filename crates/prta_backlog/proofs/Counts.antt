-- Counts of jobs, and of entries: the room is enough.
use Rattle.std.proofs.Common.{◌≡◌, ℕ, zero, suc, ◌+◌, ◌-◌, ◌*◌, ◌/◌, ◌≤◌, ◌<◌, Bool, true, false, not, ◌&&◌, cond, nat_le, nat_lt, nat_eq, Option, List, [], ◌∷◌, ◌++◌, filter, sum_by, length, refl, ap, ap₂, sym, ◌∙◌, subst, arith, inl, inr, mul-le-mul_right}
use Rattle.std.specs.List.{AllByRecursion as Each}
use Rattle.std.proofs.Math.Nat.{div-mul-le_self}
use Rattle.std.proofs.lemmas.List.{length-append}
use Rattle.std.proofs.lemmas.List.Sums.{sum_by-cons, length-filter}
use Rattle.std.proofs.lemmas.List.Elements.{filter-append}
use Rattle.std.proofs.lemmas.Bool.{cases_lt, cond_both, lt-ltb, le-ltb, lt-leb, le-leb, ne_eqb, cond-true, cond-false, eqb-true, eqb-false, and_parts, and_from}
use Rattle.prta_mass.specs.declared.direction.Dir.{Dir}
use Rattle.prta_mass.specs.declared.direction.Dir.TheVariants.{Up, Down}
use Rattle.prta_mass.specs.declared.support.Support.{Support}
use Rattle.prta_sheet.specs.Sheet.{Task, Sheet, task_at, hyperperiod, horizon}
use Rattle.prta_sheet.specs.Job.{Job, nth_job, deadline_of, is_release, released_by, released_at, jobs_before}
use Rattle.prta_sheet.specs.Counts.{releases, all_jobs}
use Rattle.prta_sheet.specs.Work.{between}
use Rattle.prta_sheet.specs.Weights.{one_if}
use Rattle.prta_sheet.specs.Accepted.{IsAccepted}
use Rattle.prta_sheet.proofs.Each.{Each-append, Each-weaker}
use Rattle.prta_sheet.proofs.Below.{sum_below, sum_below-same, sum_below-constant}
use Rattle.prta_sheet.proofs.JobSums.{jobs_sum, length_sum}
use Rattle.prta_resample.proofs.Moving.{below_largest}
use Rattle.prta_mass.specs.Chances.{point}
use Rattle.prta_backlog.specs.Level.{Level, has_task, higher_at, own_at, level_at, is_quiet, level_before, delaying}
use Rattle.prta_backlog.specs.LevelRun.{level_run}
use Rattle.prta_backlog.specs.Entries.{Operation, operations_of, operations_at, operations, noted_at, named_job, level_entries_at, level_entries, run_end}
use Rattle.prta_backlog.specs.Room.{own_jobs, jobs_between}
use Rattle.prta_backlog.specs.Laws.{entry_count, delay_count, RoomIsEnough}
use Rattle.prta_backlog.proofs.Released.{job_at}
use Rattle.prta_backlog.proofs.Notes.{length-noted, count_operations}
use Rattle.prta_backlog.proofs.Walks.{sum_parts}

-- ---- the jobs of other tasks

abbrev pub is_other : ℕ → Job → Bool
is_other i job = not (nat_eq job.task i)

-- a number for each task but one
pub others_is : (tasks : List Task) (i t : ℕ) → length (filter (λ job. not (nat_eq job.task i)) (jobs_before tasks t)) ≡ sum_below (λ m. cond (nat_eq m i) 0 (releases (task_at tasks m) t)) (length tasks)
others_is tasks i t =
    length-filter (is_other i) (jobs_before tasks t)
    ∙ jobs_sum (λ job. one_if (is_other i job)) tasks t
    ∙ sum_below-same _ _ (length tasks) (λ m low. one_task (nat_eq m i) (releases (task_at tasks m) t))
  where
    one_task : (b : Bool) (n : ℕ) → sum_below (λ k. one_if (not b)) n ≡ cond b 0 n
    one_task true n = sum_below-constant 0 n ∙ omega arith
    one_task false n = sum_below-constant 1 n ∙ omega arith

filter_each : {X : Type 0} (p q : X → Bool) (xs : List X) → Each (λ x. p x ≡ q x) xs → filter p xs ≡ filter q xs
filter_each p q [] h = refl
filter_each p q (x ∷ xs) h = ap₂ (λ b ys. cond b (x ∷ ys) ys) h.0 (filter_each p q xs h.1)

-- the jobs released at a time
at_time : (i : ℕ) (tasks : List Task) (t : ℕ) → Each (λ job. job.release ≡ t) (released_at i tasks t)
at_time i [] t = tt
at_time i (task ∷ tasks) t =
    Each-append _ (released_by i task t) (released_at (i + 1) tasks t)
    (elim (is_release task t) as (λ b. Each (λ job. job.release ≡ t) (cond b (job_at i task t ∷ []) [])) [ true ↦ (refl, tt) | false ↦ tt ])
    (at_time (i + 1) tasks t)

abbrev late : ℕ → ℕ → Job → Bool
late i r job = not (nat_eq job.task i) && nat_lt r job.release

and_false : (a b : Bool) → b ≡ false → (a && b) ≡ false
and_false true b e = e
and_false false b e = refl

and_true : (a b : Bool) → b ≡ true → (a && b) ≡ a
and_true true b e = e
and_true false b e = refl

filter_nothing : {X : Type 0} (xs : List X) → filter (λ x. false) xs ≡ []
filter_nothing [] = refl
filter_nothing (x ∷ xs) = filter_nothing xs

-- none is released after r up to r
none_late : (tasks : List Task) (i r t : ℕ) → t ≤ r + 1 → filter (late i r) (jobs_before tasks t) ≡ []
none_late tasks i r zero low = refl
none_late tasks i r (suc t) low =
    let now : filter (late i r) (released_at 0 tasks t) ≡ [] =
    filter_each (late i r) (λ job. false) (released_at 0 tasks t)
    (Each-weaker (λ (job : Job). job.release ≡ t) _ (λ job e. and_false (not (nat_eq job.task i)) (nat_lt r job.release) (ap (nat_lt r) e ∙ le-ltb r t (omega arith))) (released_at 0 tasks t) (at_time 0 tasks t))
    ∙ filter_nothing (released_at 0 tasks t) in
    filter-append (late i r) (jobs_before tasks t) (released_at 0 tasks t) ∙ ap₂ (λ (a b : List Job). a ++ b) (none_late tasks i r t (omega arith)) now

-- those between are those before the end but those before the start
pub count_late : (tasks : List Task) (i r n : ℕ) → length (filter (late i r) (jobs_before tasks (n + (r + 1)))) + length (filter (is_other i) (jobs_before tasks (r + 1))) ≡ length (filter (is_other i) (jobs_before tasks (n + (r + 1))))
count_late tasks i r zero =
    let same : 0 + (r + 1) ≡ r + 1 = omega arith in
    omega (
      arith,
      ap (λ t. length (filter (late i r) (jobs_before tasks t))) same,
      ap length (none_late tasks i r (r + 1) (omega arith)),
      ap (λ t. length (filter (is_other i) (jobs_before tasks t))) same,
    )
count_late tasks i r (suc n) =
    let t : ℕ = n + (r + 1) in
    let next : suc n + (r + 1) ≡ suc t = omega arith in
    let now : filter (late i r) (released_at 0 tasks t) ≡ filter (is_other i) (released_at 0 tasks t) =
    filter_each (late i r) (is_other i) (released_at 0 tasks t)
    (Each-weaker (λ (job : Job). job.release ≡ t) _ (λ job e. and_true (not (nat_eq job.task i)) (nat_lt r job.release) (ap (nat_lt r) e ∙ lt-ltb r t (omega arith))) (released_at 0 tasks t) (at_time 0 tasks t)) in
    omega (
      arith,
      ap (λ t. length (filter (late i r) (jobs_before tasks t))) next,
      ap (λ t. length (filter (is_other i) (jobs_before tasks t))) next,
      ap length (filter-append (late i r) (jobs_before tasks t) (released_at 0 tasks t)),
      length-append (filter (late i r) (jobs_before tasks t)) (filter (late i r) (released_at 0 tasks t)),
      ap length (filter-append (is_other i) (jobs_before tasks t) (released_at 0 tasks t)),
      length-append (filter (is_other i) (jobs_before tasks t)) (filter (is_other i) (released_at 0 tasks t)),
      ap length now,
      count_late tasks i r n,
    )

pub count_between : (tasks : List Task) (i k : ℕ) → 1 ≤ (task_at tasks i).deadline →
    length (between tasks (nth_job tasks i k)) + length (filter (is_other i) (jobs_before tasks ((nth_job tasks i k).release + 1)))
    ≡ length (filter (is_other i) (jobs_before tasks ((nth_job tasks i k).release + (task_at tasks i).deadline)))
count_between tasks i k some =
    let r : ℕ = (nth_job tasks i k).release in
    let d : ℕ = (task_at tasks i).deadline in
    let split : (d - 1) + (r + 1) ≡ r + d = omega arith in
    subst (λ t. length (filter (late i r) (jobs_before tasks t)) + length (filter (is_other i) (jobs_before tasks (r + 1))) ≡ length (filter (is_other i) (jobs_before tasks t))) split (count_late tasks i r (d - 1))

-- a job counted before a time is released before it
pub released_before : (task : Task) (k t : ℕ) → k < releases task t → task.offset + k * task.period < t
released_before task k t low = number task.offset task.period low
  where
    number : (o p : ℕ) → k < cond (nat_le t o) 0 ((t - o - 1) / p + 1) → o + k * p < t
    number o p = elim (cases_lt o t) [
      | inl after ↦ λ h.
          let b : nat_le t o ≡ false = lt-leb t o (omega arith) in
          let few : k < (t - o - 1) / p + 1 = subst (λ b. k < cond b 0 ((t - o - 1) / p + 1)) b h in
          let le : k ≤ (t - o - 1) / p = omega arith in
          omega (arith, mul-le-mul_right p le, div-mul-le_self (t - o - 1) p)
      | inr early ↦ λ h.
          let b : nat_le t o ≡ true = le-leb t o (omega arith) in
          let none : k < 0 = subst (λ b. k < cond b 0 ((t - o - 1) / p + 1)) b h in
          absurd (omega arith)
    ]

-- the horizon is short
product_low : (n h : ℕ) → n ≤ 64 → h ≤ 1000000 → n * h ≤ 64000000
product_low n h a b = omega (arith, mul-le-mul_right h a)

pub horizon_low : (sheet : Sheet) → IsAccepted sheet → horizon sheet ≤ 64000000
horizon_low sheet is = product_low sheet.settings.hyperperiods (hyperperiod sheet.tasks) is.settings.hyperperiods_high is.short_hyperperiod

-- ---- the entries of a level run

module _ (tasks : List Task) (level : Level) (apart : level.higher level.own ≡ false) where
  level_count : (t : ℕ) → length (filter (λ job. has_task level job.task) (released_at 0 tasks t)) ≡ length (level_at tasks level t)
  level_count t =
      length_sum (filter (λ (job : Job). has_task level job.task) (released_at 0 tasks t))
      ∙ sum_parts (λ job. 1) (λ j. level.higher j.task) (λ j. nat_eq j.task level.own) not_both (released_at 0 tasks t)
      ∙ ap₂ (λ x y. x + y) (sym (length_sum (higher_at tasks level t))) (sym (length_sum (own_at tasks level t)))
      ∙ sym (length-append (higher_at tasks level t) (own_at tasks level t))
    where
      not_both : (j : Job) → level.higher j.task ≡ true → nat_eq j.task level.own ≡ false
      not_both j h = ne_eqb j.task level.own (λ e. let same : level.higher level.own ≡ true = subst (λ k. level.higher k ≡ true) e h in cc)

  before_suc : (t : ℕ) → length (level_before tasks level (suc t)) ≡ length (level_before tasks level t) + length (level_at tasks level t)
  before_suc t =
      omega (
        arith,
        ap length (filter-append (λ (job : Job). has_task level job.task) (jobs_before tasks t) (released_at 0 tasks t)),
        length-append (level_before tasks level t) (filter (λ (job : Job). has_task level job.task) (released_at 0 tasks t)),
        level_count t,
      )

  -- at most three for each job
  entries_at_low : (dir : Dir) (support : Option Support) (start : List ℕ) (t : ℕ) → length (level_entries_at dir tasks level support start t) ≤ 3 * length (level_at tasks level t)
  entries_at_low dir support start t = by_quiet (is_quiet tasks level t) refl
    where
      by_quiet : (b : Bool) → is_quiet tasks level t ≡ b → length (level_entries_at dir tasks level support start t) ≤ 3 * length (level_at tasks level t)
      by_quiet true e =
          let none : operations_at dir tasks level support start t ≡ [] = cond-true (is_quiet tasks level t) [] (operations_of dir tasks level support (level_run dir tasks level support start 0 t) t) e in
          omega (arith, ap (λ ops. length (noted_at dir tasks level t (1 + length (operations dir tasks level support start t)) ops)) none)
      by_quiet false e =
          let ops : List Operation = operations_of dir tasks level support (level_run dir tasks level support start 0 t) t in
          let all : operations_at dir tasks level support start t ≡ ops = cond-false (is_quiet tasks level t) [] ops e in
          let some : length (level_at tasks level t) ≡ 0 → ⊥ = eqb-false (length (level_at tasks level t)) 0 e in
          omega (
            arith,
            ap (λ ops. length (noted_at dir tasks level t (1 + length (operations dir tasks level support start t)) ops)) all,
            length-noted dir level.own (named_job tasks level t) (1 + length (operations dir tasks level support start t)) ops,
            count_operations dir tasks level support (level_run dir tasks level support start 0 t) t,
            some,
          )

  entries_low : (dir : Dir) (support : Option Support) (start : List ℕ) (t : ℕ) → length (level_entries dir tasks level support start t) ≤ 3 * length (level_before tasks level t)
  entries_low dir support start zero = omega arith
  entries_low dir support start (suc t) =
      omega (
        arith,
        length-append (level_entries dir tasks level support start t) (level_entries_at dir tasks level support start t),
        entries_low dir support start t,
        entries_at_low dir support start t,
        before_suc t,
      )

length-filter_le : {X : Type 0} (p : X → Bool) (xs : List X) → length (filter p xs) ≤ length xs
length-filter_le p [] = omega arith
length-filter_le p (x ∷ xs) = cond_both (p x) (x ∷ filter p xs) (filter p xs) (λ ys. length ys ≤ length (x ∷ xs)) (λ e. omega (arith, length-filter_le p xs)) (λ e. omega (arith, length-filter_le p xs))

-- no fewer jobs before a later time
jobs_rise : (tasks : List Task) (s n : ℕ) → length (jobs_before tasks s) ≤ length (jobs_before tasks (n + s))
jobs_rise tasks s zero = let same : 0 + s ≡ s = omega arith in omega (arith, ap (λ t. length (jobs_before tasks t)) same)
jobs_rise tasks s (suc n) =
    let next : suc n + s ≡ suc (n + s) = omega arith in
    omega (arith, ap (λ t. length (jobs_before tasks t)) next, length-append (jobs_before tasks (n + s)) (released_at 0 tasks (n + s)), jobs_rise tasks s n)

jobs_within : (tasks : List Task) (s t : ℕ) → s ≤ t → length (jobs_before tasks s) ≤ length (jobs_before tasks t)
jobs_within tasks s t le = let split : (t - s) + s ≡ t = omega arith in omega (arith, jobs_rise tasks s (t - s), ap (λ n. length (jobs_before tasks n)) split)

run_end_low : (task : Task) (horizon : ℕ) → run_end task horizon ≤ horizon
run_end_low task horizon = by_count (nat_eq (releases task horizon) 0) refl
  where
    by_count : (b : Bool) → nat_eq (releases task horizon) 0 ≡ b → run_end task horizon ≤ horizon
    by_count true e = omega (arith, cond-true (nat_eq (releases task horizon) 0) 0 (task.offset + (releases task horizon - 1) * task.period + 1) e)
    by_count false e =
        omega (
          arith,
          cond-false (nat_eq (releases task horizon) 0) 0 (task.offset + (releases task horizon - 1) * task.period + 1) e,
          released_before task (releases task horizon - 1) horizon (omega (arith, eqb-false (releases task horizon) 0 e)),
        )

analysis_low : (dir : Dir) (sheet : Sheet) (level : Level) → level.higher level.own ≡ false → entry_count dir sheet level ≤ 3 * all_jobs sheet
analysis_low dir sheet level apart =
    let end : ℕ = run_end (task_at sheet.tasks level.own) (horizon sheet) in
    omega (
      arith,
      entries_low sheet.tasks level apart dir sheet.settings.support (point sheet.settings.cap 0) end,
      length-filter_le (λ (job : Job). has_task level job.task) (jobs_before sheet.tasks end),
      jobs_within sheet.tasks end (horizon sheet) (run_end_low (task_at sheet.tasks level.own) (horizon sheet)),
    )

-- ---- the delays

filter_fewer : {X : Type 0} (p q : X → Bool) (xs : List X) → ((x : X) → p x ≡ true → q x ≡ true) → length (filter p xs) ≤ length (filter q xs)
filter_fewer p q [] h = omega arith
filter_fewer p q (x ∷ xs) h = one_more (p x) (q x) (filter p xs) (filter q xs) (h x) (filter_fewer p q xs h)
  where
    one_more : (a b : Bool) (ys zs : List _) → (a ≡ true → b ≡ true) → length ys ≤ length zs → length (cond a (x ∷ ys) ys) ≤ length (cond b (x ∷ zs) zs)
    one_more true b ys zs goes ih = let yes : b ≡ true = goes refl in rw yes (omega (arith, ih))
    one_more false b ys zs goes ih = elim b as (λ b. length ys ≤ length (cond b (x ∷ zs) zs)) [ true ↦ omega (arith, ih) | false ↦ ih ]

own_only : (i : ℕ) (jobs : List Job) → Each (λ job. job.task ≡ i) (filter (λ job. nat_eq job.task i) jobs)
own_only i [] = tt
own_only i (job ∷ jobs) =
    cond_both (nat_eq job.task i) (job ∷ filter (λ (job : Job). nat_eq job.task i) jobs) (filter (λ (job : Job). nat_eq job.task i) jobs) (Each (λ (job : Job). job.task ≡ i))
    (λ e. (eqb-true job.task i e, own_only i jobs)) (λ e. own_only i jobs)

sum_by-each_le : (f g : Job → ℕ) (jobs : List Job) → Each (λ job. f job ≤ g job) jobs → sum_by f jobs ≤ sum_by g jobs
sum_by-each_le f g [] h = omega arith
sum_by-each_le f g (job ∷ jobs) h = let first : f job ≤ g job = h.0 in omega (arith, sum_by-cons f job jobs, sum_by-cons g job jobs, sum_by-each_le f g jobs h.1, first)

delays_low : (sheet : Sheet) (level : Level) → level.higher level.own ≡ false → delay_count sheet level ≤ jobs_between sheet level.own
delays_low sheet level apart =
    sum_by-each_le _ _ (own_jobs sheet level.own)
    (Each-weaker (λ (job : Job). job.task ≡ level.own) _ (λ job e. one job e) (own_jobs sheet level.own) (own_only level.own (jobs_before sheet.tasks (horizon sheet))))
  where
    fewer : (job other : Job) → job.task ≡ level.own → (level.higher other.task && nat_lt job.release other.release) ≡ true → (not (nat_eq other.task job.task) && nat_lt job.release other.release) ≡ true
    fewer job other e h =
        let parts : (level.higher other.task ≡ true) × (nat_lt job.release other.release ≡ true) = and_parts (level.higher other.task) (nat_lt job.release other.release) h in
        let different : nat_eq other.task job.task ≡ false = ne_eqb other.task job.task (λ same. let own : level.higher level.own ≡ true = subst (λ k. level.higher k ≡ true) (same ∙ e) parts.0 in cc) in
        and_from (not (nat_eq other.task job.task)) (nat_lt job.release other.release) (ap not different) parts.1

    one : (job : Job) → job.task ≡ level.own → length (delaying sheet.tasks level job.release (task_at sheet.tasks level.own).deadline) ≤ length (between sheet.tasks job)
    one job e =
        let until : job.release + (task_at sheet.tasks level.own).deadline ≡ deadline_of sheet.tasks job = ap (λ i. job.release + (task_at sheet.tasks i).deadline) (sym e) in
        omega (
          arith,
          ap (λ t. length (filter (λ other. level.higher other.task && nat_lt job.release other.release) (jobs_before sheet.tasks t))) until,
          filter_fewer (λ other. level.higher other.task && nat_lt job.release other.release) (λ other. not (nat_eq other.task job.task) && nat_lt job.release other.release)
              (jobs_before sheet.tasks (deadline_of sheet.tasks job)) (λ other h. fewer job other e h),
        )

pub room_is_enough : RoomIsEnough
room_is_enough sheet level is low apart =
    omega (
      arith,
      analysis_low Up sheet level apart,
      analysis_low Down sheet level apart,
      delays_low sheet level apart,
      below_largest (length sheet.tasks) (jobs_between sheet) level.own low,
    )
