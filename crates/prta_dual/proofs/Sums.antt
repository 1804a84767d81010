-- Sums over the entries of an analysis: for a job they add up to what is spent on it.
use Rattle.std.proofs.Common.{◌≡◌, ℕ, zero, suc, ◌+◌, ◌-◌, ◌*◌, ◌<◌, ◌≤◌, min, Bool, true, false, not, ◌&&◌, cond, nat_le, nat_eq, Option, Some, None, List, [], ◌∷◌, ◌++◌, map, filter, length, sum_by, refl, mul-le-mul_right, ap, ap₂, sym, ◌∙◌, arith, ⊎_elim}
use Rattle.std.specs.List.{AllByRecursion as Each, flat_map}
use Rattle.std.proofs.lemmas.Bool.{cases_lt, cond_both, not-false, eqb-true, eq-eqb, ne_eqb, le-leb, lt-leb}
use Rattle.std.proofs.lemmas.List.Elements.{filter-append}
use Rattle.std.proofs.lemmas.List.Sums.{sum_by-cons, sum_by-append}
use Rattle.prta_mass.specs.Table.{Table}
use Rattle.prta_mass.specs.Chances.{point}
use Rattle.prta_mass.specs.declared.direction.Dir.{Dir}
use Rattle.prta_mass.specs.declared.support.Support.{Support}
use Rattle.prta_sheet.specs.Sheet.{Task, Sheet, task_at, horizon}
use Rattle.prta_sheet.specs.Job.{Job, table_of, nth_job, is_release, released_by, released_at, jobs_before}
use Rattle.prta_sheet.specs.Counts.{releases}
use Rattle.prta_sheet.proofs.Each.{Each-append}
use Rattle.prta_sheet.proofs.Below.{sum_below, sum_below-only}
use Rattle.prta_sheet.proofs.WorkSums.{task_sum}
use Rattle.prta_jobs.proofs.NextRelease.{next_release_is}
use Rattle.prta_dist.specs.Addition.{added}
use Rattle.prta_preempt.specs.Delay.{delayed}
use Rattle.prta_ledger.specs.declared.entry.Entry.{Entry}
use Rattle.prta_ledger.specs.declared.entry.Kind.{Kind}
use Rattle.prta_ledger.specs.Sums.{reaches, part_for, sum_for}
use Rattle.prta_backlog.specs.Level.{Level, own_at, level_at, is_quiet}
use Rattle.prta_backlog.specs.LevelRun.{RunState, found_at, level_run}
use Rattle.prta_backlog.specs.Entries.{Operation, additions, samplings, operations_of, operations_at, operations, entry_of, entries_of, noted, named_job, level_entries_at, level_entries, run_end}
use Rattle.prta_backlog.proofs.Counts.{released_before}
use Rattle.prta_backlog.proofs.Released.{Each-filter, job_at}
use Rattle.prta_response.specs.Response.{delaying_jobs, first_cells}
use Rattle.prta_response.specs.Delays.{delays, response_delays, delay_entries}
use Rattle.prta_dual.specs.Entries.{list_after, entries_before, entries_in}
use Rattle.prta_dual.proofs.Amounts.{amount_of, amounts, amounts-cons, amounts-append, spent}
use Rattle.prta_dual.proofs.Stretches.{released_before_end, releases_at_end}

-- ---- the entries of some operations

-- the entries of each amount count by a test of the job that they name and the job that is asked for
abbrev CountBy : (ℕ → ℕ → Bool) → List Operation → Type 0
CountBy test ops = Each (λ op. Each (λ (amount : Kind × ℕ). (named job : ℕ) → reaches amount.0 named job ≡ test named job) op) ops

both_if : (b : Bool) (m n : ℕ) → cond b m 0 + cond b n 0 ≡ cond b (m + n) 0
both_if true m n = refl
both_if false m n = refl

none_if : (b : Bool) (n : ℕ) → n ≡ 0 → cond b n 0 ≡ 0
none_if true n e = e
none_if false n e = refl

module _ (dir : Dir) (task named job : ℕ) (test : ℕ → ℕ → Bool) where
  operation_sum : (op : ℕ) (xs : Operation) → Each (λ (amount : Kind × ℕ). (named job : ℕ) → reaches amount.0 named job ≡ test named job) xs →
      sum_for task job (entries_of dir task named op xs) ≡ cond (test named job) (amount_of xs) 0
  operation_sum op [] h = sym (none_if (test named job) 0 refl)
  operation_sum op (amount ∷ xs) h =
      let entry : Entry = entry_of dir task named op amount in
      let some : Operation = filter (λ amount. not (nat_eq amount.1 0)) xs in
      let part : part_for task job entry ≡ cond (test named job) amount.1 0 = ap₂ (λ x y. cond (x && y) amount.1 0) (eq-eqb task task refl) (h.0 named job) in
      let rest : sum_for task job (entries_of dir task named op xs) ≡ cond (test named job) (amount_of xs) 0 = operation_sum op xs h.1 in
      cond_both (not (nat_eq amount.1 0)) (amount ∷ some) some (λ ys. sum_for task job (map (entry_of dir task named op) ys) ≡ cond (test named job) amount.1 0 + cond (test named job) (amount_of xs) 0)
      (λ e. omega (arith, rest, part, sum_by-cons (part_for task job) entry (entries_of dir task named op xs)))
      (λ e. omega (arith, rest, none_if (test named job) amount.1 (eqb-true amount.1 0 (not-false (nat_eq amount.1 0) e))))
      ∙ both_if (test named job) amount.1 (amount_of xs) ∙ ap (λ n. cond (test named job) n 0) (sym (sum_by-cons (λ (a : Kind × ℕ). a.1) amount xs))

  noted_sum : (from : ℕ) (ops : List Operation) → CountBy test ops → sum_for task job (noted dir task named from ops) ≡ cond (test named job) (amounts ops) 0
  noted_sum from [] h = sym (none_if (test named job) 0 refl)
  noted_sum from (op ∷ ops) h =
      omega (
        arith,
        sum_by-append (part_for task job) (entries_of dir task named from op) (noted dir task named (from + 1) ops),
        operation_sum from op h.0,
        noted_sum (from + 1) ops h.1,
        both_if (test named job) (amount_of op) (amounts ops),
        ap (λ n. cond (test named job) n 0) (amounts-cons op ops),
      )

-- ---- the kinds of operations

additions_count : (dir : Dir) (table : Job → Table) (jobs : List Job) (cells : List ℕ) → CountBy nat_le (additions dir table jobs cells)
additions_count dir table [] cells = tt
additions_count dir table (job ∷ jobs) cells = ((λ named job. refl, (λ named job. refl, tt)), additions_count dir table jobs (added dir (table job) cells))

samplings_count : (dir : Dir) (support : Option Support) (run : RunState) → CountBy nat_le (samplings dir support run)
samplings_count dir None run = tt
samplings_count dir (Some s) run = elim run.begun as (λ b. CountBy nat_le (cond b (samplings dir (Some s) (record run { begun = true })) [])) [ true ↦ ((λ named job. refl, tt), tt) | false ↦ tt ]

operations_count : (dir : Dir) (tasks : List Task) (level : Level) (support : Option Support) (start : List ℕ) (t : ℕ) → CountBy nat_le (operations_at dir tasks level support start t)
operations_count dir tasks level support start t =
    let run : RunState = level_run dir tasks level support start 0 t in
    elim (is_quiet tasks level t) as (λ b. CountBy nat_le (cond b [] (operations_of dir tasks level support run t))) [
      | true ↦ tt
      | false ↦ Each-append _ (samplings dir support run) (additions dir (table_of tasks) (level_at tasks level t) (found_at dir support run t))
          (samplings_count dir support run) (additions_count dir (table_of tasks) (level_at tasks level t) (found_at dir support run t))
    ]

delays_count : (dir : Dir) (table : Job → Table) (r : ℕ) (jobs : List Job) (cells : List ℕ) → CountBy nat_eq (delays dir table r jobs cells)
delays_count dir table r [] cells = tt
delays_count dir table r (job ∷ jobs) cells = ((λ named job. refl, tt), delays_count dir table r jobs (delayed dir (table job) (job.release - r) cells))

-- ---- the entries of a level run

-- an entry at a time names this job or an earlier one just where the time is not after the job's release
names_early : (task : Task) (n t : ℕ) → t ≤ task.offset + n * task.period → nat_le (releases task t) n ≡ true
names_early task n t early = le-leb (releases task t) n (⊎_elim
    (λ (l : n < releases task t). absurd (omega (arith, released_before task n t l)))
    (λ (l : releases task t ≤ n). l)
    (cases_lt n (releases task t)))

names_late : (task : Task) (n t : ℕ) → 0 < task.period → task.offset + n * task.period < t → nat_le (releases task t) n ≡ false
names_late task n t positive late = lt-leb (releases task t) n (⊎_elim
    (λ (l : n < releases task t). l)
    (λ (l : releases task t ≤ n). absurd (omega (arith, (next_release_is task t (task.offset + releases task t * task.period) positive refl).reached, mul-le-mul_right task.period l)))
    (cases_lt n (releases task t)))

module _ (dir : Dir) (tasks : List Task) (level : Level) (support : Option Support) (start : List ℕ) (n : ℕ) (positive : 0 < (task_at tasks level.own).period) where
  abbrev release : ℕ
  release = (nth_job tasks level.own n).release

  level_sum_at : (t : ℕ) → sum_for level.own n (level_entries_at dir tasks level support start t) ≡ cond (nat_le (named_job tasks level t) n) (amounts (operations_at dir tasks level support start t)) 0
  level_sum_at t =
      noted_sum dir level.own (named_job tasks level t) n nat_le (1 + length (operations dir tasks level support start t)) (operations_at dir tasks level support start t) (operations_count dir tasks level support start t)

  -- those that count for a job are those up to its release
  level_sum : (t : ℕ) → sum_for level.own n (level_entries dir tasks level support start t) ≡ amounts (operations dir tasks level support start (min t (suc release)))
  level_sum zero = let none : min 0 (suc release) ≡ 0 = omega arith in ap (λ s. amounts (operations dir tasks level support start s)) (sym none)
  level_sum (suc t) =
      let now : List Operation = operations_at dir tasks level support start t in
      let Ops : ℕ → List Operation = operations dir tasks level support start in
      let split : sum_for level.own n (level_entries dir tasks level support start (suc t)) ≡ sum_for level.own n (level_entries dir tasks level support start t) + sum_for level.own n (level_entries_at dir tasks level support start t) =
      sum_by-append (part_for level.own n) (level_entries dir tasks level support start t) (level_entries_at dir tasks level support start t) in
      ⊎_elim
      (λ (early : t < suc release).
      let b : nat_le (named_job tasks level t) n ≡ true = names_early (task_at tasks level.own) n t (omega arith) in
      let was : min t (suc release) ≡ t = omega arith in
      let is : min (suc t) (suc release) ≡ suc t = omega arith in
      omega (arith, split, level_sum t, level_sum_at t, ap (λ b. cond b (amounts now) 0) b, ap (λ s. amounts (Ops s)) was, ap (λ s. amounts (Ops s)) is, amounts-append (Ops t) now))
      (λ (late : suc release ≤ t).
      let b : nat_le (named_job tasks level t) n ≡ false = names_late (task_at tasks level.own) n t positive (omega arith) in
      let same : min (suc t) (suc release) ≡ min t (suc release) = omega arith in
      omega (arith, split, level_sum t, level_sum_at t, ap (λ b. cond b (amounts now) 0) b, ap (λ s. amounts (Ops s)) same))
      (cases_lt t (suc release))

-- ---- the entries of response runs

released_then : (i : ℕ) (tasks : List Task) (t : ℕ) → Each (λ job. job.release ≡ t) (released_at i tasks t)
released_then i [] t = tt
released_then i (task ∷ tasks) t =
    Each-append _ (released_by i task t) (released_at (i + 1) tasks t)
    (elim (is_release task t) as (λ b. Each (λ job. job.release ≡ t) (cond b (job_at i task t ∷ []) [])) [ true ↦ (refl, tt) | false ↦ tt ])
    (released_then (i + 1) tasks t)

module _ (f : Entry → ℕ) (dir : Dir) (sheet : Sheet) (level : Level) where
  -- the sum over the entries of an own job's response run
  abbrev pub response_sum : Job → ℕ
  response_sum job = sum_by f (delay_entries dir sheet.tasks level job (list_after dir sheet level job.release))

  responses_sum : (t : ℕ) (jobs : List Job) → Each (λ job. job.release ≡ t) jobs →
      sum_by f (flat_map (λ job. delay_entries dir sheet.tasks level job (list_after dir sheet level t)) jobs) ≡ sum_by response_sum jobs
  responses_sum t [] h = refl
  responses_sum t (job ∷ jobs) h =
      let here : list_after dir sheet level job.release ≡ list_after dir sheet level t = ap (list_after dir sheet level) h.0 in
      omega (
        arith,
        sum_by-append f (delay_entries dir sheet.tasks level job (list_after dir sheet level t)) (flat_map (λ job. delay_entries dir sheet.tasks level job (list_after dir sheet level t)) jobs),
        sum_by-cons response_sum job jobs,
        ap (λ cells. sum_by f (delay_entries dir sheet.tasks level job cells)) here,
        responses_sum t jobs h.1,
      )

  -- the entries before a time are those of the level run, and those of the response runs of the own jobs released before it
  pub entries_sum : (t : ℕ) →
      sum_by f (entries_before dir sheet level t)
      ≡ sum_by f (level_entries dir sheet.tasks level sheet.settings.support (point sheet.settings.cap 0) t) + sum_by response_sum (filter (λ job. nat_eq job.task level.own) (jobs_before sheet.tasks t))
  entries_sum zero = refl
  entries_sum (suc t) =
      let own : Job → Bool = λ job. nat_eq job.task level.own in
      let before : List Entry = level_entries dir sheet.tasks level sheet.settings.support (point sheet.settings.cap 0) t in
      let now : List Entry = level_entries_at dir sheet.tasks level sheet.settings.support (point sheet.settings.cap 0) t in
      let responses : List Entry = flat_map (λ job. delay_entries dir sheet.tasks level job (list_after dir sheet level t)) (own_at sheet.tasks level t) in
      omega (
        arith,
        sum_by-append f (entries_before dir sheet level t) (now ++ responses),
        sum_by-append f now responses,
        sum_by-append f before now,
        responses_sum t (own_at sheet.tasks level t) (Each-filter _ own (released_at 0 sheet.tasks t) (released_then 0 sheet.tasks t)),
        ap (sum_by response_sum) (filter-append own (jobs_before sheet.tasks t) (released_at 0 sheet.tasks t)),
        sum_by-append response_sum (filter own (jobs_before sheet.tasks t)) (own_at sheet.tasks level t),
        entries_sum t,
      )

  -- in a whole analysis
  pub analysis_sum : level.own < length sheet.tasks → 0 < (task_at sheet.tasks level.own).period →
      let task : Task = task_at sheet.tasks level.own in
      sum_by f (entries_in dir sheet level)
      ≡ sum_by f (level_entries dir sheet.tasks level sheet.settings.support (point sheet.settings.cap 0) (run_end task (horizon sheet))) + sum_below (λ k. response_sum (nth_job sheet.tasks level.own k)) (releases task (horizon sheet))
  analysis_sum listed positive =
      let task : Task = task_at sheet.tasks level.own in
      let end : ℕ = run_end task (horizon sheet) in
      omega (
        arith,
        entries_sum end,
        task_sum sheet.tasks response_sum level.own end listed,
        ap (sum_below (λ k. response_sum (nth_job sheet.tasks level.own k))) (releases_at_end task (horizon sheet) positive),
      )

-- ---- the sum for a job

-- the entries of one direction add up to what is spent on the job
pub spent_sum : (dir : Dir) (sheet : Sheet) (level : Level) (n : ℕ) → level.own < length sheet.tasks → 0 < (task_at sheet.tasks level.own).period →
    n < releases (task_at sheet.tasks level.own) (horizon sheet) →
    sum_for level.own n (entries_in dir sheet level) ≡ spent dir sheet.tasks level sheet.settings.support (point sheet.settings.cap 0) (nth_job sheet.tasks level.own n).release
spent_sum dir sheet level n listed positive low =
    let task : Task = task_at sheet.tasks level.own in
    let start : List ℕ = point sheet.settings.cap 0 in
    let r : ℕ = (nth_job sheet.tasks level.own n).release in
    let part : Job → ℕ = response_sum (part_for level.own n) dir sheet level in
    let each : (k : ℕ) → part (nth_job sheet.tasks level.own k)
    ≡ cond (nat_eq k n) (amounts (response_delays dir sheet.tasks level (nth_job sheet.tasks level.own k).release (list_after dir sheet level (nth_job sheet.tasks level.own k).release))) 0 = λ k.
    let release : ℕ = (nth_job sheet.tasks level.own k).release in
    noted_sum dir level.own k n nat_eq 1 (response_delays dir sheet.tasks level release (list_after dir sheet level release))
    (delays_count dir (table_of sheet.tasks) release (delaying_jobs sheet.tasks level release) (first_cells sheet.tasks level (list_after dir sheet level release))) in
    let own : part (nth_job sheet.tasks level.own n) ≡ amounts (response_delays dir sheet.tasks level r (list_after dir sheet level r)) =
    each n ∙ ap (λ b. cond b (amounts (response_delays dir sheet.tasks level r (list_after dir sheet level r))) 0) (eq-eqb n n refl) in
    let others : (k : ℕ) → k < releases task (horizon sheet) → (k ≡ n → ⊥) → part (nth_job sheet.tasks level.own k) ≡ 0 = λ k l other.
    each k ∙ ap (λ b. cond b (amounts (response_delays dir sheet.tasks level (nth_job sheet.tasks level.own k).release (list_after dir sheet level (nth_job sheet.tasks level.own k).release))) 0) (ne_eqb k n other) in
    let past : min (run_end task (horizon sheet)) (suc r) ≡ suc r = omega (arith, released_before_end task n (horizon sheet) low) in
    omega (
      arith,
      analysis_sum (part_for level.own n) dir sheet level listed positive,
      level_sum dir sheet.tasks level sheet.settings.support start n positive (run_end task (horizon sheet)),
      ap (λ t. amounts (operations dir sheet.tasks level sheet.settings.support start t)) past,
      sum_below-only (λ k. part (nth_job sheet.tasks level.own k)) (releases task (horizon sheet)) n low others,
      own,
    )
