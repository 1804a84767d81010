-- Whole hyperperiods later the same jobs are released, with the same tables, and level runs and response runs make the same lists.
use Rattle.std.proofs.Common.{◌≡◌, ℕ, zero, suc, ◌+◌, ◌-◌, ◌*◌, ◌/◌, ◌%◌, ◌≤◌, ◌<◌, Bool, true, false, ◌&&◌, nat_le, nat_eq, if◌then◌else◌, Option, Some, None, All, List, [], ◌∷◌, ◌++◌, map, filter, length, refl, ap, ap₂, sym, ◌∙◌, subst, arith, ⊎_elim, zero-add, add-zero, suc-add}
use Rattle.std.specs.Int.{◌∣◌}
use Rattle.std.specs.List.{AllByRecursion as Each}
use Rattle.std.proofs.Math.Nat.{add-mul-mod_self_right, add-mul-mod_self_left, add-mul-div_right, div-add-mod, mod-eq_of_lt, mod-eq-zero_of_dvd}
use Rattle.std.proofs.lemmas.List.{length-map, map-append}
use Rattle.std.proofs.lemmas.Bool.{cases_lt, le-leb, lt-leb, and_left, and_right, and_parts, ne_eqb, leb-true}
use Rattle.prta_mass.specs.Unit.{unit}
use Rattle.prta_mass.specs.Chances.{at}
use Rattle.prta_mass.specs.declared.direction.Dir.{Dir}
use Rattle.prta_mass.specs.declared.support.Support.{Support}
use Rattle.prta_sheet.specs.Sheet.{Task, task_at, cycle_ticks, hyperperiod}
use Rattle.prta_sheet.specs.Job.{Job, table_of, nth_job, is_release, released_by, released_at, jobs_before}
use Rattle.prta_sheet.proofs.Each.{Each-append, Each-weaker}
use Rattle.prta_sheet.proofs.Multiples.{whole_periods, copies_have_their_table}
use Rattle.prta_shift.specs.Shift.{shifted}
use Rattle.prta_dist.specs.Addition.{added}
use Rattle.prta_preempt.specs.Delay.{delayed}
use Rattle.prta_jobs.specs.Laws.{IsBefore}
use Rattle.prta_jobs.proofs.JobsBefore.{each_before}
use Rattle.prta_ticksim.proofs.Each.{filter_map}
use Rattle.prta_backlog.specs.Level.{Level, higher_at, own_at, level_at, is_quiet, delaying}
use Rattle.prta_backlog.specs.LevelRun.{RunState, tables_added, kept, after_instant, level_run}
use Rattle.prta_backlog.proofs.Released.{on_sheet, Each-filter}
use Rattle.prta_response.specs.Response.{all_delayed, first_cells, meeting_cell, response_start, number_from}
use Rattle.prta_response.specs.Chance.{copy_of}
use Rattle.prta_response.proofs.JobsFrom.{jobs_from, delaying_is}

-- ---- releases repeat

-- before its offset a task releases nothing
no_early : (o p q t : ℕ) → o < p → t < o → o ≤ t + q * p → (t + q * p - o) % p ≡ 0 → ⊥
no_early o p q t short early reached whole =
    let n : ℕ = t + q * p - o in
    let parts : p * (n / p) + n % p ≡ n = div-add-mod n p in
    let left : (t + q * p) % p ≡ t = add-mul-mod_self_right t q p ∙ mod-eq_of_lt (omega arith) in
    let right : (o + p * (n / p)) % p ≡ o = add-mul-mod_self_left o p (n / p) ∙ mod-eq_of_lt short in
    let same : t + q * p ≡ o + p * (n / p) = omega arith in
    omega (arith, sym left ∙ ap (λ x. x % p) same ∙ right)

release_again : (o p q t : ℕ) → o < p → (nat_le o (t + q * p) && nat_eq ((t + q * p - o) % p) 0) ≡ (nat_le o t && nat_eq ((t - o) % p) 0)
release_again o p q t short = ⊎_elim
    (λ (early : t < o).
    let none : (nat_le o (t + q * p) && nat_eq ((t + q * p - o) % p) 0) ≡ false = ⊎_elim
    (λ (l : t + q * p < o). and_left _ _ (lt-leb o (t + q * p) l))
    (λ (l : o ≤ t + q * p). and_right _ _ (ne_eqb ((t + q * p - o) % p) 0 (λ z. no_early o p q t short early l z)))
    (cases_lt (t + q * p) o) in
    none ∙ sym (and_left (nat_le o t) (nat_eq ((t - o) % p) 0) (lt-leb o t early)))
    (λ (late : o ≤ t).
    let past : t + q * p - o ≡ (t - o) + q * p = omega arith in
    let rest : (t + q * p - o) % p ≡ (t - o) % p = ap (λ x. x % p) past ∙ add-mul-mod_self_right (t - o) q p in
    ap₂ (λ x y. x && nat_eq y 0) (le-leb o (t + q * p) (omega arith) ∙ sym (le-leb o t late)) rest)
    (cases_lt t o)

module _ (tasks : List Task) (periodic : All (λ task. task.offset < task.period) tasks) (cycles : All (λ task. 1 ≤ cycle_ticks task) tasks) (m : ℕ) where
  -- so many ticks later
  abbrev pub ticks : ℕ
  ticks = m * hyperperiod tasks

  -- the copy of a job
  abbrev pub later : Job → Job
  later job = record { task = job.task; number = job.number + m * (hyperperiod tasks / (task_at tasks job.task).period); release = job.release + ticks }

  -- they are whole periods of each task
  whole : (i : ℕ) → i < length tasks → ticks ≡ m * (hyperperiod tasks / (task_at tasks i).period) * (task_at tasks i).period
  whole i low =
      let p : ℕ = (task_at tasks i).period in
      let h : ℕ = hyperperiod tasks in
      let divides : p ∣ h = whole_periods tasks cycles i _ low in
      let split : h ≡ h / p * p = omega (arith, div-add-mod h p, mod-eq-zero_of_dvd p divides) in
      ap (λ n. m * n) split ∙ omega arith

  pub copy_release : (i k : ℕ) → i < length tasks → (copy_of tasks i k m).release ≡ ticks + (nth_job tasks i k).release
  copy_release i k low = omega (arith, whole i low)

  pub table_later : (job : Job) → job.task < length tasks → table_of tasks (later job) ≡ table_of tasks job
  table_later job low = copies_have_their_table tasks cycles job.task _ low job.number m

  released_by_later : (i t : ℕ) → i < length tasks → released_by i (task_at tasks i) (t + ticks) ≡ map later (released_by i (task_at tasks i) t)
  released_by_later i t low =
      let task : Task = task_at tasks i in
      let q : ℕ = m * (hyperperiod tasks / task.period) in
      let tests : is_release task (t + ticks) ≡ is_release task t = rw (whole i low) (release_again task.offset task.period q t (periodic i _ low)) in
      ap (λ b. if b then record { task = i; number = (t + ticks - task.offset) / task.period; release = t + ticks } ∷ [] else []) tests ∙ by_flag (is_release task t) (λ e. e)
    where
      by_flag : (b : Bool) → (b ≡ true → is_release (task_at tasks i) t ≡ true) →
          (if b then record { task = i; number = (t + ticks - (task_at tasks i).offset) / (task_at tasks i).period; release = t + ticks } ∷ [] else [])
          ≡ map later (if b then record { task = i; number = (t - (task_at tasks i).offset) / (task_at tasks i).period; release = t } ∷ [] else [])
      by_flag true release =
          let o : ℕ = (task_at tasks i).offset in
          let p : ℕ = (task_at tasks i).period in
          let q : ℕ = m * (hyperperiod tasks / p) in
          let late : o ≤ t = leb-true o t ((and_parts (nat_le o t) (nat_eq ((t - o) % p) 0) (release refl)).0) in
          let past : t + ticks - o ≡ (t - o) + q * p = omega (arith, whole i low) in
          let short : o < p = periodic i _ low in
          let some : 0 < p = omega arith in
          let number : (t + ticks - o) / p ≡ (t - o) / p + q = ap (λ x. x / p) past ∙ add-mul-div_right (t - o) q some in
          ap (λ n. record { task = i; number = n; release = t + ticks } ∷ []) number
      by_flag false release = refl

  released_from : (i : ℕ) (rest : List Task) (t : ℕ) → i + length rest ≡ length tasks → ((k : ℕ) → k < length rest → task_at tasks (i + k) ≡ task_at rest k) → released_at i rest (t + ticks) ≡ map later (released_at i rest t)
  released_from i [] t within same = refl
  released_from i (task ∷ rest) t within same =
      let here : task_at tasks i ≡ task = ap (task_at tasks) (sym (add-zero i)) ∙ same 0 (omega arith) in
      let one : released_by i task (t + ticks) ≡ map later (released_by i task t) = subst (λ task. released_by i task (t + ticks) ≡ map later (released_by i task t)) here (released_by_later i t (omega arith)) in
      ap₂ (λ (a b : List Job). a ++ b) one
      (released_from (i + 1) rest t (omega arith) (λ k low. let place : i + 1 + k ≡ i + suc k = omega arith in ap (task_at tasks) place ∙ same (suc k) (omega arith)))
      ∙ sym (map-append later (released_by i task t) (released_at (i + 1) rest t))

  released_later : (t : ℕ) → released_at 0 tasks (t + ticks) ≡ map later (released_at 0 tasks t)
  released_later t = released_from 0 tasks t (zero-add (length tasks)) (λ k low. ap (task_at tasks) (zero-add k))

  -- of some tasks
  pub kept_later : (p : ℕ → Bool) (jobs : List Job) → filter (λ job. p job.task) (map later jobs) ≡ map later (filter (λ job. p job.task) jobs)
  kept_later p jobs = sym (filter_map (λ job. p job.task) later later (λ job. refl) (λ job. refl) jobs)

  pub level_later : (level : Level) (t : ℕ) → level_at tasks level (t + ticks) ≡ map later (level_at tasks level t)
  level_later level t =
      let own : ℕ → Bool = λ i. nat_eq i level.own in
      ap₂ (λ (a b : List Job). a ++ b)
      (ap (filter (λ job. level.higher job.task)) (released_later t) ∙ kept_later level.higher (released_at 0 tasks t))
      (ap (filter (λ job. own job.task)) (released_later t) ∙ kept_later own (released_at 0 tasks t))
      ∙ sym (map-append later (higher_at tasks level t) (own_at tasks level t))

  quiet_later : (level : Level) (t : ℕ) → is_quiet tasks level (t + ticks) ≡ is_quiet tasks level t
  quiet_later level t = ap (λ n. nat_eq n 0) (ap length (level_later level t) ∙ length-map (level_at tasks level t) later)

  -- ---- level runs

  abbrev OnSheet : Job → Type 0
  OnSheet job = job.task < length tasks

  tables_later : (dir : Dir) (jobs : List Job) (cells : List ℕ) → Each OnSheet jobs → tables_added dir (table_of tasks) (map later jobs) cells ≡ tables_added dir (table_of tasks) jobs cells
  tables_later dir [] cells each = refl
  tables_later dir (job ∷ jobs) cells each =
      ap (λ table. tables_added dir (table_of tasks) (map later jobs) (added dir table cells)) (table_later job each.0) ∙ tables_later dir jobs (added dir (table_of tasks job) cells) each.1

  -- the jobs of a time are jobs of tasks on the sheet
  released_on_sheet : (t : ℕ) → Each OnSheet (released_at 0 tasks t)
  released_on_sheet t = Each-weaker (λ job. job.task < 0 + length tasks) _ (λ job low. omega arith) (released_at 0 tasks t) (on_sheet 0 tasks t)

  module _ (dir : Dir) (level : Level) (support : Option Support) where
    -- a run, so many ticks later
    abbrev pub later_run : RunState → RunState
    later_run run = record { cells = run.cells; since = run.since + ticks; begun = run.begun }

    kept_same : (support : Option Support) (run : RunState) → kept dir support (later_run run) ≡ kept dir support run
    kept_same None run = refl
    kept_same (Some s) run = refl

    instant_later : (run : RunState) (t : ℕ) → after_instant dir tasks level support (later_run run) (t + ticks) ≡ later_run (after_instant dir tasks level support run t)
    instant_later run t =
        let gap : t + ticks - (run.since + ticks) ≡ t - run.since = omega arith in
        let found : List ℕ = shifted (t - run.since) (kept dir support run) in
        let each : Each OnSheet (level_at tasks level t) =
        Each-append _ (higher_at tasks level t) (own_at tasks level t) (Each-filter _ _ (released_at 0 tasks t) (released_on_sheet t)) (Each-filter _ _ (released_at 0 tasks t) (released_on_sheet t)) in
        let cells : tables_added dir (table_of tasks) (level_at tasks level (t + ticks)) (shifted (t + ticks - (run.since + ticks)) (kept dir support (later_run run))) ≡ tables_added dir (table_of tasks) (level_at tasks level t) found =
        ap₂ (λ jobs xs. tables_added dir (table_of tasks) jobs xs) (level_later level t) (ap₂ shifted gap (kept_same support run)) ∙ tables_later dir (level_at tasks level t) found each in
        ap (λ (cells : List ℕ). let run' : RunState = record { cells = cells; since = t + ticks; begun = true } in run') cells

    -- a level run that starts so many ticks later makes the same lists
    pub run_later : (start : List ℕ) (n : ℕ) → level_run dir tasks level support start ticks n ≡ later_run (level_run dir tasks level support start 0 n)
    run_later start zero = ap (λ (t : ℕ). let run' : RunState = record { cells = start; since = t; begun = false } in run') (sym (zero-add ticks))
    run_later start (suc n) =
        let run : RunState = level_run dir tasks level support start 0 n in
        let t : ℕ = 0 + n in
        let at_t : ticks + n ≡ t + ticks = omega arith in
        let step : RunState → ℕ → RunState = λ x u. if is_quiet tasks level u then x else after_instant dir tasks level support x u in
        ap₂ step (run_later start n) at_t
        ∙ ap₂ (λ b x. if b then later_run run else x) (quiet_later level t) (instant_later run t)
        ∙ either (is_quiet tasks level t) run (after_instant dir tasks level support run t)
      where
        either : (b : Bool) (x y : RunState) → (if b then later_run x else later_run y) ≡ later_run (if b then x else y)
        either true x y = refl
        either false x y = refl

  -- ---- response runs

  pub jobs_later : (s n : ℕ) → jobs_from tasks (s + ticks) n ≡ map later (jobs_from tasks s n)
  jobs_later s zero = refl
  jobs_later s (suc n) =
      let at_t : s + ticks + n ≡ s + n + ticks = omega arith in
      ap₂ (λ (a b : List Job). a ++ b) (jobs_later s n) (ap (released_at 0 tasks) at_t ∙ released_later (s + n))
      ∙ sym (map-append later (jobs_from tasks s n) (released_at 0 tasks (s + n)))

  delaying_later : (level : Level) (r d : ℕ) → 0 < d → delaying tasks level (r + ticks) d ≡ map later (delaying tasks level r d)
  delaying_later level r d some =
      delaying_is tasks level (r + ticks) d some
      ∙ ap (filter (λ job. level.higher job.task)) (ap (λ s. jobs_from tasks s (d - 1)) (sym (suc-add r ticks)) ∙ jobs_later (suc r) (d - 1))
      ∙ kept_later level.higher (jobs_from tasks (suc r) (d - 1))
      ∙ ap (map later) (sym (delaying_is tasks level r d some))

  delays_later : (dir : Dir) (r : ℕ) (jobs : List Job) (cells : List ℕ) → Each OnSheet jobs → all_delayed dir (table_of tasks) (r + ticks) (map later jobs) cells ≡ all_delayed dir (table_of tasks) r jobs cells
  delays_later dir r [] cells each = refl
  delays_later dir r (job ∷ jobs) cells each =
      let gap : job.release + ticks - (r + ticks) ≡ job.release - r = omega arith in
      ap₂ (λ table d. all_delayed dir (table_of tasks) (r + ticks) (map later jobs) (delayed dir table d cells)) (table_later job each.0) gap
      ∙ delays_later dir r jobs (delayed dir (table_of tasks job) (job.release - r) cells) each.1

  before_on_sheet : (t : ℕ) → Each OnSheet (jobs_before tasks t)
  before_on_sheet t = Each-weaker (IsBefore tasks t) OnSheet (λ job is. is.task) (jobs_before tasks t) (each_before tasks t)

  pub number_later : (dir : Dir) (level : Level) (support : Option Support) (start : List ℕ) (n : ℕ) → 0 < (task_at tasks level.own).deadline →
      number_from dir tasks level support start ticks n ≡ number_from dir tasks level support start 0 n
  number_later dir level support start n some =
      let d : ℕ = (task_at tasks level.own).deadline in
      let r : ℕ = 0 + n in
      let at_r : ticks + n ≡ r + ticks = omega arith in
      let first : List ℕ = response_start dir tasks level support start 0 n in
      let same : response_start dir tasks level support start ticks n ≡ first = ap (λ (run : RunState). run.cells) (run_later dir level support start (suc n)) in
      ap₂ (λ t cells. unit - meeting_cell dir tasks level t cells) at_r same
      ∙ ap (λ cells. unit - at cells d)
      (ap (λ jobs. all_delayed dir (table_of tasks) (r + ticks) jobs (first_cells tasks level first)) (delaying_later level r d some)
      ∙ delays_later dir r (delaying tasks level r d) (first_cells tasks level first) (Each-filter _ _ (jobs_before tasks (r + d)) (before_on_sheet (r + d))))
