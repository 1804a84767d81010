-- Level runs and response runs in Up with later times: both meet the same instants, and no cell is above the one with the earlier times.
use Rattle.std.proofs.Common.{◌≡◌, ℕ, zero, suc, ◌+◌, ◌-◌, ◌*◌, ◌<◌, ◌≤◌, Bool, true, false, ◌&&◌, nat_lt, nat_eq, if◌then◌else◌, Option, Some, None, List, [], ◌∷◌, ◌++◌, filter, length, take, refl, ap, ap₂, sym, ◌∙◌, subst, arith, add-zero}
use Rattle.std.specs.List.{AllByRecursion as Each}
use Rattle.std.proofs.lemmas.List.{append_cancel_left}
use Rattle.prta_mass.specs.Unit.{unit}
use Rattle.prta_mass.specs.declared.direction.Dir.TheVariants.{Up}
use Rattle.prta_mass.specs.declared.support.Support.{Support}
use Rattle.prta_mass.specs.Table.{Table, IsTable}
use Rattle.prta_mass.specs.Chances.{at, point}
use Rattle.prta_sheet.specs.Sheet.{Task, Sheet, task_at}
use Rattle.prta_sheet.specs.Job.{Job, table_of, nth_job, released_at, jobs_before}
use Rattle.prta_sheet.specs.Accepted.{IsTask, IsAccepted}
use Rattle.prta_sheet.proofs.Each.{Each-append, Each-weaker}
use Rattle.prta_jobs.specs.Laws.{IsBefore}
use Rattle.prta_jobs.proofs.JobsBefore.{each_before}
use Rattle.prta_times.specs.LaterTimes.{Both, IsLater}
use Rattle.prta_times.proofs.LaterTasks.{Both_length, task_later, table_later, jobs_later}
use Rattle.prta_dist.specs.Addition.{added}
use Rattle.prta_dist.proofs.Chances.{point_chances}
use Rattle.prta_resample.specs.Resample.{resampled}
use Rattle.prta_preempt.specs.Delay.{delayed}
use Rattle.prta_backlog.specs.Level.{Level, level_at, is_quiet, delaying}
use Rattle.prta_backlog.specs.LevelRun.{RunState, tables_added, kept, found_at, after_instant, level_run}
use Rattle.prta_backlog.specs.Laws.{HaveTables}
use Rattle.prta_backlog.proofs.Released.{on_sheet, Each-filter, job_table}
use Rattle.prta_backlog.proofs.Chances.{size_point}
use Rattle.prta_response.specs.Response.{all_delayed, response, response_start, number_from, number_of}
use Rattle.prta_slack.specs.Laws.{LaterTimesLowerNoUpper}
use Rattle.prta_slack.proofs.LaterOperations.{under_both, adds_later, delays_later}
use Rattle.prta_audsley.proofs.Tables.{have_tables}
use Rattle.prta_audsley.proofs.UpOperations.{Under, under_self, adds, delays, samples, shifts, takes}

module _ (early late : List Task) (later : Both IsLater early late) where
  same_released : (t : ℕ) → released_at 0 early t ≡ released_at 0 late t
  same_released t =
      append_cancel_left (jobs_before late t) (released_at 0 early t) (released_at 0 late t)
      (sym (ap (λ (jobs : List Job). jobs ++ released_at 0 early t) (jobs_later early late t later)) ∙ jobs_later early late (suc t) later)

  same_level : (level : Level) (t : ℕ) → level_at early level t ≡ level_at late level t
  same_level level t = ap (λ (jobs : List Job). filter (λ job. level.higher job.task) jobs ++ filter (λ job. nat_eq job.task level.own) jobs) (same_released t)

  module _ (have_early : HaveTables early) (have_late : HaveTables late) (n : ℕ) (some : 0 < n) where
    abbrev IsListed : Job → Type 0
    IsListed job = job.task < length late

    early_table : (job : Job) → IsListed job → IsTable (table_of early job)
    early_table job low = job_table early job have_early (omega (arith, low, Both_length IsLater early late later))

    late_table : (job : Job) → IsListed job → IsTable (table_of late job)
    late_table job low = job_table late job have_late low

    -- ---- an instant

    tables_under : (jobs : List Job) → Each IsListed jobs → (F G : List ℕ) → Under n F G → Under n (tables_added Up (table_of late) jobs F) (tables_added Up (table_of early) jobs G)
    tables_under [] listed F G under = under
    tables_under (job ∷ jobs) listed F G under =
        let x : Table = table_of early job in
        let y : Table = table_of late job in
        tables_under jobs listed.1 (added Up y F) (added Up x G)
        (under_both n (added Up y F) (added Up y G) (added Up x G)
        ((adds n y some (late_table job listed.0)).keeps F G under)
        (adds_later x y (table_later early late later job) (early_table job listed.0) (late_table job listed.0) n G under.high_size under.high some))

    listed_at : (level : Level) (t : ℕ) → Each IsListed (level_at late level t)
    listed_at level t =
        let all : Each IsListed (released_at 0 late t) = Each-weaker (λ (job : Job). job.task < 0 + length late) _ (λ job low. omega arith) (released_at 0 late t) (on_sheet 0 late t) in
        Each-append IsListed (filter (λ job. level.higher job.task) (released_at 0 late t)) (filter (λ job. nat_eq job.task level.own) (released_at 0 late t))
        (Each-filter IsListed (λ job. level.higher job.task) (released_at 0 late t) all)
        (Each-filter IsListed (λ job. nat_eq job.task level.own) (released_at 0 late t) all)

    -- two runs at one time that have met the same instants
    record RunsUnder (run other : RunState) : Type 0 where
      pub since : run.since ≡ other.since
      pub begun : run.begun ≡ other.begun
      pub cells : Under n run.cells other.cells

    sampled_under : (s : Support) (b c : Bool) (F G : List ℕ) → b ≡ c → Under n F G → Under n (if b then resampled Up s F else F) (if c then resampled Up s G else G)
    sampled_under s b c F G same under =
        subst (λ c. Under n (if b then resampled Up s F else F) (if c then resampled Up s G else G)) same
        (elim b as (λ b. Under n (if b then resampled Up s F else F) (if b then resampled Up s G else G)) [ true ↦ (samples n (Some s) some).keeps F G under | false ↦ under ])

    kept_under : (support : Option Support) (run other : RunState) → RunsUnder run other → Under n (kept Up support run) (kept Up support other)
    kept_under None run other under = under.cells
    kept_under (Some s) run other under = sampled_under s run.begun other.begun run.cells other.cells under.begun under.cells

    module _ (support : Option Support) (level : Level) where
      found_under : (run other : RunState) (t : ℕ) → RunsUnder run other → Under n (found_at Up support run t) (found_at Up support other t)
      found_under run other t under =
          let F : List ℕ = kept Up support run in
          let G : List ℕ = kept Up support other in
          let kept : Under n F G = kept_under support run other under in
          shifts n (t - run.since) (t - other.since) 0 F G some kept.low_size kept.high_size kept.low kept.high
          (λ k. subst (λ i. at F k ≤ at G i) (sym (add-zero k)) (kept.dominates k))
          (omega (arith, under.since))

      instants_under : (run other : RunState) (t : ℕ) → RunsUnder run other → RunsUnder (after_instant Up late level support run t) (after_instant Up early level support other t)
      instants_under run other t under = record {
        since = refl;
        begun = refl;
        cells =
            let F : List ℕ = found_at Up support run t in
            let G : List ℕ = found_at Up support other t in
            subst (λ (jobs : List Job). Under n (tables_added Up (table_of late) (level_at late level t) F) (tables_added Up (table_of early) jobs G)) (sym (same_level level t))
            (tables_under (level_at late level t) (listed_at level t) F G (found_under run other t under));
      }

      -- ---- the level runs

      runs_under : (start : List ℕ) (base m : ℕ) → Under n start start → RunsUnder (level_run Up late level support start base m) (level_run Up early level support start base m)
      runs_under start base zero under = record { since = refl; begun = refl; cells = under }
      runs_under start base (suc m) under =
          let run : RunState = level_run Up late level support start base m in
          let other : RunState = level_run Up early level support start base m in
          let t : ℕ = base + m in
          let before : RunsUnder run other = runs_under start base m under in
          let quiet : is_quiet early level t ≡ is_quiet late level t = ap (λ (jobs : List Job). nat_eq (length jobs) 0) (same_level level t) in
          subst (λ b. RunsUnder (if is_quiet late level t then run else after_instant Up late level support run t) (if b then other else after_instant Up early level support other t)) (sym quiet)
          (elim (is_quiet late level t) as (λ b. RunsUnder (if b then run else after_instant Up late level support run t) (if b then other else after_instant Up early level support other t)) [
            | true ↦ before
            | false ↦ instants_under run other t before
          ])

      -- ---- the response runs

      module _ (start : List ℕ) (base m : ℕ) (is : Under n start start) (low : (task_at late level.own).deadline < n) where
        abbrev r : ℕ
        r = base + m

        abbrev d : ℕ
        d = (task_at late level.own).deadline

        delays_under : (jobs : List Job) → Each (IsBefore late (r + d)) jobs → (F G : List ℕ) → Under (d + 1) F G → Under (d + 1) (all_delayed Up (table_of late) r jobs F) (all_delayed Up (table_of early) r jobs G)
        delays_under [] before F G under = under
        delays_under (job ∷ jobs) before F G under =
            let x : Table = table_of early job in
            let y : Table = table_of late job in
            let first : IsBefore late (r + d) job = before.0 in
            let place : job.release - r < d + 1 = omega (arith, first.release) in
            delays_under jobs before.1 (delayed Up y (job.release - r) F) (delayed Up x (job.release - r) G)
            (under_both (d + 1) (delayed Up y (job.release - r) F) (delayed Up y (job.release - r) G) (delayed Up x (job.release - r) G)
            ((delays (d + 1) y (job.release - r) place (late_table job first.task)).keeps F G under)
            (delays_later x y (table_later early late later job) (early_table job first.task) (late_table job first.task) (d + 1) G under.high_size under.high (job.release - r) place))

        responses_under : Under (d + 1) (response Up late level r (response_start Up late level support start base m))
            (all_delayed Up (table_of early) r (delaying early level r d) (take (d + 1) (response_start Up early level support start base m)))
        responses_under =
            let F : List ℕ = response_start Up late level support start base m in
            let G : List ℕ = response_start Up early level support start base m in
            let jobs : List Job = delaying late level r d in
            let same : delaying early level r d ≡ jobs = ap (λ (all : List Job). filter (λ job. level.higher job.task && nat_lt r job.release) all) (jobs_later early late (r + d) later) in
            subst (λ (others : List Job). Under (d + 1) (all_delayed Up (table_of late) r jobs (take (d + 1) F)) (all_delayed Up (table_of early) r others (take (d + 1) G))) (sym same)
            (delays_under jobs (Each-filter (IsBefore late (r + d)) (λ job. level.higher job.task && nat_lt r job.release) (jobs_before late (r + d)) (each_before late (r + d)))
            (take (d + 1) F) (take (d + 1) G) (takes n d F G low (runs_under start base (suc m) is).cells))

        pub numbers_later : number_from Up early level support start base m ≤ number_from Up late level support start base m
        numbers_later =
            let G : List ℕ = response_start Up early level support start base m in
            let meets : ℕ → ℕ = λ e. at (all_delayed Up (table_of early) r (delaying early level r e) (take (e + 1) G)) e in
            let same : (task_at early level.own).deadline ≡ d = (task_later early late later level.own).deadline in
            subst (λ e. unit - meets e ≤ number_from Up late level support start base m) (sym same) (omega (arith, responses_under.dominates d))

-- the upper number of any release
pub upper_later : (early : List Task) (sheet : Sheet) (level : Level) (release : ℕ) → IsAccepted sheet → HaveTables early → Both IsLater early sheet.tasks → level.own < length sheet.tasks →
    number_from Up early level sheet.settings.support (point sheet.settings.cap 0) 0 release ≤ number_from Up sheet.tasks level sheet.settings.support (point sheet.settings.cap 0) 0 release
upper_later early sheet level release is have later own =
    let cap : ℕ = sheet.settings.cap in
    let task : IsTask cap (task_at sheet.tasks level.own) = is.tasks level.own _ own in
    numbers_later early sheet.tasks later have (have_tables sheet is) cap (omega (arith, task.deadline_high)) sheet.settings.support level (point cap 0) 0 release
    (under_self cap (point cap 0) (size_point cap 0) (point_chances cap 0)) (omega (arith, task.deadline_high))

pub later_times_lower_no_upper : LaterTimesLowerNoUpper
later_times_lower_no_upper early sheet level k is have later own =
    let is_later = task_later early sheet.tasks later level.own in
    let same : (nth_job early level.own k).release ≡ (nth_job sheet.tasks level.own k).release = ap₂ (λ o p. o + k * p) is_later.offset is_later.period in
    subst (λ r. number_from Up early level sheet.settings.support (point sheet.settings.cap 0) 0 r ≤ number_of Up sheet level (nth_job sheet.tasks level.own k)) (sym same)
    (upper_later early sheet level (nth_job sheet.tasks level.own k).release is have later own)
