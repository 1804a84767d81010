-- Fewer tasks above a task raise none of its upper numbers.
use Rattle.std.proofs.Common.{◌≡◌, ℕ, zero, suc, ◌+◌, ◌-◌, ◌<◌, ◌≤◌, Bool, true, false, ◌&&◌, nat_lt, nat_eq, Option, Some, None, List, [], ◌∷◌, filter, length, length-append, refl, sym, subst, arith, ⊎_elim, add-suc}
use Rattle.std.specs.List.{AllByRecursion as Each}
use Rattle.std.proofs.lemmas.Bool.{cond_both, cond-false, cases_Bool, eqb-true, eq-eqb, and_parts, and_from}
use Rattle.prta_mass.specs.declared.direction.Dir.TheVariants.{Up}
use Rattle.prta_mass.specs.declared.support.Support.{Support}
use Rattle.prta_mass.specs.Table.{IsTable}
use Rattle.prta_mass.specs.Chances.{at, point, IsChances}
use Rattle.prta_sheet.specs.Sheet.{Task, task_at}
use Rattle.prta_sheet.specs.Job.{Job, table_of, nth_job, released_at, jobs_before}
use Rattle.prta_sheet.specs.Accepted.{IsTask}
use Rattle.prta_sheet.proofs.Each.{Each-weaker}
use Rattle.prta_jobs.specs.Laws.{IsBefore}
use Rattle.prta_jobs.proofs.JobsBefore.{each_before}
use Rattle.prta_shift.proofs.Shifts.{reads_later}
use Rattle.prta_dist.specs.Addition.{added}
use Rattle.prta_dist.proofs.Chances.{point_chances}
use Rattle.prta_preempt.specs.Delay.{delayed}
use Rattle.prta_backlog.specs.Level.{Level, higher_at, own_at, level_at, is_quiet}
use Rattle.prta_backlog.specs.LevelRun.{RunState, tables_added, kept, found_at, after_instant, level_run}
use Rattle.prta_backlog.specs.Laws.{HaveTables}
use Rattle.prta_backlog.proofs.Released.{on_sheet, job_table, level_tables}
use Rattle.prta_backlog.proofs.Chances.{size_point}
use Rattle.prta_response.specs.Response.{response_start, response, number_from}
use Rattle.prta_response.proofs.Released.{own_instant}
use Rattle.prta_audsley.specs.Passing.{level}
use Rattle.prta_audsley.specs.Greedy.{IsPartOf}
use Rattle.prta_audsley.specs.Fewer.{FewerRaiseNoUpper}
use Rattle.prta_audsley.proofs.Tables.{have_tables}
use Rattle.prta_audsley.proofs.UpOperations.{Under, under_self, IsUp, adds, delays, sampled, samples, kept_begun, kept_lowers, shifts, takes, all_done, fewer_done, more_done, all_done-append}

filter_shorter : (p q : Job → Bool) → ((j : Job) → q j ≡ true → p j ≡ true) → (jobs : List Job) → length (filter q jobs) ≤ length (filter p jobs)
filter_shorter p q sub [] = omega arith
filter_shorter p q sub (job ∷ jobs) =
    let rest : length (filter q jobs) ≤ length (filter p jobs) = filter_shorter p q sub jobs in
    ⊎_elim
    (λ (in_q : q job ≡ true). let in_p : p job ≡ true = sub job in_q in rw (in_p, in_q) (omega arith))
    (λ (out_q : q job ≡ false). rw out_q (cond_both (p job) (job ∷ filter p jobs) (filter p jobs) (λ xs. length (filter q jobs) ≤ length xs) (λ e. omega arith) (λ e. rest)))
    (cases_Bool (q job))

module _ (tasks : List Task) (support : Option Support) (set part : ℕ → Bool) (own : ℕ) (sub : IsPartOf part set) (have : HaveTables tasks) (n : ℕ) (some : 0 < n) where
  abbrev more : Level
  more = level set own

  abbrev fewer : Level
  fewer = level part own

  -- ---- an instant

  -- what an instant finds: the list of the larger level, counted from its later last instant, is nowhere above that of the smaller one
  pub record Behind (run other : RunState) (t : ℕ) : Type 0 where
    pub since_le : other.since ≤ run.since
    pub since_now : run.since ≤ t
    pub size : length run.cells ≡ n
    pub size_too : length other.cells ≡ n
    pub chances : IsChances run.cells
    pub chances_too : IsChances other.cells
    pub below : (k : ℕ) → at (kept Up support run) k ≤ at (kept Up support other) (k + (run.since - other.since))

  found_under : (run other : RunState) (t : ℕ) → Behind run other t → Under n (found_at Up support run t) (found_at Up support other t)
  found_under run other t h =
      let low : Under n (kept Up support run) run.cells = kept_lowers n support run some h.size h.chances in
      let high : Under n (kept Up support other) other.cells = kept_lowers n support other some h.size_too h.chances_too in
      shifts n (t - run.since) (t - other.since) (run.since - other.since) (kept Up support run) (kept Up support other) some low.low_size high.low_size low.low high.low h.below
      (omega (arith, h.since_le, h.since_now))

  abbrev put : Job → List ℕ → List ℕ
  put job = added Up (table_of tasks job)

  ups : (t : ℕ) → Each (λ j. IsUp n (put j)) (released_at 0 tasks t)
  ups t = Each-weaker (λ (job : Job). job.task < 0 + length tasks) _ (λ job low. adds n (table_of tasks job) some (job_table tasks job have (omega arith))) (released_at 0 tasks t) (on_sheet 0 tasks t)

  -- the additions of an instant in both levels
  both_under : (t : ℕ) (F G : List ℕ) → Under n F G → Under n (tables_added Up (table_of tasks) (level_at tasks more t) F) (tables_added Up (table_of tasks) (level_at tasks fewer t) G)
  both_under t F G u =
      let rel : List Job = released_at 0 tasks t in
      let O : Job → Bool = λ job. nat_eq job.task own in
      let first : Under n (all_done n put (higher_at tasks more t) F) (all_done n put (higher_at tasks fewer t) G) =
      fewer_done n put (λ job. set job.task) (λ job. part job.task) (λ job. sub job.task) rel (ups t) F G u in
      let second : Under n (all_done n put (own_at tasks more t) (all_done n put (higher_at tasks more t) F)) (all_done n put (own_at tasks more t) (all_done n put (higher_at tasks fewer t) G)) =
      fewer_done n put O O (λ j e. e) rel (ups t) _ _ first in
      rw (all_done-append n put (higher_at tasks more t) (own_at tasks more t) F, all_done-append n put (higher_at tasks fewer t) (own_at tasks more t) G) second

  -- and of the larger level alone
  alone_under : (t : ℕ) (F G : List ℕ) → Under n F G → Under n (tables_added Up (table_of tasks) (level_at tasks more t) F) G
  alone_under t F G u =
      more_done n put (level_at tasks more t) (Each-weaker (λ job. IsTable (table_of tasks job)) _ (λ job is. adds n (table_of tasks job) some is) (level_at tasks more t) (level_tables tasks more t have)) F G u

  after_both : (run other : RunState) (t : ℕ) → Behind run other t → Under n (after_instant Up tasks more support run t).cells (after_instant Up tasks fewer support other t).cells
  after_both run other t h = both_under t (found_at Up support run t) (found_at Up support other t) (found_under run other t h)

  -- an instant of both
  both_behind : (run other : RunState) (t : ℕ) → Behind run other t → Behind (after_instant Up tasks more support run t) (after_instant Up tasks fewer support other t) (suc t)
  both_behind run other t h =
      let F : List ℕ = (after_instant Up tasks more support run t).cells in
      let G : List ℕ = (after_instant Up tasks fewer support other t).cells in
      let u : Under n F G = after_both run other t h in
      let v : Under n (sampled support F) (sampled support G) = (samples n support some).keeps F G u in
      record {
        since_le = omega arith;
        since_now = omega arith;
        size = u.low_size;
        size_too = u.high_size;
        chances = u.low;
        chances_too = u.high;
        below = λ k.
            let none : k + (t - t) ≡ k = omega arith in
            rw (kept_begun support F t, kept_begun support G t, none) (v.dominates k);
      }

  -- an instant of the larger level alone
  alone_behind : (run other : RunState) (t : ℕ) → Behind run other t → Behind (after_instant Up tasks more support run t) other (suc t)
  alone_behind run other t h =
      let F : List ℕ = (after_instant Up tasks more support run t).cells in
      let G : List ℕ = found_at Up support other t in
      let u : Under n F G = alone_under t (found_at Up support run t) G (found_under run other t h) in
      let high : Under n (kept Up support other) other.cells = kept_lowers n support other some h.size_too h.chances_too in
      record {
        since_le = omega (arith, h.since_le, h.since_now);
        since_now = omega arith;
        size = u.low_size;
        size_too = h.size_too;
        chances = u.low;
        chances_too = h.chances_too;
        below = λ k.
            let v : Under n (sampled support F) F = (samples n support some).lowers F u.low_size u.low in
            let later : at G k ≡ at (kept Up support other) (k + (t - other.since)) = reads_later (t - other.since) (kept Up support other) k (omega (arith, high.low_size)) in
            rw (kept_begun support F t) (omega (arith, v.dominates k, u.dominates k, later));
      }

  -- an instant of the smaller level is one of the larger
  quiet_too : (t : ℕ) → is_quiet tasks more t ≡ true → is_quiet tasks fewer t ≡ true
  quiet_too t e =
      let none : length (level_at tasks more t) ≡ 0 = eqb-true (length (level_at tasks more t)) 0 e in
      eq-eqb (length (level_at tasks fewer t)) 0
      (omega (
        arith,
        none,
        length-append (higher_at tasks more t) (own_at tasks more t),
        length-append (higher_at tasks fewer t) (own_at tasks fewer t),
        filter_shorter (λ job. set job.task) (λ job. part job.task) (λ j. sub j.task) (released_at 0 tasks t),
      ))

  -- ---- the level runs, from two lists of which the first is nowhere above the second

  pub runs_behind : (start other : List ℕ) (base m : ℕ) → Under n start other →
      Behind (level_run Up tasks more support start base m) (level_run Up tasks fewer support other base m) (base + m)
  runs_behind start other base zero u = record {
    since_le = omega arith;
    since_now = omega arith;
    size = u.low_size;
    size_too = u.high_size;
    chances = u.low;
    chances_too = u.high;
    below = λ k. let e : k + (base - base) ≡ k = omega arith in rw (kept_start support start base, kept_start support other base, e) (u.dominates k);
  }
    where
      kept_start : (support : Option Support) (cells : List ℕ) (since : ℕ) → kept Up support (record { cells = cells; since = since; begun = false }) ≡ cells
      kept_start None cells since = refl
      kept_start (Some s) cells since = refl
  runs_behind start other base (suc m) u =
      let run : RunState = level_run Up tasks more support start base m in
      let run_too : RunState = level_run Up tasks fewer support other base m in
      let t : ℕ = base + m in
      let before : Behind run run_too t = runs_behind start other base m u in
      rw add-suc (⊎_elim
      (λ (e : is_quiet tasks more t ≡ true).
      let e_too : is_quiet tasks fewer t ≡ true = quiet_too t e in
      rw (e, e_too) (still before))
      (λ (e : is_quiet tasks more t ≡ false).
      rw e (cond_both (is_quiet tasks fewer t) run_too (after_instant Up tasks fewer support run_too t) (λ x. Behind (after_instant Up tasks more support run t) x (suc t))
      (λ quiet. alone_behind run run_too t before) (λ e_too. both_behind run run_too t before)))
      (cases_Bool (is_quiet tasks more t)))
    where
      still : {run other : RunState} {t : ℕ} → Behind run other t → Behind run other (suc t)
      still h = record { since_le = h.since_le; since_now = omega (arith, h.since_now); size = h.size; size_too = h.size_too; chances = h.chances; chances_too = h.chances_too; below = h.below }

  -- ---- the response runs

  module _ (start : List ℕ) (base m : ℕ) (is : Under n start start) (instant : is_quiet tasks fewer (base + m) ≡ false) where
    abbrev r : ℕ
    r = base + m

    instant_too : is_quiet tasks more r ≡ false
    instant_too = ⊎_elim
        (λ (e : is_quiet tasks more r ≡ true). let quiet : is_quiet tasks fewer r ≡ true = quiet_too r e in cc)
        (λ (e : is_quiet tasks more r ≡ false). e)
        (cases_Bool (is_quiet tasks more r))

    starts_under : Under n (response_start Up tasks more support start base m) (response_start Up tasks fewer support start base m)
    starts_under =
        let run : RunState = level_run Up tasks more support start base m in
        let other : RunState = level_run Up tasks fewer support start base m in
        let here : level_run Up tasks more support start base (suc m) ≡ after_instant Up tasks more support run r = cond-false (is_quiet tasks more r) run (after_instant Up tasks more support run r) instant_too in
        let there : level_run Up tasks fewer support start base (suc m) ≡ after_instant Up tasks fewer support other r = cond-false (is_quiet tasks fewer r) other (after_instant Up tasks fewer support other r) instant in
        subst (λ (x : RunState). Under n x.cells (response_start Up tasks fewer support start base m)) (sym here)
        (subst (λ (x : RunState). Under n (after_instant Up tasks more support run r).cells x.cells) (sym there) (after_both run other r (runs_behind start start base m is)))

    module _ (low : (task_at tasks own).deadline < n) where
      abbrev d : ℕ
      d = (task_at tasks own).deadline

      abbrev put_off : Job → List ℕ → List ℕ
      put_off job = delayed Up (table_of tasks job) (job.release - r)

      -- fewer delays
      responses_under : Under (d + 1) (response Up tasks more r (response_start Up tasks more support start base m)) (response Up tasks fewer r (response_start Up tasks fewer support start base m))
      responses_under =
          let later : (ℕ → Bool) → Job → Bool = λ higher job. higher job.task && nat_lt r job.release in
          fewer_done (d + 1) put_off (later set) (later part)
          (λ j e. let both : (part j.task ≡ true) × (nat_lt r j.release ≡ true) = and_parts (part j.task) (nat_lt r j.release) e in and_from (set j.task) (nat_lt r j.release) (sub j.task both.0) both.1)
          (jobs_before tasks (r + d))
          (Each-weaker (IsBefore tasks (r + d)) _ (λ job before. delays (d + 1) (table_of tasks job) (job.release - r) (omega (arith, before.release)) (job_table tasks job have before.task)) (jobs_before tasks (r + d)) (each_before tasks (r + d)))
          _ _ (takes n d (response_start Up tasks more support start base m) (response_start Up tasks fewer support start base m) low starts_under)

      pub numbers_fewer : number_from Up tasks fewer support start base m ≤ number_from Up tasks more support start base m
      numbers_fewer = omega (arith, responses_under.dominates d)

pub fewer_raise_no_upper : FewerRaiseNoUpper
fewer_raise_no_upper sheet set part task k is listed sub =
    let cap : ℕ = sheet.settings.cap in
    let own : IsTask cap (task_at sheet.tasks task) = is.tasks task _ listed in
    let release : ℕ = (nth_job sheet.tasks task k).release in
    let from : 0 + release ≡ release = omega arith in
    numbers_fewer sheet.tasks sheet.settings.support set part task sub (have_tables sheet is) cap (omega (arith, own.deadline_high)) (point cap 0) 0 release (under_self cap (point cap 0) (size_point cap 0) (point_chances cap 0))
    (subst (λ t. is_quiet sheet.tasks (level part task) t ≡ false) (sym from) (own_instant sheet.tasks (level part task) k listed (omega (arith, own.period_low))))
    (omega (arith, own.deadline_high))
