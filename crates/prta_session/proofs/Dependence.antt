-- What the numbers of a level's jobs depend on: a run over one sheet goes as over another that agrees with it.
use Rattle.std.proofs.Common.{◌≡◌, ℕ, zero, suc, ◌+◌, ◌-◌, ◌%◌, true, ◌&&◌, nat_lt, nat_eq, if◌then◌else◌, Option, List, [], ◌∷◌, ◌++◌, filter, fold, length, take, get_or, refl, ap, ap₂, sym, ◌∙◌, subst, arith}
use Rattle.std.specs.List.{AllByRecursion as Each}
use Rattle.std.proofs.lemmas.Bool.{eqb-true, and_parts}
use Rattle.prta_mass.specs.Unit.{unit}
use Rattle.prta_mass.specs.Table.{Table}
use Rattle.prta_mass.specs.Chances.{at, point}
use Rattle.prta_mass.specs.declared.direction.Dir.{Dir}
use Rattle.prta_mass.specs.declared.support.Support.{Support}
use Rattle.prta_sheet.specs.Sheet.{Task, Sheet, task_at}
use Rattle.prta_sheet.specs.Job.{Job, table_of, released_by, released_at, jobs_before}
use Rattle.prta_dist.specs.Addition.{added}
use Rattle.prta_preempt.specs.Delay.{delayed}
use Rattle.prta_backlog.specs.Level.{Level, higher_at, own_at, level_at, is_quiet, delaying}
use Rattle.prta_backlog.specs.LevelRun.{RunState, tables_added, found_at, after_instant, level_run}
use Rattle.prta_response.specs.Response.{all_delayed, response_start, number_from}
use Rattle.prta_ticksim.proofs.Each.{Each-append, Each_passes}
use Rattle.prta_session.specs.Laws.{ReleaseAlike, AgreeOn, NumbersDependOn}

releases_same : (i : ℕ) (a b : List Task) (t : ℕ) → length a ≡ length b → ((k : ℕ) → ReleaseAlike (task_at a k) (task_at b k)) → released_at i a t ≡ released_at i b t
releases_same i [] [] t n h = refl
releases_same i [] (y ∷ b) t n h = absurd (omega arith)
releases_same i (x ∷ a) [] t n h = absurd (omega arith)
releases_same i (x ∷ a) (y ∷ b) t n h = ap₂ (λ p q. p ++ q) (one x y (h 0)) (releases_same (i + 1) a b t (omega arith) (λ k. h (suc k)))
  where
    one : (x y : Task) → ReleaseAlike x y → released_by i x t ≡ released_by i y t
    one x y s = rw (s.offset, s.period) refl

jobs_same : (a b : List Task) (t : ℕ) → length a ≡ length b → ((k : ℕ) → ReleaseAlike (task_at a k) (task_at b k)) → jobs_before a t ≡ jobs_before b t
jobs_same a b zero n h = refl
jobs_same a b (suc t) n h = ap₂ (λ p q. p ++ q) (jobs_same a b t n h) (releases_same 0 a b t n h)

-- operations by the jobs' tables, for jobs whose tables agree
folds_same : {X : Type 0} (op : Table → Job → X → X) (f g : Job → Table) (jobs : List Job) → Each (λ j. f j ≡ g j) jobs → (x : X) →
    fold (λ x job. op (f job) job x) x jobs ≡ fold (λ x job. op (g job) job x) x jobs
folds_same op f g [] h x = refl
folds_same op f g (job ∷ jobs) h x = folds_same op f g jobs h.1 (op (f job) job x) ∙ ap (λ table. fold (λ x job. op (g job) job x) (op table job x) jobs) h.0

module _ (level : Level) (a b : Sheet) (agree : AgreeOn level a b) (dir : Dir) (support : Option Support) where
  table_same : (job : Job) → (task_at a.tasks job.task).cycle ≡ (task_at b.tasks job.task).cycle → table_of a.tasks job ≡ table_of b.tasks job
  table_same job e = ap (λ cycle. get_or cycle (job.number % length cycle) []) e

  level_same : (t : ℕ) → level_at a.tasks level t ≡ level_at b.tasks level t
  level_same t =
      ap (λ jobs. filter (λ (job : Job). level.higher job.task) jobs ++ filter (λ (job : Job). nat_eq job.task level.own) jobs)
      (releases_same 0 a.tasks b.tasks t agree.count agree.releases)

  level_tables : (t : ℕ) → Each (λ job. table_of a.tasks job ≡ table_of b.tasks job) (level_at b.tasks level t)
  level_tables t =
      Each-append _ (higher_at b.tasks level t) (own_at b.tasks level t)
      (Each_passes (λ (job : Job). level.higher job.task) _ (λ job e. table_same job (agree.higher job.task e)) (released_at 0 b.tasks t))
      (Each_passes (λ (job : Job). nat_eq job.task level.own) _
      (λ job e. table_same job (subst (λ i. (task_at a.tasks i).cycle ≡ (task_at b.tasks i).cycle) (sym (eqb-true job.task level.own e)) agree.own))
      (released_at 0 b.tasks t))

  added_same : (t : ℕ) (cells : List ℕ) → tables_added dir (table_of a.tasks) (level_at a.tasks level t) cells ≡ tables_added dir (table_of b.tasks) (level_at b.tasks level t) cells
  added_same t cells =
      ap (λ jobs. tables_added dir (table_of a.tasks) jobs cells) (level_same t)
      ∙ folds_same (λ table job cells. added dir table cells) (table_of a.tasks) (table_of b.tasks) (level_at b.tasks level t) (level_tables t) cells

  instant_same : (run : RunState) (t : ℕ) → after_instant dir a.tasks level support run t ≡ after_instant dir b.tasks level support run t
  instant_same run t = ap (λ (cells : List ℕ). record { cells = cells; since = t; begun = true }) (added_same t (found_at dir support run t))

  run_same : (start : List ℕ) (base n : ℕ) → level_run dir a.tasks level support start base n ≡ level_run dir b.tasks level support start base n
  run_same start base zero = refl
  run_same start base (suc n) =
      let t : ℕ = base + n in
      let run : RunState = level_run dir b.tasks level support start base n in
      ap (λ (run : RunState). if is_quiet a.tasks level t then run else after_instant dir a.tasks level support run t) (run_same start base n)
      ∙ ap₂ (λ (jobs : List Job) (next : RunState). if nat_eq (length jobs) 0 then run else next) (level_same t) (instant_same run t)

  response_same : (start : List ℕ) (base n d : ℕ) →
      all_delayed dir (table_of a.tasks) (base + n) (delaying a.tasks level (base + n) d) (take (d + 1) (response_start dir a.tasks level support start base n))
      ≡ all_delayed dir (table_of b.tasks) (base + n) (delaying b.tasks level (base + n) d) (take (d + 1) (response_start dir b.tasks level support start base n))
  response_same start base n d =
      let r : ℕ = base + n in
      let jobs : delaying a.tasks level r d ≡ delaying b.tasks level r d =
      ap (λ jobs. filter (λ (job : Job). level.higher job.task && nat_lt r job.release) jobs) (jobs_same a.tasks b.tasks (r + d) agree.count agree.releases) in
      let tables : Each (λ job. table_of a.tasks job ≡ table_of b.tasks job) (delaying b.tasks level r d) =
      Each_passes (λ (job : Job). level.higher job.task && nat_lt r job.release) _
      (λ job e. table_same job (agree.higher job.task (and_parts (level.higher job.task) (nat_lt r job.release) e).0)) (jobs_before b.tasks (r + d)) in
      ap₂ (λ (run : RunState) (jobs : List Job). all_delayed dir (table_of a.tasks) r jobs (take (d + 1) run.cells)) (run_same start base (suc n)) jobs
      ∙ folds_same (λ table job cells. delayed dir table (job.release - r) cells) (table_of a.tasks) (table_of b.tasks) (delaying b.tasks level r d) tables
      (take (d + 1) (response_start dir b.tasks level support start base n))

  number_same : (start : List ℕ) (base n : ℕ) → number_from dir a.tasks level support start base n ≡ number_from dir b.tasks level support start base n
  number_same start base n =
      ap (λ d. unit - at (all_delayed dir (table_of a.tasks) (base + n) (delaying a.tasks level (base + n) d) (take (d + 1) (response_start dir a.tasks level support start base n))) d) agree.deadline
      ∙ ap (λ cells. unit - at cells (task_at b.tasks level.own).deadline) (response_same start base n (task_at b.tasks level.own).deadline)

pub numbers_depend_on : NumbersDependOn
numbers_depend_on level a b agree dir job =
    ap₂ (λ cap support. number_from dir a.tasks level support (point cap 0) 0 job.release) agree.cap agree.support
    ∙ number_same level a b agree dir b.settings.support (point b.settings.cap 0) 0 job.release
