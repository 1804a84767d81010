-- A level's backlog, of all jobs with times, and what a list claims of it.
use Rattle.std.proofs.Common.{◌≡◌, ℕ, ◌+◌, ◌-◌, ◌*◌, ◌≤◌, Bool, true, false, cond, nat_le, List, [], ◌∷◌, ◌++◌, filter, length, append-nil, sum_by, refl, ap, sym, ◌∙◌, subst, arith}
use Rattle.std.specs.List.{AllByRecursion as Each}
use Rattle.std.proofs.lemmas.Bool.{le-leb}
use Rattle.std.proofs.lemmas.List.{nil_from_length, length-map}
use Rattle.std.proofs.lemmas.List.Sums.{sum_by-cons}
use Rattle.std.proofs.lemmas.List.Elements.{filter-append}
use Rattle.prta_mass.specs.Unit.{unit}
use Rattle.prta_mass.specs.Chances.{at, point}
use Rattle.prta_mass.specs.declared.direction.Dir.{Dir}
use Rattle.prta_mass.specs.declared.direction.Dir.TheVariants.{Down}
use Rattle.prta_sheet.specs.Sheet.{Task}
use Rattle.prta_sheet.specs.Job.{Job, table_of, jobs_before}
use Rattle.prta_sheet.specs.Assignment.{Timed}
use Rattle.prta_sheet.specs.Weights.{one_if, jobs_of}
use Rattle.prta_sheet.proofs.Weighing.{listed_passing}
use Rattle.prta_sheet.proofs.Each.{Each-from_map}
use Rattle.prta_jobs.specs.Backlog.{backlog_at}
use Rattle.prta_ticksim.proofs.Sums.{sum_by-filter}
use Rattle.prta_ticksim.proofs.TimeOf.{time_of}
use Rattle.prta_backlog.specs.Level.{Level, has_task}
use Rattle.prta_backlog.proofs.Released.{Each-filter}
use Rattle.prta_response.specs.Backlog.{level_backlog, BoundsBacklog}
use Rattle.prta_response.specs.Laws.{PointsBoundBacklogs}
use Rattle.prta_response.proofs.Shares.{safe-refl, safe-same, BoundsShare, Bounds, unit_bounds}
use Rattle.prta_response.proofs.Operations.{at-point}

abbrev pub of_level : Level → Job → Bool
of_level level job = has_task level job.task

-- ---- the backlog

-- what is kept of jobs with times is kept of the jobs
pub jobs_of-filter : (p : Job → Bool) (a : List Timed) → jobs_of (filter (λ e. p e.job) a) ≡ filter p (jobs_of a)
jobs_of-filter p [] = refl
jobs_of-filter p (e ∷ a) =
    elim (p e.job) as (λ b. jobs_of (cond b (e ∷ filter (λ e. p e.job) a) (filter (λ e. p e.job) a)) ≡ cond b (e.job ∷ filter p (jobs_of a)) (filter p (jobs_of a))) [
      | true ↦ ap (λ (jobs : List Job). e.job ∷ jobs) (jobs_of-filter p a)
      | false ↦ jobs_of-filter p a
    ]

-- a backlog falls as time passes without a release
backlog_falls : (backlog from s t : ℕ) (a : List Timed) → from ≤ s → Each (λ e. e.job.release ≤ s) a → s ≤ t → backlog_at backlog from a t ≡ backlog_at backlog from a s - (t - s)
backlog_falls backlog from s t [] reached early later = omega arith
backlog_falls backlog from s t (e ∷ a) reached early later = backlog_falls ((backlog - (e.job.release - from)) + e.time) e.job.release s t a early.0 early.1 later

-- and rises by the times of the jobs that are released at the end
backlog_rises : (backlog since t : ℕ) (a more : List Timed) → Each (λ e. e.job.release ≡ t) more → backlog_at backlog since (a ++ more) t ≡ backlog_at backlog since a t + sum_by (λ e. e.time) more
backlog_rises backlog since t [] [] now = omega arith
backlog_rises backlog since t [] (e ∷ more) now =
    backlog_rises ((backlog - (e.job.release - since)) + e.time) e.job.release t [] more now.1 ∙ omega (arith, now.0, sum_by-cons (λ (e : Timed). e.time) e more)
backlog_rises backlog since t (e ∷ a) more now = backlog_rises ((backlog - (e.job.release - since)) + e.time) e.job.release t a more now

module _ (level : Level) where
  -- a property of the level's jobs among some is one of those with times
  each_timed : (P : Job → Type 0) (jobs : List Job) (a : List Timed) → jobs_of a ≡ jobs → Each P (filter (of_level level) jobs) → Each (λ e. P e.job) (filter (λ e. of_level level e.job) a)
  each_timed P jobs a of_a each =
      Each-from_map P (λ e. e.job) (filter (λ e. of_level level e.job) a)
      (subst (Each P) (sym (jobs_of-filter (of_level level) a ∙ ap (filter (of_level level)) of_a)) each)

  pub level_falls : (s t : ℕ) (jobs : List Job) (a : List Timed) → jobs_of a ≡ jobs → Each (λ job. job.release ≤ s) (filter (of_level level) jobs) → s ≤ t → level_backlog level a t ≡ level_backlog level a s - (t - s)
  level_falls s t jobs a of_a early later = backlog_falls 0 0 s t (filter (λ e. of_level level e.job) a) (omega arith) (each_timed (λ job. job.release ≤ s) jobs a of_a early) later

  pub level_rises : (t : ℕ) (more : List Job) (a y : List Timed) → jobs_of y ≡ more → Each (λ job. job.release ≡ t) more → level_backlog level (a ++ y) t ≡ level_backlog level a t + time_of (of_level level) y
  level_rises t more a y of_y now =
      ap (λ es. backlog_at 0 0 es t) (filter-append (λ e. of_level level e.job) a y)
      ∙ backlog_rises 0 0 t (filter (λ e. of_level level e.job) a) (filter (λ e. of_level level e.job) y)
      (each_timed (λ job. job.release ≡ t) more y of_y (Each-filter (λ (job : Job). job.release ≡ t) (of_level level) more now))
      ∙ ap (λ s. level_backlog level a t + s) (sum_by-filter (λ e. of_level level e.job) (λ e. e.time) y)

  -- jobs of other tasks don't count
  pub level_stays : (t : ℕ) (more : List Job) (a y : List Timed) → jobs_of y ≡ more → filter (of_level level) more ≡ [] → level_backlog level (a ++ y) t ≡ level_backlog level a t
  level_stays t more a y of_y none =
      let idle : filter (λ e. of_level level e.job) y ≡ [] =
      nil_from_length (filter (λ e. of_level level e.job) y)
      (sym (length-map (filter (λ e. of_level level e.job) y) (λ (e : Timed). e.job)) ∙ ap length (jobs_of-filter (of_level level) y ∙ ap (filter (of_level level)) of_y ∙ none)) in
      ap (λ es. backlog_at 0 0 es t)
      (filter-append (λ e. of_level level e.job) a y ∙ ap (λ es. filter (λ e. of_level level e.job) a ++ es) idle ∙ append-nil (filter (λ e. of_level level e.job) a))

-- ---- the claim

module _ (dir : Dir) (tasks : List Task) (level : Level) (until t : ℕ) (cells : List ℕ) where
  abbrev pub BoundsShares : Type 0
  BoundsShares = Bounds dir (table_of tasks) (at cells) (jobs_before tasks until) (λ a. level_backlog level a t)

  -- sums over the list of assignments are sums by recursion over the jobs
  pub shares_from_backlog : BoundsBacklog dir tasks level until t cells → BoundsShares
  shares_from_backlog h k = safe-same dir _ _ _ _ refl (ap (λ s. unit * s) (sym (listed_passing (table_of tasks) (jobs_before tasks until) (λ a. nat_le (level_backlog level a t) k)))) (h k)

  pub backlog_from_shares : BoundsShares → BoundsBacklog dir tasks level until t cells
  backlog_from_shares h k = safe-same dir _ _ _ _ refl (ap (λ s. unit * s) (listed_passing (table_of tasks) (jobs_before tasks until) (λ a. nat_le (level_backlog level a t) k))) (h k)

-- the point at 0 claims that there is no backlog
pub points_bound : PointsBoundBacklogs
points_bound = record {
  empty = λ dir tasks level cap some. backlog_from_shares dir tasks level 0 0 (point cap 0) (λ k.
      let one : one_if (nat_le (level_backlog level [] 0) k) ≡ 1 = ap one_if (le-leb 0 k (omega arith)) in
      safe-same dir unit unit _ _ (ap (λ x. x * 1) (at-point cap k some) ∙ omega arith) (ap (λ x. unit * x) one ∙ omega arith) (safe-refl dir unit));
  later = λ tasks level cap t some. backlog_from_shares Down tasks level t t (point cap 0) (λ k.
      subst (λ x. BoundsShare Down (table_of tasks) x (jobs_before tasks t) (λ a. level_backlog level a t) k) (sym (at-point cap k some)) (unit_bounds (table_of tasks) (jobs_before tasks t) (λ a. nat_le (level_backlog level a t) k)));
}
