-- The own job that a level releases next, from instant to instant.
use Rattle.std.proofs.Common.{◌≡◌, ℕ, zero, suc, ◌+◌, ◌-◌, ◌*◌, ◌/◌, ◌%◌, ◌<◌, ◌≤◌, Bool, true, false, cond, ◌&&◌, ◌||◌, nat_le, nat_eq, List, [], ◌∷◌, ◌++◌, filter, length, append-nil, refl, ap, ap₂, sym, ◌∙◌, arith, inl, inr, mul-le-mul_right}
use Rattle.std.proofs.Math.Nat.{mul-mod_left, mul-div_cancel}
use Rattle.std.proofs.lemmas.Nat.{div-add-mod'}
use Rattle.std.proofs.lemmas.Bool.{cases_lt, and_parts, leb-true, eqb-true, le-leb, eq-eqb, ne_eqb}
use Rattle.std.proofs.lemmas.List.Elements.{filter-append}
use Rattle.prta_sheet.specs.Sheet.{Task, task_at}
use Rattle.prta_sheet.specs.Job.{Job, nth_job, is_release, released_by, released_at}
use Rattle.prta_jobs.specs.Instant.{IsLeastRelease}
use Rattle.prta_backlog.specs.Level.{Level, has_task, own_at}
use Rattle.prta_backlog.proofs.Released.{job_at, none_of}

-- a task's release of this number is its first one from a time on
pub record Awaits (task : Task) (number t : ℕ) : Type 0 where
  pub ahead : t ≤ task.offset + number * task.period
  pub next : task.offset + number * task.period < t + task.period

-- it stays so up to that release
pub awaits_still : (task : Task) (number s t : ℕ) → Awaits task number s → s ≤ t → t < task.offset + number * task.period → Awaits task number (t + 1)
awaits_still task number s t is low high = record { ahead = omega arith; next = omega (arith, is.next) }

-- and after it the next one is the first
pub awaits_next : (task : Task) (number t : ℕ) → 0 < task.period → t ≡ task.offset + number * task.period → Awaits task (number + 1) (t + 1)
awaits_next task number t some e = record { ahead = omega (arith, more number task.period); next = omega (arith, more number task.period) }
  where
    more : (n p : ℕ) → (n + 1) * p ≡ n * p + p
    more n p = omega arith

-- ---- whether the task releases a job

pub release_at : (task : Task) (number : ℕ) → is_release task (task.offset + number * task.period) ≡ true
release_at task number =
    let since : task.offset + number * task.period - task.offset ≡ number * task.period = omega arith in
    rw (le-leb task.offset (task.offset + number * task.period) (omega arith), since, mul-mod_left number task.period) refl

-- up to the awaited release there is no other
pub release_is : (task : Task) (number s t : ℕ) → Awaits task number s → s ≤ t → t ≤ task.offset + number * task.period → is_release task t ≡ true → t ≡ task.offset + number * task.period
release_is task number s t is low high h =
    let parts : (nat_le task.offset t ≡ true) × (nat_eq ((t - task.offset) % task.period) 0 ≡ true) = and_parts (nat_le task.offset t) (nat_eq ((t - task.offset) % task.period) 0) h in
    let whole : t ≡ task.offset + (t - task.offset) / task.period * task.period =
    omega (arith, div-add-mod' (t - task.offset) task.period, leb-true task.offset t parts.0, eqb-true ((t - task.offset) % task.period) 0 parts.1) in
    by_number ((t - task.offset) / task.period) whole
  where
    by_number : (m : ℕ) → t ≡ task.offset + m * task.period → t ≡ task.offset + number * task.period
    by_number m e =
        elim (cases_lt m number) [
          | inl before ↦
              let fewer : m + 1 ≤ number = omega arith in
              let earlier : (m + 1) * task.period ≤ number * task.period = mul-le-mul_right task.period fewer in
              let more : (m + 1) * task.period ≡ m * task.period + task.period = omega arith in
              absurd (omega (arith, is.next))
          | inr after ↦ omega (arith, mul-le-mul_right task.period after)
        ]

-- the next instant of a level is no later than the release that its own task awaits
pub instant_within : (tasks : List Task) (level : Level) (number s t : ℕ) → Awaits (task_at tasks level.own) number s → IsLeastRelease tasks (has_task level) s t →
    t ≤ (nth_job tasks level.own number).release
instant_within tasks level number s t is least =
    let r : ℕ = (nth_job tasks level.own number).release in
    elim (cases_lt r t) [
      | inl early ↦
          let none : (has_task level level.own && is_release (task_at tasks level.own) r) ≡ false = least.least r is.ahead early level.own in
          let own : has_task level level.own ≡ true = ap (λ b. b || level.higher level.own) (eq-eqb level.own level.own refl) in
          let here : (has_task level level.own && is_release (task_at tasks level.own) r) ≡ true = ap₂ (λ a b. a && b) own (release_at (task_at tasks level.own) number) in
          absurd (let both : true ≡ false = sym here ∙ none in cc)
      | inr late ↦ late
    ]

-- ---- the own jobs of a time

-- of the jobs released at a time, those of one task
one_task : (i : ℕ) (tasks : List Task) (t k : ℕ) → k < length tasks → filter (λ job. nat_eq job.task (i + k)) (released_at i tasks t) ≡ released_by (i + k) (task_at tasks k) t
one_task i [] t k low = absurd (omega arith)
one_task i (task ∷ tasks) t zero low =
    let same : i + 0 ≡ i = omega arith in
    let others : filter (λ job. nat_eq job.task (i + 0)) (released_at (i + 1) tasks t) ≡ [] =
    none_of (λ m. nat_eq m (i + 0)) t (i + 1) tasks (λ k low. ap (λ b. b && is_release (task_at tasks k) t) (ne_eqb (i + 1 + k) (i + 0) (λ e. omega arith))) in
    filter-append (λ (job : Job). nat_eq job.task (i + 0)) (released_by i task t) (released_at (i + 1) tasks t)
    ∙ ap₂ (λ (a b : List Job). a ++ b) (kept (is_release task t)) others
    ∙ append-nil (released_by i task t)
    ∙ ap (λ m. released_by m task t) (sym same)
  where
    kept : (b : Bool) → filter (λ (job : Job). nat_eq job.task (i + 0)) (cond b (job_at i task t ∷ []) []) ≡ cond b (job_at i task t ∷ []) []
    kept true = ap (λ c. cond c (job_at i task t ∷ []) []) (eq-eqb i (i + 0) (omega arith))
    kept false = refl
one_task i (task ∷ tasks) t (suc k) low =
    let place : i + 1 + k ≡ i + suc k = omega arith in
    filter-append (λ (job : Job). nat_eq job.task (i + suc k)) (released_by i task t) (released_at (i + 1) tasks t)
    ∙ ap₂ (λ (a b : List Job). a ++ b) (dropped (is_release task t))
    (ap (λ m. filter (λ (job : Job). nat_eq job.task m) (released_at (i + 1) tasks t)) (sym place) ∙ one_task (i + 1) tasks t k (omega arith) ∙ ap (λ m. released_by m (task_at tasks k) t) place)
  where
    dropped : (b : Bool) → filter (λ (job : Job). nat_eq job.task (i + suc k)) (cond b (job_at i task t ∷ []) []) ≡ []
    dropped true = ap (λ c. cond c (job_at i task t ∷ []) []) (ne_eqb i (i + suc k) (λ e. omega arith))
    dropped false = refl

own_at_is : (tasks : List Task) (level : Level) (t : ℕ) → level.own < length tasks → own_at tasks level t ≡ released_by level.own (task_at tasks level.own) t
own_at_is tasks level t low =
    let same : 0 + level.own ≡ level.own = omega arith in
    ap (λ m. filter (λ (job : Job). nat_eq job.task m) (released_at 0 tasks t)) (sym same) ∙ one_task 0 tasks t level.own low ∙ ap (λ m. released_by m (task_at tasks level.own) t) same

-- none, where the own task doesn't release one
pub no_own_job : (tasks : List Task) (level : Level) (t : ℕ) → level.own < length tasks → is_release (task_at tasks level.own) t ≡ false → own_at tasks level t ≡ []
no_own_job tasks level t low fails = own_at_is tasks level t low ∙ ap (λ b. cond b (job_at level.own (task_at tasks level.own) t ∷ []) []) fails

-- the job of a number at its release
pub own_job : (tasks : List Task) (level : Level) (number t : ℕ) → level.own < length tasks → 0 < (task_at tasks level.own).period → t ≡ (nth_job tasks level.own number).release →
    own_at tasks level t ≡ nth_job tasks level.own number ∷ []
own_job tasks level number t low some e =
    let task : Task = task_at tasks level.own in
    let since : task.offset + number * task.period - task.offset ≡ number * task.period = omega arith in
    let counted : (task.offset + number * task.period - task.offset) / task.period ≡ number = ap (λ m. m / task.period) since ∙ mul-div_cancel number some in
    ap (own_at tasks level) e
    ∙ own_at_is tasks level (nth_job tasks level.own number).release low
    ∙ ap (λ b. cond b (job_at level.own task (nth_job tasks level.own number).release ∷ []) []) (release_at task number)
    ∙ ap (λ m. record { task = level.own; number = m; release = (nth_job tasks level.own number).release } ∷ []) counted
