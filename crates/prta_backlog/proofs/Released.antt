-- Which jobs a level releases at a time, and their tables.
use Rattle.std.proofs.Common.{◌≡◌, ℕ, zero, suc, ◌+◌, ◌-◌, ◌/◌, ◌%◌, ◌<◌, Bool, true, false, cond, ◌&&◌, ◌||◌, nat_eq, List, [], ◌∷◌, ◌++◌, filter, length, length-append, refl, ap, ap₂, ◌∙◌, arith, ⊎_elim}
use Rattle.std.specs.List.{AllByRecursion as Each}
use Rattle.std.proofs.Math.Nat.{mod-lt}
use Rattle.std.proofs.lemmas.Bool.{cases_Bool, and_parts, cond_both}
use Rattle.std.proofs.lemmas.List.Elements.{filter-append}
use Rattle.prta_mass.specs.Table.{IsTable}
use Rattle.prta_sheet.specs.Sheet.{Task, task_at}
use Rattle.prta_sheet.specs.Job.{Job, table_of, is_release, released_by, released_at}
use Rattle.prta_sheet.proofs.Each.{Each-append, Each-weaker}
use Rattle.prta_jobs.specs.Instant.{is_released, IsOnSheet, HasTask}
use Rattle.prta_backlog.specs.Level.{Level, has_task, higher_at, own_at, level_at}
use Rattle.prta_backlog.specs.Laws.{HaveTables}

-- ---- the tasks of released jobs

-- the job that task i releases at a time
abbrev pub job_at : ℕ → Task → ℕ → Job
job_at i task t = record { task = i; number = (t - task.offset) / task.period; release = t }

pub on_sheet : (i : ℕ) (tasks : List Task) (t : ℕ) → Each (λ job. job.task < i + length tasks) (released_at i tasks t)
on_sheet i [] t = tt
on_sheet i (task ∷ tasks) t =
    Each-append _ (released_by i task t) (released_at (i + 1) tasks t)
    (elim (is_release task t) as (λ b. Each (λ job. job.task < i + length (task ∷ tasks)) (cond b (job_at i task t ∷ []) [])) [ true ↦ (let low : i < i + length (task ∷ tasks) = omega arith in low, tt) | false ↦ tt ])
    (Each-weaker (λ (job : Job). job.task < i + 1 + length tasks) _ (λ job low. omega arith) (released_at (i + 1) tasks t) (on_sheet (i + 1) tasks t))

pub Each-filter : {X : Type 0} (P : X → Type 0) (p : X → Bool) (xs : List X) → Each P xs → Each P (filter p xs)
Each-filter P p [] h = tt
Each-filter P p (x ∷ xs) h = cond_both (p x) (x ∷ filter p xs) (filter p xs) (Each P) (λ e. (h.0, Each-filter P p xs h.1)) (λ e. Each-filter P p xs h.1)

-- the table of a job of a task on the sheet is one
pub job_table : (tasks : List Task) (job : Job) → HaveTables tasks → job.task < length tasks → IsTable (table_of tasks job)
job_table tasks job have low =
    let cycle = (task_at tasks job.task).cycle in
    let some : 0 < length cycle = have.some job.task _ low in
    have.tables job.task _ low (job.number % length cycle) [] (mod-lt job.number some)

pub level_tables : (tasks : List Task) (level : Level) (t : ℕ) → HaveTables tasks → Each (λ job. IsTable (table_of tasks job)) (level_at tasks level t)
level_tables tasks level t have =
    let all : Each (λ job. IsTable (table_of tasks job)) (released_at 0 tasks t) =
    Each-weaker (λ (job : Job). job.task < 0 + length tasks) _ (λ job low. job_table tasks job have (omega arith)) (released_at 0 tasks t) (on_sheet 0 tasks t) in
    Each-append _ (higher_at tasks level t) (own_at tasks level t) (Each-filter _ _ (released_at 0 tasks t) all) (Each-filter _ _ (released_at 0 tasks t) all)

-- ---- whether a level releases a job

module _ (p : ℕ → Bool) (t : ℕ) where
  pub none_of : (i : ℕ) (tasks : List Task) → ((k : ℕ) → k < length tasks → (p (i + k) && is_release (task_at tasks k) t) ≡ false) → filter (λ job. p job.task) (released_at i tasks t) ≡ []
  none_of i [] h = refl
  none_of i (task ∷ tasks) h =
      let here : (p i && is_release task t) ≡ false = ap (λ k. p k && is_release task t) (let e : i ≡ i + 0 = omega arith in e) ∙ h 0 (omega arith) in
      let rest : filter (λ job. p job.task) (released_at (i + 1) tasks t) ≡ [] = none_of (i + 1) tasks (λ k low. ap (λ n. p n && is_release (task_at tasks k) t) (let e : i + 1 + k ≡ i + suc k = omega arith in e) ∙ h (suc k) (omega arith)) in
      filter-append (λ (job : Job). p job.task) (released_by i task t) (released_at (i + 1) tasks t)
      ∙ ap₂ (λ (a b : List Job). a ++ b) (one (is_release task t) here) rest
    where
      one : (b : Bool) → (p i && b) ≡ false → filter (λ (job : Job). p job.task) (cond b (job_at i task t ∷ []) []) ≡ []
      one true e = (elim (p i) as (λ c. (c && true) ≡ false → cond c (job_at i task t ∷ []) [] ≡ []) [ true ↦ λ e. cc | false ↦ λ e. refl ]) e
      one false e = refl

  some_of : (i : ℕ) (tasks : List Task) (k : ℕ) → k < length tasks → p (i + k) ≡ true → is_release (task_at tasks k) t ≡ true → 0 < length (filter (λ job. p job.task) (released_at i tasks t))
  some_of i [] k low is at = absurd (omega arith)
  some_of i (task ∷ tasks) zero low is at =
      let own : p i ≡ true = ap p (let e : i ≡ i + 0 = omega arith in e) ∙ is in
      let first : filter (λ (job : Job). p job.task) (released_by i task t) ≡ job_at i task t ∷ [] = rw (at, own) refl in
      omega (
        arith,
        ap length (filter-append (λ (job : Job). p job.task) (released_by i task t) (released_at (i + 1) tasks t)),
        length-append (filter (λ (job : Job). p job.task) (released_by i task t)) (filter (λ (job : Job). p job.task) (released_at (i + 1) tasks t)),
        ap length first,
      )
  some_of i (task ∷ tasks) (suc k) low is at =
      let own : p (i + 1 + k) ≡ true = ap p (let e : i + 1 + k ≡ i + suc k = omega arith in e) ∙ is in
      let rest : 0 < length (filter (λ job. p job.task) (released_at (i + 1) tasks t)) = some_of (i + 1) tasks k (omega arith) own at in
      omega (
        arith,
        ap length (filter-append (λ (job : Job). p job.task) (released_by i task t) (released_at (i + 1) tasks t)),
        length-append (filter (λ (job : Job). p job.task) (released_by i task t)) (filter (λ job. p job.task) (released_at (i + 1) tasks t)),
      )

-- where no task of the level releases one
pub none_at : (tasks : List Task) (level : Level) (t : ℕ) → ((i : ℕ) → is_released tasks (has_task level) t i ≡ false) → level_at tasks level t ≡ []
none_at tasks level t none =
    ap₂ (λ (a b : List Job). a ++ b)
    (none_of level.higher t 0 tasks (λ k low. by_higher k (none k)))
    (none_of (λ i. nat_eq i level.own) t 0 tasks (λ k low. by_own k (none k)))
  where
    by_higher : (k : ℕ) → ((nat_eq k level.own || level.higher k) && is_release (task_at tasks k) t) ≡ false → (level.higher (0 + k) && is_release (task_at tasks k) t) ≡ false
    by_higher k e =
        let same : 0 + k ≡ k = omega arith in
        rw same (parts (nat_eq k level.own) (level.higher k) (is_release (task_at tasks k) t) e)
      where
        parts : (a b c : Bool) → ((a || b) && c) ≡ false → (b && c) ≡ false
        parts true true c e = e
        parts true false c e = refl
        parts false b c e = e

    by_own : (k : ℕ) → ((nat_eq k level.own || level.higher k) && is_release (task_at tasks k) t) ≡ false → (nat_eq (0 + k) level.own && is_release (task_at tasks k) t) ≡ false
    by_own k e =
        let same : 0 + k ≡ k = omega arith in
        rw same (parts (nat_eq k level.own) (level.higher k) (is_release (task_at tasks k) t) e)
      where
        parts : (a b c : Bool) → ((a || b) && c) ≡ false → (a && c) ≡ false
        parts true b c e = e
        parts false b c e = refl

-- where one does
pub some_at : (tasks : List Task) (level : Level) (t : ℕ) → IsOnSheet tasks (has_task level) → HasTask (is_released tasks (has_task level) t) → 0 < length (level_at tasks level t)
some_at tasks level t within some =
    let k : ℕ = some.0 in
    let parts : (has_task level k ≡ true) × (is_release (task_at tasks k) t ≡ true) = and_parts (has_task level k) (is_release (task_at tasks k) t) some.1 in
    let low : k < length tasks = within k parts.0 in
    let same : 0 + k ≡ k = omega arith in
    let total : length (level_at tasks level t) ≡ length (higher_at tasks level t) + length (own_at tasks level t) = length-append (higher_at tasks level t) (own_at tasks level t) in
    ⊎_elim
    (λ (own : nat_eq k level.own ≡ true). omega (arith, some_of (λ i. nat_eq i level.own) t 0 tasks k low (ap (λ i. nat_eq i level.own) same ∙ own) parts.1))
    (λ (other : nat_eq k level.own ≡ false). let higher : level.higher k ≡ true = second (nat_eq k level.own) (level.higher k) other parts.0 in omega (arith, some_of level.higher t 0 tasks k low (ap level.higher same ∙ higher) parts.1))
    (cases_Bool (nat_eq k level.own))
  where
    second : (a b : Bool) → a ≡ false → (a || b) ≡ true → b ≡ true
    second true b e h = cc
    second false b e h = h
