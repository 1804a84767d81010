-- Which jobs a level releases at a time.
use Rattle.std.proofs.Common.{◌≡◌, ℕ, zero, suc, ◌+◌, ◌-◌, ◌*◌, ◌/◌, ◌%◌, ◌<◌, Bool, true, false, cond, nat_eq, List, [], ◌∷◌, ◌++◌, filter, length, Contains, refl, ap, sym, ◌∙◌, subst, arith}
use Rattle.std.specs.List.{AllByRecursion as Each}
use Rattle.std.proofs.Math.Nat.{mul-mod_left, mul-div_cancel}
use Rattle.std.proofs.lemmas.List.{nil_from_length}
use Rattle.std.proofs.lemmas.List.Elements.{All-from_recursion, All-contains, Contains-append_left, Contains-append_right}
use Rattle.std.proofs.lemmas.Bool.{and_from, le-leb, eq-eqb, ne_eqb, or_from, or_left, or_right, both_ways}
use Rattle.prta_mass.specs.Table.{IsTable}
use Rattle.prta_sheet.specs.Sheet.{Task, task_at}
use Rattle.prta_sheet.specs.Job.{Job, table_of, nth_job, is_release, released_by, released_at}
use Rattle.prta_sheet.proofs.Each.{Each-append, Each-weaker}
use Rattle.prta_ticksim.proofs.Each.{Each-both, Each_passes}
use Rattle.prta_ticksim.proofs.JobOrder.{IsReleased, released_at_is}
use Rattle.prta_backlog.specs.Level.{Level, higher_at, own_at, level_at, is_quiet}
use Rattle.prta_backlog.specs.Laws.{HaveTables}
use Rattle.prta_backlog.proofs.Released.{Each-filter, level_tables}
use Rattle.prta_response.proofs.Backlogs.{of_level}

-- all jobs of a time are released then
pub released_then : (tasks : List Task) (t : ℕ) → Each (λ job. job.release ≡ t) (released_at 0 tasks t)
released_then tasks t = Each-weaker (IsReleased 0 t) _ (λ job is. is.1) (released_at 0 tasks t) (released_at_is 0 tasks t)

-- what holds of the level's jobs of a time
pub record IsOfInstant (tasks : List Task) (level : Level) (t : ℕ) (job : Job) : Type 0 where
  pub member : of_level level job ≡ true
  pub now : job.release ≡ t
  pub table : IsTable (table_of tasks job)

pub instant_jobs : (tasks : List Task) (level : Level) (t : ℕ) → HaveTables tasks → Each (IsOfInstant tasks level t) (level_at tasks level t)
instant_jobs tasks level t have =
    let members : Each (λ job. of_level level job ≡ true) (level_at tasks level t) =
    Each-append _ (higher_at tasks level t) (own_at tasks level t)
    (Each_passes (λ job. level.higher job.task) _ (λ job h. or_right (nat_eq job.task level.own) (level.higher job.task) h) (released_at 0 tasks t))
    (Each_passes (λ job. nat_eq job.task level.own) _ (λ job h. or_left (nat_eq job.task level.own) (level.higher job.task) h) (released_at 0 tasks t)) in
    let now : Each (λ job. job.release ≡ t) (level_at tasks level t) =
    Each-append _ (higher_at tasks level t) (own_at tasks level t) (Each-filter _ _ (released_at 0 tasks t) (released_then tasks t)) (Each-filter _ _ (released_at 0 tasks t) (released_then tasks t)) in
    Each-weaker _ (IsOfInstant tasks level t) (λ job both. record { member = both.0; now = (both.1).0; table = (both.1).1 }) (level_at tasks level t)
    (Each-both _ _ (level_at tasks level t) members (Each-both _ _ (level_at tasks level t) now (level_tables tasks level t have)))

-- ---- a time without a release of the level

module _ {X : Type 0} where
  nil_parts : (xs ys : List X) → xs ++ ys ≡ [] → (xs ≡ []) × (ys ≡ [])
  nil_parts [] ys e = (refl, e)
  nil_parts (x ∷ xs) ys e = absurd (cc)

  none_passes : (p : X → Bool) (xs : List X) → filter p xs ≡ [] → Each (λ x. p x ≡ false) xs
  none_passes p [] e = tt
  none_passes p (x ∷ xs) e = by_flag (p x) refl (none_passes p xs) e
    where
      by_flag : (b : Bool) → p x ≡ b → (filter p xs ≡ [] → Each (λ x. p x ≡ false) xs) → cond b (x ∷ filter p xs) (filter p xs) ≡ [] → (p x ≡ false) × Each (λ x. p x ≡ false) xs
      by_flag true h later e = absurd (cc)
      by_flag false h later e = (h, later e)

pub none_of_level : (tasks : List Task) (level : Level) (t : ℕ) → level_at tasks level t ≡ [] → Each (λ job. of_level level job ≡ false) (released_at 0 tasks t)
none_of_level tasks level t none =
    let parts : (higher_at tasks level t ≡ []) × (own_at tasks level t ≡ []) = nil_parts (higher_at tasks level t) (own_at tasks level t) none in
    Each-weaker _ _ (λ job both. or_from (nat_eq job.task level.own) (level.higher job.task) both.1 both.0) (released_at 0 tasks t)
    (Each-both _ _ (released_at 0 tasks t) (none_passes (λ job. level.higher job.task) (released_at 0 tasks t) parts.0) (none_passes (λ job. nat_eq job.task level.own) (released_at 0 tasks t) parts.1))

-- ---- the own job

-- a task that releases a job at a time is among those that do
released_here : (t j : ℕ) (tasks : List Task) (i : ℕ) → i < length tasks → is_release (task_at tasks i) t ≡ true →
    Contains (released_at j tasks t) (record { task = j + i; number = (t - (task_at tasks i).offset) / (task_at tasks i).period; release = t })
released_here t j [] i low release = absurd (omega arith)
released_here t j (task ∷ tasks) zero low release =
    let job : Job = record { task = j + 0; number = (t - task.offset) / task.period; release = t } in
    let place : j ≡ j + 0 = omega arith in
    let one : released_by j task t ≡ job ∷ [] = ap (λ i. released_by i task t) place ∙ rw release refl in
    Contains-append_left (released_by j task t) (released_at (j + 1) tasks t) job (subst (λ jobs. Contains jobs job) (sym one) (0, omega arith, refl))
released_here t j (task ∷ tasks) (suc i) low release =
    let job : ℕ → Job = λ k. record { task = k; number = (t - (task_at tasks i).offset) / (task_at tasks i).period; release = t } in
    let place : j + 1 + i ≡ j + suc i = omega arith in
    Contains-append_right (released_by j task t) (released_at (j + 1) tasks t) (job (j + suc i)) (subst (λ k. Contains (released_at (j + 1) tasks t) (job k)) place (released_here t (j + 1) tasks i (omega arith) release))

-- the k-th job is released at its release
pub nth_released : (tasks : List Task) (i k : ℕ) → i < length tasks → 0 < (task_at tasks i).period → Contains (released_at 0 tasks (nth_job tasks i k).release) (nth_job tasks i k)
nth_released tasks i k low some =
    let task : Task = task_at tasks i in
    let t : ℕ = (nth_job tasks i k).release in
    let past : t - task.offset ≡ k * task.period = omega arith in
    let rest : (t - task.offset) % task.period ≡ 0 = ap (λ n. n % task.period) past ∙ mul-mod_left k task.period in
    let number : (t - task.offset) / task.period ≡ k = ap (λ n. n / task.period) past ∙ mul-div_cancel k some in
    let release : is_release task t ≡ true = and_from _ _ (le-leb task.offset t (omega arith)) (eq-eqb _ 0 rest) in
    let place : 0 + i ≡ i = omega arith in
    let job : ℕ → ℕ → Job = λ i n. record { task = i; number = n; release = t } in
    subst (λ n. Contains (released_at 0 tasks t) (job i n)) number (subst (λ j. Contains (released_at 0 tasks t) (job j ((t - task.offset) / task.period))) place (released_here t 0 tasks i low release))

-- so it makes an instant of its level
pub own_instant : (tasks : List Task) (level : Level) (k : ℕ) → level.own < length tasks → 0 < (task_at tasks level.own).period → is_quiet tasks level (nth_job tasks level.own k).release ≡ false
own_instant tasks level k low some =
    let job : Job = nth_job tasks level.own k in
    ne_eqb (length (level_at tasks level job.release)) 0 (λ e.
    let none : of_level level job ≡ false =
    All-contains (λ job. of_level level job ≡ false) (released_at 0 tasks job.release) job
    (All-from_recursion _ (released_at 0 tasks job.release) (none_of_level tasks level job.release (nil_from_length (level_at tasks level job.release) e))) (nth_released tasks level.own k low some) in
    both_ways (of_level level job) none (or_left (nat_eq level.own level.own) (level.higher level.own) (eq-eqb level.own level.own refl)))
