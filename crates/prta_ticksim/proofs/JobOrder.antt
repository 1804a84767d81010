-- The jobs before a time stand by release, no two of one task at one time.
use Rattle.std.proofs.Common.{◌≡◌, ℕ, zero, suc, ◌+◌, ◌-◌, ◌/◌, ◌≤◌, ◌<◌, true, false, if◌then◌else◌, List, [], ◌∷◌, refl, arith}
use Rattle.std.specs.List.{AllByRecursion as Each}
use Rattle.prta_sheet.specs.Sheet.{Task}
use Rattle.prta_sheet.specs.Job.{Job, is_release, released_by, released_at, jobs_before}
use Rattle.prta_ticksim.proofs.Each.{Pairs, Each-append, Each-weaker, Pairs-append}

-- listed by release, no two of one task at one time
abbrev pub InOrder : Job → Job → Type 0
InOrder a b = (a.release ≤ b.release) × (a.task ≡ b.task → a.release < b.release)

-- ---- at one time

-- released at t, by a task from i on
abbrev pub IsReleased : ℕ → ℕ → Job → Type 0
IsReleased i t job = (i ≤ job.task) × (job.release ≡ t)

one_released : (P : Job → Type 0) (i : ℕ) (task : Task) (t : ℕ) → P (record { task = i; number = (t - task.offset) / task.period; release = t }) → Each P (released_by i task t)
one_released P i task t h =
    elim (is_release task t) as (λ b. Each P (if b then (record { task = i; number = (t - task.offset) / task.period; release = t } ∷ []) else [])) [ true ↦ (h, tt) | false ↦ tt ]

pub released_at_is : (i : ℕ) (tasks : List Task) (t : ℕ) → Each (IsReleased i t) (released_at i tasks t)
released_at_is i [] t = tt
released_at_is i (task ∷ tasks) t =
    Each-append _ (released_by i task t) (released_at (i + 1) tasks t)
    (one_released _ i task t (omega arith, refl))
    (Each-weaker (IsReleased (i + 1) t) _ (λ job h. (omega arith, h.1)) (released_at (i + 1) tasks t) (released_at_is (i + 1) tasks t))

one_in_order : (i : ℕ) (task : Task) (t : ℕ) → Pairs InOrder (released_by i task t)
one_in_order i task t =
    elim (is_release task t) as (λ b. Pairs InOrder (if b then (record { task = i; number = (t - task.offset) / task.period; release = t } ∷ []) else [])) [ true ↦ (tt, tt) | false ↦ tt ]

released_in_order : (i : ℕ) (tasks : List Task) (t : ℕ) → Pairs InOrder (released_at i tasks t)
released_in_order i [] t = tt
released_in_order i (task ∷ tasks) t =
    Pairs-append InOrder (released_by i task t) (released_at (i + 1) tasks t) (one_in_order i task t) (released_in_order (i + 1) tasks t)
    (one_released _ i task t
    (Each-weaker (IsReleased (i + 1) t) _ (λ job h. (omega arith, λ same. absurd (omega arith))) (released_at (i + 1) tasks t) (released_at_is (i + 1) tasks t)))

-- ---- over times

abbrev pub IsBefore : ℕ → Job → Type 0
IsBefore t job = job.release < t

pub before_is : (tasks : List Task) (t : ℕ) → Each (IsBefore t) (jobs_before tasks t)
before_is tasks zero = tt
before_is tasks (suc t) =
    Each-append _ (jobs_before tasks t) (released_at 0 tasks t)
    (Each-weaker (IsBefore t) _ (λ job early. omega arith) (jobs_before tasks t) (before_is tasks t))
    (Each-weaker (IsReleased 0 t) _ (λ job h. omega (arith, h.1)) (released_at 0 tasks t) (released_at_is 0 tasks t))

pub before_in_order : (tasks : List Task) (t : ℕ) → Pairs InOrder (jobs_before tasks t)
before_in_order tasks zero = tt
before_in_order tasks (suc t) =
    Pairs-append InOrder (jobs_before tasks t) (released_at 0 tasks t) (before_in_order tasks t) (released_in_order 0 tasks t)
    (Each-weaker (IsBefore t) _
    (λ a early. Each-weaker (IsReleased 0 t) _ (λ b now. (omega arith, λ same. omega arith)) (released_at 0 tasks t) (released_at_is 0 tasks t))
    (jobs_before tasks t) (before_is tasks t))
