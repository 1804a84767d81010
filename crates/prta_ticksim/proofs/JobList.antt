-- The jobs before a time are so few, and so early, that no sum of their times is too large.
use Rattle.std.proofs.Common.{ℕ, zero, suc, ◌+◌, ◌-◌, ◌*◌, ◌/◌, ◌^◌, ◌<◌, ◌≤◌, true, false, if◌then◌else◌, List, [], ◌∷◌, length, All, sym, subst, arith}
use Rattle.std.proofs.lemmas.Nat.{mul-le}
use Rattle.std.proofs.lemmas.List.{length-append}
use Rattle.prta_sheet.specs.declared.limits.TheConstants.{TASK_LIMIT}
use Rattle.prta_sheet.specs.Sheet.{Task}
use Rattle.prta_sheet.specs.Job.{Job, is_release, released_by, released_at, jobs_before}
use Rattle.prta_jobs.specs.Laws.{JobsAreBefore}
use Rattle.prta_ticksim.specs.Times.{AreAllBefore, IsJobList}
use Rattle.prta_ticksim.proofs.Each.{AllPairs-from_pairs}
use Rattle.prta_ticksim.proofs.JobOrder.{InOrder, before_in_order}

-- ---- how many there are

one_at_most : (i : ℕ) (task : Task) (t : ℕ) → length (released_by i task t) ≤ 1
one_at_most i task t =
    let count : List Job → ℕ = length in
    elim (is_release task t) as (λ b. count (if b then (record { task = i; number = (t - task.offset) / task.period; release = t } ∷ []) else []) ≤ 1) [ true ↦ omega arith | false ↦ omega arith ]

few_released : (i : ℕ) (tasks : List Task) (t : ℕ) → length (released_at i tasks t) ≤ length tasks
few_released i [] t = omega arith
few_released i (task ∷ tasks) t = omega (arith, length-append (released_by i task t) (released_at (i + 1) tasks t), one_at_most i task t, few_released (i + 1) tasks t)

few_before : (tasks : List Task) (t : ℕ) → length (jobs_before tasks t) ≤ length tasks * t
few_before tasks zero = omega arith
few_before tasks (suc t) = omega (arith, length-append (jobs_before tasks t) (released_at 0 tasks t), few_released 0 tasks t, few_before tasks t)

-- ---- what they are

few_until : JobsAreBefore → (tasks : List Task) (t : ℕ) → length tasks ≤ TASK_LIMIT → t ≤ 2 ^ 32 → IsJobList (jobs_before tasks t)
few_until are_before tasks t some soon = record {
  tasks = λ i d low. omega (arith, (are_before tasks t i d low).task);
  releases = λ i d low. omega (arith, (are_before tasks t i d low).release);
  in_order = λ i j d before low. (AllPairs-from_pairs InOrder (jobs_before tasks t) (before_in_order tasks t) i j d before low).0;
  few = omega (arith, few_before tasks t, mul-le (length tasks) t TASK_LIMIT (2 ^ 32) some soon);
}

module _ (are_before : JobsAreBefore) (tasks : List Task) (jobs : List Job) (all : AreAllBefore tasks jobs) where
  pub is_job_list : length tasks ≤ TASK_LIMIT → IsJobList jobs
  is_job_list some = subst IsJobList (sym all.2) (few_until are_before tasks all.0 some all.1)

  pub of_tasks : All (λ job. job.task < length tasks) jobs
  of_tasks = let OfTasks : List Job → Type 0 = All (λ (job : Job). job.task < length tasks) in subst OfTasks (sym all.2) (λ i d low. (are_before tasks all.0 i d low).task)
