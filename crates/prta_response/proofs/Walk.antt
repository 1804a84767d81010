-- Walks through the delaying jobs, step by step.
use Rattle.std.proofs.Common.{◌≡◌, ℕ, ◌+◌, ◌-◌, ◌<◌, ◌≤◌, Bool, false, not, ◌&&◌, nat_eq, List, [], ◌∷◌, ◌++◌, filter, length, refl, ap, sym, ◌∙◌, subst, arith}
use Rattle.prta_sheet.specs.Sheet.{Task, task_at}
use Rattle.prta_sheet.specs.Job.{Job, released_at}
use Rattle.prta_jobs.specs.TaskSet.{holds}
use Rattle.prta_jobs.specs.Instant.{IsLeastRelease, IsInstant}
use Rattle.prta_backlog.specs.Level.{has_task, delaying}
use Rattle.prta_backlog.specs.Pass.{level_of}
use Rattle.prta_backlog.proofs.Released.{job_at, none_of}
use Rattle.prta_response.specs.Coming.{ComingState, to_come, IsComing, IsNextJob, IsFirst}
use Rattle.prta_response.proofs.DelayingJobs.{delaying_none, delaying_more, first_waiting}

-- a set without a task
pub nobody_waits : (set : ℕ → Bool) (jobs : List Job) → ((i : ℕ) → set i ≡ false) → filter (λ job. set job.task) jobs ≡ []
nobody_waits set [] none = refl
nobody_waits set (job ∷ jobs) none = let out : set job.task ≡ false = none job.task in rw out (nobody_waits set jobs none)

-- one without a task of the sheet
pub none_waits : (set : ℕ → Bool) (tasks : List Task) (t : ℕ) → ((i : ℕ) → i < length tasks → set i ≡ false) → filter (λ job. set job.task) (released_at 0 tasks t) ≡ []
none_waits set tasks t none = none_of set t 0 tasks (λ k low. let place : 0 + k ≡ k = omega arith in rw (place, none k low) refl)

module _ (tasks : List Task) (before : ComingState) where
  -- the first that waits is the next one
  pub taken : (waiting : List Bool) (i : ℕ) (task : Task) (job : Job) → IsComing tasks before → IsFirst before.waiting (length tasks) i →
      ((k : ℕ) → holds waiting k ≡ (not (nat_eq k i) && holds before.waiting k)) → task ≡ task_at tasks i → job ≡ job_at i task before.at →
      IsNextJob tasks before (record before { waiting = waiting }) job
  taken waiting i task job is first without read same =
      let at : ℕ = before.at in
      let place : 0 + i ≡ i = omega arith in
      let found : filter (λ (job : Job). holds before.waiting job.task) (released_at 0 tasks at) ≡ job_at (0 + i) (task_at tasks i) at ∷ filter (λ (job : Job). holds waiting job.task) (released_at 0 tasks at) =
      first_waiting (holds before.waiting) (holds waiting) at 0 tasks i first.inside (ap (holds before.waiting) place ∙ first.held) (is.released i first.held)
      (λ k low. let here : 0 + k ≡ k = omega arith in ap (holds before.waiting) here ∙ first.first k low)
      (λ k. without k ∙ ap (λ n. not (nat_eq k n) && holds before.waiting k) (sym place)) in
      let next : IsNextJob tasks before (record before { waiting = waiting }) (job_at i (task_at tasks i) at) = record {
        jobs = ap (λ js. js ++ delaying tasks (level_of before.higher before.own) at (before.end - at)) (found ∙ ap (λ n. job_at n (task_at tasks i) at ∷ filter (λ (job : Job). holds waiting job.task) (released_at 0 tasks at)) place);
        on_sheet = first.inside;
        now = refl;
      } in
      subst (IsNextJob tasks before (record before { waiting = waiting })) (sym (same ∙ ap (λ t. job_at i t at) read)) next

  module _ (set : ℕ → Bool) (is_level : (i : ℕ) → set i ≡ has_task (level_of before.higher before.own) i) (is : IsComing tasks before)
      (none : filter (λ job. holds before.waiting job.task) (released_at 0 tasks before.at) ≡ []) where
    rest_is : to_come tasks before ≡ delaying tasks (level_of before.higher before.own) before.at (before.end - before.at)
    rest_is = ap (λ js. js ++ delaying tasks (level_of before.higher before.own) before.at (before.end - before.at)) none

    -- none waits, and the next instant is past the end
    pub past_end : (t : ℕ) → IsLeastRelease tasks set (before.at + 1) t → before.end ≤ t → to_come tasks before ≡ []
    past_end t next past = rest_is ∙ delaying_none tasks (level_of before.higher before.own) before.at before.end is.inside set is_level t next past

    -- none waits, and all but the own task wait at the next instant
    pub stepped : (t : ℕ) (released : ℕ → Bool) (waiting : List Bool) → IsInstant tasks set (before.at + 1) t released →
        ((i : ℕ) → holds waiting i ≡ (not (nat_eq i before.own) && released i)) → t < before.end → to_come tasks (record before { at = t; waiting = waiting }) ≡ to_come tasks before
    stepped t released waiting next without inside =
        sym (rest_is ∙ delaying_more tasks (level_of before.higher before.own) before.at before.end is.inside set is_level t released (holds waiting) is.apart next without inside)
