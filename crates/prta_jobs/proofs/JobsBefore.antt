-- All jobs before a time: each is of one of the tasks, is released before that time, and is the job of its number.
use Rattle.std.proofs.Common.{◌≡◌, ℕ, zero, suc, ◌+◌, ◌-◌, ◌*◌, ◌/◌, ◌%◌, ◌<◌, ◌≤◌, Bool, true, false, nat_le, nat_eq, cond, List, [], ◌∷◌, ◌++◌, length, get_or, All, refl, sym, ap, ◌∙◌, arith}
use Rattle.std.specs.List.{AllByRecursion as Each}
use Rattle.std.proofs.lemmas.Bool.{and_parts, leb-true, eqb-true}
use Rattle.std.proofs.lemmas.Nat.{div-add-mod'}
use Rattle.prta_sheet.specs.Sheet.{Task, task_at}
use Rattle.prta_sheet.specs.Job.{Job, is_release, released_by, released_at, jobs_before}
use Rattle.prta_jobs.specs.Laws.{IsBefore}

module _ {X : Type 0} where
  each_append : (P : X → Type 0) (xs ys : List X) → Each P xs → Each P ys → Each P (xs ++ ys)
  each_append P [] ys first second = second
  each_append P (x ∷ xs) ys first second = (first.0, each_append P xs ys first.1 second)

  pub each_weaker : (P Q : X → Type 0) → ((x : X) → P x → Q x) → (xs : List X) → Each P xs → Each Q xs
  each_weaker P Q f [] p = tt
  each_weaker P Q f (x ∷ xs) p = (f x p.0, each_weaker P Q f xs p.1)

  each_at : (P : X → Type 0) (xs : List X) (d : X) (i : ℕ) → Each P xs → i < length xs → P (get_or xs i d)
  each_at P [] d i p low = absurd (omega arith)
  each_at P (x ∷ xs) d zero p low = p.0
  each_at P (x ∷ xs) d (suc i) p low = each_at P xs d i p.1 (omega arith)

-- the release of the job that a task releases at t, by the job's number
release_is : (task : Task) (t : ℕ) → is_release task t ≡ true → t ≡ task.offset + (t - task.offset) / task.period * task.period
release_is task t h =
    let parts : (nat_le task.offset t ≡ true) × (nat_eq ((t - task.offset) % task.period) 0 ≡ true) = and_parts (nat_le task.offset t) (nat_eq ((t - task.offset) % task.period) 0) h in
    omega (arith, div-add-mod' (t - task.offset) task.period, leb-true task.offset t parts.0, eqb-true ((t - task.offset) % task.period) 0 parts.1)

module _ (all : List Task) where
  later : (t : ℕ) (job : Job) → IsBefore all t job → IsBefore all (suc t) job
  later t job is = record { task = is.task; release = omega (arith, is.release); numbered = is.numbered }

  -- what the tasks from j on release at t
  released : (j : ℕ) (tasks : List Task) (t : ℕ) → j + length tasks ≤ length all → ((k : ℕ) → k < length tasks → task_at all (j + k) ≡ task_at tasks k) → Each (IsBefore all (suc t)) (released_at j tasks t)
  released j [] t within same = tt
  released j (task ∷ tasks) t within same =
      each_append (IsBefore all (suc t)) (released_by j task t) (released_at (j + 1) tasks t) (by_flag (is_release task t) (λ e. e))
      (released (j + 1) tasks t (omega arith) (λ k low. let place : j + 1 + k ≡ j + suc k = omega arith in ap (task_at all) place ∙ same (suc k) (omega arith)))
    where
      own : task_at all j ≡ task
      own = let place : j ≡ j + 0 = omega arith in ap (task_at all) place ∙ same 0 (omega arith)

      job : ℕ → Job
      job time = record { task = j; number = (t - task.offset) / task.period; release = time }

      by_flag : (b : Bool) → (b ≡ true → is_release task t ≡ true) → Each (IsBefore all (suc t)) (cond b (job t ∷ []) [])
      by_flag true is =
          let when : t ≡ (task_at all j).offset + (t - task.offset) / task.period * (task_at all j).period =
          release_is task t (is refl) ∙ ap (λ (task' : Task). task'.offset + (t - task.offset) / task.period * task'.period) (sym own) in
          (record { task = omega arith; release = omega arith; numbered = ap job when }, tt)
      by_flag false is = tt

  pub each_before : (t : ℕ) → Each (IsBefore all t) (jobs_before all t)
  each_before zero = tt
  each_before (suc t) =
      each_append (IsBefore all (suc t)) (jobs_before all t) (released_at 0 all t)
      (each_weaker (IsBefore all t) (IsBefore all (suc t)) (later t) (jobs_before all t) (each_before t))
      (released 0 all t (omega arith) (λ k low. let place : 0 + k ≡ k = omega arith in ap (task_at all) place))

pub are_before : (tasks : List Task) (t : ℕ) → All (IsBefore tasks t) (jobs_before tasks t)
are_before tasks t = λ i d low. each_at (IsBefore tasks t) (jobs_before tasks t) d i (each_before tasks t) low
