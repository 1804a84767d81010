-- Times that are in their jobs' tables.
use Rattle.std.proofs.Common.{◌≡◌, ℕ, suc, ◌%◌, ◌<◌, true, false, nat_eq, None, List, [], ◌∷◌, length, get_or, All, refl, ap, sym, ◌∙◌, arith, inl, inr}
use Rattle.std.proofs.lemmas.Bool.{or_cases, eqb-true, not-false, both_ways}
use Rattle.std.proofs.Math.Nat.{mod-lt}
use Rattle.prta_mass.specs.Table.{Table, IsTable}
use Rattle.prta_sheet.specs.Sheet.{Task, task_at}
use Rattle.prta_sheet.specs.Job.{Job, table_of}
use Rattle.prta_sheet.specs.Accepted.{IsTask}
use Rattle.prta_ticksim.specs.Times.{timed_jobs, job_at}
use Rattle.prta_ticksim.specs.Start.{has_time, is_foreign, first_foreign}
use Rattle.prta_ticksim.proofs.TimedJobs.{timed_at, no_timed, timed_get, length-timed}
use Rattle.prta_ticksim.proofs.Positions.{nowhere_fails}

-- a table's times are at least 1
positive : (table : Table) (time : ℕ) → ((i : ℕ) → i < length table → 0 < (get_or table i (0, 0)).0) → has_time table time ≡ true → 0 < time
positive [] time above has = absurd (both_ways false refl has)
positive (pair ∷ table) time above has =
    elim (or_cases (nat_eq pair.0 time) (has_time table time) has) [
      | inl here ↦ omega (arith, eqb-true pair.0 time here, above 0 (omega arith))
      | inr later ↦ positive table time (λ i low. above (suc i) (omega arith)) later
    ]

-- so where no time is foreign to its job's table, all are at least 1
pub times_positive : (cap : ℕ) (tasks : List Task) (jobs : List Job) (times : List ℕ) → length times ≡ length jobs → All (IsTask cap) tasks → All (λ job. job.task < length tasks) jobs →
    first_foreign tasks jobs times ≡ None → (i : ℕ) → i < length jobs → 0 < get_or times i 0
times_positive cap tasks jobs times each accepted on_sheet none i low =
    let fails : is_foreign tasks (timed_at jobs times i) ≡ false =
    ap (is_foreign tasks) (sym (timed_get jobs times each i no_timed low)) ∙ nowhere_fails (is_foreign tasks) (timed_jobs jobs times) no_timed none i (omega (arith, length-timed jobs times each)) in
    let table : Table = table_of tasks (job_at jobs i) in
    let is_task : IsTask cap (task_at tasks (job_at jobs i).task) = accepted (job_at jobs i).task _ (on_sheet i _ low) in
    let cycle : List Table = (task_at tasks (job_at jobs i).task).cycle in
    let is_table : IsTable table = is_task.tables ((job_at jobs i).number % length cycle) [] (mod-lt (job_at jobs i).number (omega (arith, is_task.cycle_low))) in
    positive table (get_or times i 0) (λ k within. is_table.positive_times k (0, 0) within) (not-false (has_time table (get_or times i 0)) fails)
