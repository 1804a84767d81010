-- Fewer tasks above a task: its upper numbers, its finishes and its exact chances don't rise.
use Rattle.std.specs.Prelude.{◌≡◌, ℕ, ◌<◌, ◌≤◌, true, Bool, List, length}
use Rattle.prta_mass.specs.declared.direction.Dir.TheVariants.{Up}
use Rattle.prta_sheet.specs.Sheet.{Task, Sheet}
use Rattle.prta_sheet.specs.Job.{Job, nth_job}
use Rattle.prta_sheet.specs.Assignment.{Timed}
use Rattle.prta_sheet.specs.Machine.{IsFinish}
use Rattle.prta_sheet.specs.Chance.{miss_weight}
use Rattle.prta_sheet.specs.Accepted.{IsAccepted}
use Rattle.prta_jobs.specs.Permutation.{is_order, is_above}
use Rattle.prta_ticksim.specs.ScheduleToBacklog.{IsListed}
use Rattle.prta_audsley.specs.Passing.{job_number}
use Rattle.prta_audsley.specs.Greedy.{IsPartOf}

-- taking tasks out of the higher set raises no upper number
abbrev pub FewerRaiseNoUpper : Type 0
FewerRaiseNoUpper =
    (sheet : Sheet) (set part : ℕ → Bool) (task k : ℕ) → IsAccepted sheet → task < length sheet.tasks → IsPartOf part set →
    job_number Up sheet part task k ≤ job_number Up sheet set task k

-- what stands above the task under the second order stands above it under the first
abbrev pub HasFewerAbove : List ℕ → List ℕ → ℕ → Type 0
HasFewerAbove order fewer task = IsPartOf (is_above fewer task) (is_above order task)

-- so whatever the times, a job finishes no later on the machine of ticks
abbrev pub FewerLengthenNoFinish : Type 0
FewerLengthenNoFinish =
    (tasks : List Task) (t : ℕ) (order fewer : List ℕ) (start : List Timed) (job : Job) (n m : ℕ) →
    IsListed tasks t order start job → IsListed tasks t fewer start job → HasFewerAbove order fewer job.task →
    IsFinish order start job n → IsFinish fewer start job m → m ≤ n

-- and no exact chance is greater
abbrev pub FewerRaiseNoChance : Type 0
FewerRaiseNoChance =
    (sheet : Sheet) (order fewer : List ℕ) (task k : ℕ) → IsAccepted sheet → task < length sheet.tasks →
    is_order (length sheet.tasks) order ≡ true → is_order (length sheet.tasks) fewer ≡ true → HasFewerAbove order fewer task →
    miss_weight sheet.tasks fewer (nth_job sheet.tasks task k) ≤ miss_weight sheet.tasks order (nth_job sheet.tasks task k)
