-- Laws of the model, each the contract of a function.
use Rattle.std.specs.Prelude.{◌≡◌, ℕ, ◌+◌, ◌-◌, ◌*◌, ◌/◌, ◌%◌, ◌<◌, ◌≤◌, Bool, true, nat_eq, List, ◌∷◌, ◌++◌, filter, sum_by, length, All}
use Rattle.std.specs.List.{AllByRecursion}
use Rattle.prta_mass.specs.Table.{Table, total}
use Rattle.prta_sheet.specs.Sheet.{Task, task_at, table_in, cycle_ticks, hyperperiod}
use Rattle.prta_sheet.specs.Job.{Job, jobs_before}
use Rattle.prta_sheet.specs.Counts.{releases}
use Rattle.prta_sheet.specs.Assignment.{Timed, assignments, weight_of, times_of, total_of}
use Rattle.prta_sheet.specs.Machine.{goes_before, after, remaining}
use Rattle.prta_sheet.specs.Weights.{one_if, weigh, jobs_of}

-- sums over the list of all assignments are sums by recursion over the jobs
pub record SumsOverAssignments : Type 0 where
  -- the weights of the assignments whose times pass a test
  pub passing : (table : Job → Table) (jobs : List Job) (p : List Timed → Bool) →
      sum_by weight_of (filter (λ a. p (times_of a)) (assignments table jobs)) ≡ weigh table jobs (λ a. one_if (p a))
  -- the weights of all assignments
  pub all : (table : Job → Table) (jobs : List Job) → weigh table jobs (λ a. 1) ≡ total_of table jobs

-- a job on whose time a number doesn't depend multiplies the sum over the assignments by its table's total, wherever it is listed
abbrev pub IndependentJob : Type 0
IndependentJob =
    (table : Job → Table) (before : List Job) (job : Job) (after : List Job) (f g : List Timed → ℕ) →
    ((a : List Timed) (time : ℕ) (b : List Timed) → jobs_of a ≡ before → jobs_of b ≡ after → f (a ++ record { job = job; time = time } ∷ b) ≡ g (a ++ b)) →
    weigh table (before ++ job ∷ after) f ≡ total (table job) * weigh table (before ++ after) g

-- a job that goes before every other listed job is served at each tick from its release on, until its time is used up
abbrev pub ServedFirst : Type 0
ServedFirst =
    (order : List ℕ) (first last : List Timed) (own : Timed) →
    AllByRecursion (λ e. goes_before order own.job e.job ≡ true) (first ++ last) →
    (n : ℕ) → remaining own.job (after order (first ++ own ∷ last) n) ≡ own.time - (n - own.job.release)

-- a number is a positive multiple of the ticks of every cycle, and no smaller one is
pub record IsLeastMultiple (tasks : List Task) (n : ℕ) : Type 0 where
  pub positive : 1 ≤ n
  pub multiple : All (λ task. n % cycle_ticks task ≡ 0) tasks
  pub least : (m : ℕ) → 1 ≤ m → All (λ task. m % cycle_ticks task ≡ 0) tasks → n ≤ m

-- the hyperperiod is the least positive multiple of the ticks of every cycle
abbrev pub HyperperiodIsLeast : Type 0
HyperperiodIsLeast = (tasks : List Task) → All (λ task. 1 ≤ cycle_ticks task) tasks → IsLeastMultiple tasks (hyperperiod tasks)

-- how many jobs of a task are released before a time
abbrev pub ReleasesBefore : Type 0
ReleasesBefore =
    (tasks : List Task) (i t : ℕ) → i < length tasks →
    length (filter (λ job. nat_eq job.task i) (jobs_before tasks t)) ≡ releases (task_at tasks i) t

-- m hyperperiods later the task has released m * (H / period) jobs more, and the copy of a job has the job's table
abbrev pub CopiesHaveTheirTable : Type 0
CopiesHaveTheirTable =
    (tasks : List Task) → All (λ task. 1 ≤ cycle_ticks task) tasks →
    All (λ task. (k m : ℕ) → table_in task (k + m * (hyperperiod tasks / task.period)) ≡ table_in task k) tasks
