-- The work of a sheet of modest tasks.
use Rattle.std.proofs.Common.{◌≡◌, ℕ, ◌+◌, ◌*◌, ◌%◌, ◌<◌, ◌≤◌, Bool, ◌&&◌, not, nat_eq, nat_lt, List, [], length, get_or, sum_by, All, ap, arith}
use Rattle.std.proofs.lemmas.List.Sums.{sum_by-le, length-filter, count_by-le-length}
use Rattle.std.proofs.lemmas.Nat.{mul-le}
use Rattle.prta_mass.specs.Table.{Table}
use Rattle.prta_sheet.specs.Sheet.{Task, Sheet, task_at, table_in, horizon}
use Rattle.prta_sheet.specs.Job.{Job, nth_job, deadline_of, jobs_before, analysed_jobs}
use Rattle.prta_sheet.specs.Counts.{releases}
use Rattle.prta_sheet.specs.Work.{points_of, between, job_work, task_work, work}
use Rattle.prta_sheet.proofs.WorkSums.{sum_of_tasks, task_sum}
use Rattle.prta_gen.proofs.Tasks.{IsModest}
use Rattle.prta_gen.proofs.Sums.{sum_below-within, at_any}
use Rattle.prta_gen.proofs.Jobs.{releases_within, release_early, jobs_within}

-- what stands past a sheet
abbrev no_task : Task
no_task = task_at [] 0

-- each job's table has at most 20 points
tables_within : (task : Task) → All (λ table. length table ≤ 20) task.cycle → (k : ℕ) → length (table_in task k) ≤ 20
tables_within task h k = at_any (λ (table : Table). length table ≤ 20) task.cycle [] h (omega arith) (k % length task.cycle)

module _ (tasks : List Task) (are : All IsModest tasks) (few : length tasks ≤ 12) where
  points_within : (job : Job) → points_of tasks job ≤ 20
  points_within job =
      at_any (λ (task : Task). (k : ℕ) → length (table_in task k) ≤ 20) tasks no_task (λ i d low. tables_within (get_or tasks i d) (are i d low).few_points)
      (tables_within no_task (λ k d low. few_of_none k low)) job.task job.number
    where
      few_of_none : {n : ℕ} (k : ℕ) → k < 0 → n ≤ 20
      few_of_none k low = absurd (omega arith)

  all_points : (jobs : List Job) → sum_by (points_of tasks) jobs ≤ length jobs * 20
  all_points jobs = sum_by-le (points_of tasks) 20 jobs (λ k d low. points_within (get_or jobs k d))

  -- before the deadline of a job that is released early there are at most 12 * 40 jobs of 20 points: 401 * 9600 in all
  job_work-within : (job : Job) → (task_at tasks job.task).deadline ≤ 400 → deadline_of tasks job ≤ 2000 → job_work tasks job ≤ 3849600
  job_work-within job short early =
      let test : Job → Bool = λ (other : Job). not (nat_eq other.task job.task) && nat_lt job.release other.release in
      let before : List Job = jobs_before tasks (deadline_of tasks job) in
      let jobs = jobs_within tasks are (deadline_of tasks job) 40 few (omega arith) in
      let fewer : length (between tasks job) ≤ length before = omega (arith, length-filter test before, count_by-le-length test before) in
      let points : sum_by (points_of tasks) (between tasks job) ≤ 9600 = omega (arith, all_points (between tasks job)) in
      mul-le ((task_at tasks job.task).deadline + 1) (sum_by (points_of tasks) (between tasks job)) 401 9600 (omega arith) points

module _ (sheet : Sheet) (cap : sheet.settings.cap ≡ 2048) (are : All IsModest sheet.tasks) (few : length sheet.tasks ≤ 12) (short : horizon sheet ≤ 1600) where
  -- 2048 times the points of 12 * 32 jobs, and the work of 32 jobs of its own
  task_work-within : (i : ℕ) → i < length sheet.tasks → task_work sheet i ≤ 138915840
  task_work-within i low =
      let tasks : List Task = sheet.tasks in
      let task : Task = task_at tasks i in
      let modest : IsModest task = are i _ low in
      let least = modest.period.low in
      let points : ℕ = sum_by (points_of tasks) (analysed_jobs sheet) in
      let jobs = jobs_within tasks are (horizon sheet) 32 few (omega arith) in
      let all = all_points tasks are few (analysed_jobs sheet) in
      let first : sheet.settings.cap * points ≡ 2048 * points = ap (λ c. c * points) cap in
      let own = task_sum tasks (job_work tasks) i (horizon sheet) low in
      let each = sum_below-within (λ k. job_work tasks (nth_job tasks i k)) 3849600 (releases task (horizon sheet))
      (λ k l. job_work-within tasks are few (nth_job tasks i k) modest.deadline (let early = release_early task (horizon sheet) k least l in let deadline = modest.deadline in omega arith)) in
      let count = releases_within task (horizon sheet) 32 least (omega arith) in
      omega arith

  pub work_within : work sheet ≤ 2147483648
  work_within =
      let sum = sum_of_tasks (task_work sheet) (length sheet.tasks) in
      let each = sum_below-within (task_work sheet) 138915840 (length sheet.tasks) task_work-within in
      omega arith
