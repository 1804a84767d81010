-- Laws of orders and of lists of jobs, each the contract of a function.
use Rattle.std.specs.Prelude.{◌≡◌, ℕ, ◌<◌, true, List, length, slice_index, All}
use Rattle.prta_sheet.specs.Sheet.{Task}
use Rattle.prta_sheet.specs.Job.{Job, nth_job, jobs_before}
use Rattle.prta_sheet.specs.Machine.{place}
use Rattle.prta_jobs.specs.Permutation.{is_order}

-- each of n tasks has a place of its own in the order, and each place its task
pub record HasPlaces (n : ℕ) (order : List ℕ) : Type 0 where
  pub length_is : length order ≡ n
  pub place_below : (task : ℕ) → task < n → place order task < n
  pub task_at_place : (task : ℕ) → task < n → slice_index order (place order task) ≡ task
  pub task_below : (k : ℕ) → k < n → slice_index order k < n
  pub place_of_task : (k : ℕ) → k < n → place order (slice_index order k) ≡ k

abbrev pub OrdersHavePlaces : Type 0
OrdersHavePlaces = (n : ℕ) (order : List ℕ) → is_order n order ≡ true → HasPlaces n order

-- a job of one of the tasks, released before t, when its number says
pub record IsBefore (tasks : List Task) (t : ℕ) (job : Job) : Type 0 where
  pub task : job.task < length tasks
  pub release : job.release < t
  pub numbered : job ≡ nth_job tasks job.task job.number

abbrev pub JobsAreBefore : Type 0
JobsAreBefore = (tasks : List Task) (t : ℕ) → All (IsBefore tasks t) (jobs_before tasks t)
