-- How many entries there can be.
use Rattle.std.specs.Prelude.{ℕ, ◌+◌, ◌*◌, nat_eq, List, filter, length, sum_by}
use Rattle.prta_sheet.specs.Sheet.{Sheet}
use Rattle.prta_sheet.specs.Job.{Job, analysed_jobs}
use Rattle.prta_sheet.specs.Counts.{all_jobs}
use Rattle.prta_sheet.specs.Work.{between}
use Rattle.prta_resample.specs.Resample.{largest}

-- the analysed jobs of a task
abbrev pub own_jobs : Sheet → ℕ → List Job
own_jobs sheet i = filter (λ job. nat_eq job.task i) (analysed_jobs sheet)

-- for the analysed jobs of a task, the jobs of other tasks released strictly between release and absolute deadline
abbrev pub jobs_between : Sheet → ℕ → ℕ
jobs_between sheet i = sum_by (λ job. length (between sheet.tasks job)) (own_jobs sheet i)

-- the greatest of these numbers, over the tasks
abbrev pub most_between : Sheet → ℕ
most_between sheet = largest (length sheet.tasks) (jobs_between sheet)

-- room for the entries of an analysis of one task: in each direction three for each analysed job, and one for each delay; and for the
-- condition of one more step of a level run
abbrev pub room_for : Sheet → ℕ
room_for sheet = 6 * all_jobs sheet + 2 * most_between sheet + 26
