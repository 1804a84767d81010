-- The first job whose number doesn't pass its task's allowance.
use Rattle.std.specs.Prelude.{ℕ, Bool, not, Option, option_map, find, flat_map}
use Rattle.std.specs.List.{range_with_len}
use Rattle.prta_mass.specs.Passing.{passes}
use Rattle.prta_mass.specs.declared.direction.Dir.{Dir}
use Rattle.prta_sheet.specs.Sheet.{Sheet, task_at, sheet_order}
use Rattle.prta_sheet.specs.Job.{Job, nth_job}
use Rattle.prta_sheet.specs.Counts.{job_count}
use Rattle.prta_backlog.specs.Level.{Level, sheet_level}
use Rattle.prta_backlog.specs.Room.{own_jobs}
use Rattle.prta_response.specs.Response.{number_of}
use Rattle.prta_dual.specs.Numbers.{upper}
use Rattle.prta_dual.specs.declared.failing.Failing.{Failing}

-- the number of the k-th own job of a level, in a direction, doesn't pass its task's allowance
abbrev pub fails : Dir → Sheet → Level → ℕ → Bool
fails dir sheet level k = let allow = (task_at sheet.tasks level.own).allow in not (passes (number_of dir sheet level (nth_job sheet.tasks level.own k)) allow.0 allow.1)

-- the first of the analysed own jobs for which it doesn't
abbrev pub failing_number : Dir → Sheet → Level → Option ℕ
failing_number dir sheet level = find (fails dir sheet level) (range_with_len 0 (job_count sheet level.own))

-- the k-th own job, with its number in a direction
abbrev pub failing_at : Dir → Sheet → Level → ℕ → Failing
failing_at dir sheet level k = record { task = level.own; number = k; bound = number_of dir sheet level (nth_job sheet.tasks level.own k) }

-- ---- in the sheet's own order of priorities

-- the upper number of a job passes its task's allowance
abbrev pub upper_passes : Sheet → Job → Bool
upper_passes sheet job = let allow = (task_at sheet.tasks job.task).allow in passes (upper sheet (sheet_level job.task) job) allow.0 allow.1

-- the first analysed job, by task in sheet order and then by number, whose upper number doesn't
abbrev pub failing_job : Sheet → Option Job
failing_job sheet = find (λ job. not (upper_passes sheet job)) (flat_map (own_jobs sheet) (sheet_order sheet.tasks))

-- that job with its upper number
abbrev pub failing : Sheet → Option (Job × ℕ)
failing sheet = option_map (λ job. (job, upper sheet (sheet_level job.task) job)) (failing_job sheet)

-- what is found, as such a job
abbrev pub found_job : Sheet → Failing → Job × ℕ
found_job sheet found = (nth_job sheet.tasks found.task found.number, found.bound)
