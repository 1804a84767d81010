-- The jobs of a task, and the line of the first one that fails.
use Rattle.std.proofs.Common.{◌≡◌, ℕ, ◌<◌, ◌≤◌, nat_eq, is_none, refl, Option, Some, None, option_map, List, length, get_or, ap, sym, ◌∙◌, arith}
use Rattle.std.specs.Option.{option_map_or}
use Rattle.std.proofs.lemmas.List.{get_or_read}
use Rattle.std.proofs.lemmas.List.Sums.{length-filter, count_by-le-length}
use Rattle.prta_sheet.specs.declared.limits.TheConstants.{JOB_LIMIT}
use Rattle.prta_sheet.specs.Sheet.{Task, Sheet, task_at}
use Rattle.prta_sheet.specs.Job.{Job, nth_job, analysed_jobs}
use Rattle.prta_sheet.specs.Counts.{job_count}
use Rattle.prta_sheet.specs.Accepted.{IsAccepted}
use Rattle.prta_resample.proofs.Moving.{below_largest}
use Rattle.prta_dual.specs.declared.failing.Failing.{Failing}
use Rattle.prta_dual.specs.Failing.{failing_job, failing, found_job}
use Rattle.prta_report.specs.Analysis.{bounds_in}
use Rattle.prta_writer.specs.Report.{most_jobs}

-- ---- how many jobs a task has

-- a place of the tasks that were read is one of the sheet's
pub listed : (tasks read : List Task) (i : ℕ) → read ≡ tasks → i < length read → i < length tasks
listed tasks read i same low = omega (arith, ap length same)

-- and the task there is the one that was read
pub task_read : (tasks read : List Task) (i : ℕ) (task : Task) → read ≡ tasks → i < length read → task ≡ get_or read i task → task ≡ task_at tasks i
task_read tasks read i task same low is = get_or_read read i task low is _ ∙ ap (λ all. task_at all i) same

pub count_within : (sheet : Sheet) (i n : ℕ) → i < length sheet.tasks → most_jobs sheet ≤ n → job_count sheet i ≤ n
count_within sheet i n low most = omega (arith, below_largest (length sheet.tasks) (job_count sheet) i low, most)

pub few_jobs : (sheet : Sheet) (i : ℕ) → IsAccepted sheet → job_count sheet i ≤ JOB_LIMIT
few_jobs sheet i is =
    omega (
      arith,
      length-filter (λ (job : Job). nat_eq job.task i) (analysed_jobs sheet),
      count_by-le-length (λ (job : Job). nat_eq job.task i) (analysed_jobs sheet),
      is.jobs,
    )

-- ---- the line of the first failing job

-- that of the job that was found, whatever the line
pub line_found : (line : Job → ℕ → List ℕ) (sheet : Sheet) (found : Failing) (other : List ℕ) → Some (found_job sheet found) ≡ failing sheet →
    option_map_or (λ job. line job (bounds_in sheet job).upper) (failing_job sheet) other ≡ line (nth_job sheet.tasks found.task found.number) found.bound
line_found line sheet found other e = of_first (failing_job sheet) e
  where
    of_first : (first : Option Job) → Some (found_job sheet found) ≡ option_map (λ job. (job, (bounds_in sheet job).upper)) first →
        option_map_or (λ job. line job (bounds_in sheet job).upper) first other ≡ line (nth_job sheet.tasks found.task found.number) found.bound
    of_first None e = cc
    of_first (Some job) e =
        let same : found_job sheet found ≡ (job, (bounds_in sheet job).upper) = cc in
        sym (ap (λ (pair : Job × ℕ). line pair.0 pair.1) same)

-- where none was found, what stands in its place
pub none_found : (line : Job → ℕ → List ℕ) (sheet : Sheet) (other : List ℕ) → ◌≡◌ {A = Option (Job × ℕ)} None (failing sheet) → option_map_or (λ job. line job (bounds_in sheet job).upper) (failing_job sheet) other ≡ other
none_found line sheet other e = of_first (failing_job sheet) e
  where
    of_first : (first : Option Job) → ◌≡◌ {A = Option (Job × ℕ)} None (option_map (λ job. (job, (bounds_in sheet job).upper)) first) → option_map_or (λ job. line job (bounds_in sheet job).upper) first other ≡ other
    of_first None e = refl
    of_first (Some job) e = cc

-- none was found exactly where there is none
pub none_fails : (sheet : Sheet) (found : Option Failing) → option_map (found_job sheet) found ≡ failing sheet → is_none found ≡ is_none (failing_job sheet)
none_fails sheet found e = of_first found (failing_job sheet) e
  where
    of_first : (found : Option Failing) (first : Option Job) → option_map (found_job sheet) found ≡ option_map (λ job. (job, (bounds_in sheet job).upper)) first → is_none found ≡ is_none first
    of_first None None e = refl
    of_first (Some found) (Some job) e = refl
    of_first None (Some job) e = cc
    of_first (Some found) None e = cc
