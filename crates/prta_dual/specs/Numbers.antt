-- The two numbers of a job above a set of tasks.
use Rattle.std.specs.Prelude.{ℕ, List, map}
use Rattle.std.specs.List.{range_with_len}
use Rattle.prta_mass.specs.declared.direction.Dir.TheVariants.{Up, Down}
use Rattle.prta_sheet.specs.Sheet.{Sheet}
use Rattle.prta_sheet.specs.Job.{Job, nth_job}
use Rattle.prta_sheet.specs.Counts.{job_count}
use Rattle.prta_backlog.specs.Level.{Level}
use Rattle.prta_response.specs.Response.{number_of}
use Rattle.prta_dual.specs.declared.bounds.Bounds.{Bounds}

abbrev pub lower : Sheet → Level → Job → ℕ
lower sheet level job = number_of Down sheet level job

abbrev pub upper : Sheet → Level → Job → ℕ
upper sheet level job = number_of Up sheet level job

-- both, of an own job
abbrev pub bounds_of : Sheet → Level → ℕ → Bounds
bounds_of sheet level number = record { lower = lower sheet level (nth_job sheet.tasks level.own number); upper = upper sheet level (nth_job sheet.tasks level.own number) }

-- those of all analysed own jobs, in order of number
abbrev pub all_bounds : Sheet → Level → List Bounds
all_bounds sheet level = map (bounds_of sheet level) (range_with_len 0 (job_count sheet level.own))
