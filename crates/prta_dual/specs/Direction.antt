-- The numbers of one direction, written beside those of the other.
use Rattle.std.specs.Prelude.{ℕ, List, map, slice_index_or}
use Rattle.std.specs.List.{range_with_len}
use Rattle.prta_mass.specs.declared.direction.Dir.{Dir}
use Rattle.prta_mass.specs.declared.direction.Dir.TheVariants.{Up, Down}
use Rattle.prta_sheet.specs.Sheet.{Sheet}
use Rattle.prta_sheet.specs.Job.{nth_job}
use Rattle.prta_sheet.specs.Counts.{job_count}
use Rattle.prta_backlog.specs.Level.{Level}
use Rattle.prta_response.specs.Response.{number_of}
use Rattle.prta_dual.specs.declared.bounds.Bounds.{Bounds}

-- the numbers of a job, with that of one direction in place
abbrev pub with_number : Dir → ℕ → Bounds → Bounds
with_number Up number bounds = record bounds { upper = number }
with_number Down number bounds = record bounds { lower = number }

-- the numbers at a place of a list
abbrev pub bounds_at : List Bounds → ℕ → Bounds
bounds_at found k = slice_index_or found k (record { lower = 0; upper = 0 })

-- those at a place, with the number that the own job of this number has in one direction
abbrev pub job_written : Dir → Sheet → Level → List Bounds → ℕ → Bounds
job_written dir sheet level found k = with_number dir (number_of dir sheet level (nth_job sheet.tasks level.own k)) (bounds_at found k)

-- those of all analysed own jobs
abbrev pub all_written : Dir → Sheet → Level → List Bounds → List Bounds
all_written dir sheet level found = map (job_written dir sheet level found) (range_with_len 0 (job_count sheet level.own))
