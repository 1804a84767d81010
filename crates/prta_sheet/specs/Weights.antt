-- Sums over all assignments, by recursion over the jobs.
use Rattle.std.specs.Prelude.{ℕ, ◌*◌, Bool, cond, List, [], ◌∷◌, map, sum_by}
use Rattle.prta_mass.specs.Table.{Table}
use Rattle.prta_sheet.specs.Job.{Job}
use Rattle.prta_sheet.specs.Assignment.{Timed}

-- 1 where the test holds, else 0
abbrev pub one_if : Bool → ℕ
one_if b = cond b 1 0

-- the sum over the assignments for the jobs of their weight times the number that f gives their times
abbrev pub weigh : (Job → Table) → List Job → (List Timed → ℕ) → ℕ
weigh table [] f = f []
weigh table (job ∷ jobs) f = sum_by (λ pair. pair.1 * weigh table jobs (λ rest. f (record { job = job; time = pair.0 } ∷ rest))) (table job)

-- the jobs of a list of jobs with times
abbrev pub jobs_of : List Timed → List Job
jobs_of a = map (λ e. e.job) a
