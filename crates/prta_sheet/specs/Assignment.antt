-- Assignments: one time for each job, out of its table.
use Rattle.std.specs.Prelude.{ℕ, ◌*◌, List, [], ◌∷◌, map, flat_map}
use Rattle.prta_mass.specs.Table.{Table, total}
use Rattle.prta_sheet.specs.Job.{Job}

-- a job with the pair of its table that an assignment gives it
pub record Choice : Type 0 where
  pub job : Job
  pub time : ℕ
  pub weight : ℕ

-- a job with a time: the time that it takes, or that remains to it
pub record Timed : Type 0 where
  pub job : Job
  pub time : ℕ

-- all assignments for a list of jobs: each gives each job one pair of its table
abbrev pub assignments : (Job → Table) → List Job → List (List Choice)
assignments table [] = [] ∷ []
assignments table (job ∷ jobs) =
    flat_map (λ pair. map (λ rest. record { job = job; time = pair.0; weight = pair.1 } ∷ rest) (assignments table jobs)) (table job)

-- the weight of an assignment: the product of the weights of the chosen times
abbrev pub weight_of : List Choice → ℕ
weight_of [] = 1
weight_of (choice ∷ rest) = choice.weight * weight_of rest

-- the jobs with their assigned times
abbrev pub times_of : List Choice → List Timed
times_of choices = map (λ choice. record { job = choice.job; time = choice.time }) choices

-- the product of the totals of the jobs' tables
abbrev pub total_of : (Job → Table) → List Job → ℕ
total_of table [] = 1
total_of table (job ∷ jobs) = total (table job) * total_of table jobs
