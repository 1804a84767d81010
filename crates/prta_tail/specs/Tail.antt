-- The base list of a level at a ratio, and the tail numbers of its own jobs.
use Rattle.std.specs.Prelude.{ℕ, zero, suc, ◌+◌, ◌-◌, ◌*◌, min, nat_lt, if◌then◌else◌, List, filter, sum_by}
use Rattle.std.specs.Int.{div_ceil}
use Rattle.prta_mass.specs.Unit.{unit}
use Rattle.prta_mass.specs.Chances.{cells_of}
use Rattle.prta_sheet.specs.Sheet.{Task}
use Rattle.prta_sheet.specs.Job.{Job, table_of, jobs_before}
use Rattle.prta_sheet.specs.Assignment.{assignments, weight_of, times_of}
use Rattle.prta_backlog.specs.Level.{Level}
use Rattle.prta_backlog.specs.Greatest.{worst_backlog}
use Rattle.prta_response.specs.Backlog.{level_backlog}
use Rattle.prta_certificate.specs.Certificate.{next_image, steady_number}
use Rattle.prta_tail.specs.declared.ratio.Ratio.{Ratio}

-- the unit, n times multiplied by p and divided by q, each quotient rounded up
abbrev pub shrunk : Ratio → ℕ → ℕ
shrunk r zero = unit
shrunk r (suc n) = div_ceil (shrunk r n * r.p) r.q

-- 0 below a backlog, and from it on the unit less a tail that begins with one step there
abbrev pub base_cell : Ratio → ℕ → ℕ → ℕ
base_cell r worst k = if nat_lt k worst then 0 else unit - shrunk r (k + 1 - worst)

-- the base list of a level: the tail begins at the worst-case backlog
abbrev pub base_list : List Task → Level → ℕ → Ratio → List ℕ
base_list tasks level cap r = cells_of cap (base_cell r (worst_backlog tasks level))

-- the j-th image of a list; the 0-th is the list itself
abbrev pub image_of : List Task → Level → List ℕ → ℕ → List ℕ
image_of tasks level cells zero = cells
image_of tasks level cells (suc j) = next_image tasks level (image_of tasks level cells j)

-- the least of an own job's steady numbers from the images 0 to turns of a list
abbrev pub least_steady : List Task → Level → List ℕ → Job → ℕ → ℕ
least_steady tasks level cells job zero = steady_number tasks level cells job
least_steady tasks level cells job (suc j) = min (least_steady tasks level cells job j) (steady_number tasks level (image_of tasks level cells (suc j)) job)

-- the tail number of an own job: that from the base list
abbrev pub tail_number : List Task → Level → ℕ → ℕ → Ratio → Job → ℕ
tail_number tasks level cap turns r job = least_steady tasks level (base_list tasks level cap r) job turns

-- the sum of the weights of the assignments for all jobs released before t under which the level's backlog at t is above k
abbrev pub weight_above : List Task → Level → ℕ → ℕ → ℕ
weight_above tasks level t k =
    sum_by weight_of (filter (λ a. nat_lt k (level_backlog level (times_of a) t)) (assignments (table_of tasks) (jobs_before tasks t)))
