-- What the amounts of operations add up to, and how many entries the delays have.
use Rattle.std.proofs.Common.{◌≡◌, ℕ, ◌+◌, ◌-◌, ◌≤◌, suc, Option, List, [], ◌∷◌, ◌++◌, length, sum_by, refl, ◌∙◌, arith}
use Rattle.std.proofs.lemmas.List.Sums.{sum_by-cons, sum_by-append}
use Rattle.prta_mass.specs.Table.{Table}
use Rattle.prta_mass.specs.declared.direction.Dir.{Dir}
use Rattle.prta_mass.specs.declared.support.Support.{Support}
use Rattle.prta_sheet.specs.Sheet.{Task}
use Rattle.prta_sheet.specs.Job.{Job, table_of}
use Rattle.prta_preempt.specs.Delay.{delayed}
use Rattle.prta_backlog.specs.Level.{Level}
use Rattle.prta_backlog.specs.Entries.{Operation, operations}
use Rattle.prta_backlog.proofs.Notes.{amount_count, length-noted}
use Rattle.prta_response.specs.Response.{delaying_jobs, first_cells, response_start}
use Rattle.prta_response.specs.Delays.{delay_operation, delays, response_delays, delay_entries}

abbrev pub amount_of : Operation → ℕ
amount_of op = sum_by (λ amount. amount.1) op

abbrev pub amounts : List Operation → ℕ
amounts ops = sum_by amount_of ops

pub amounts-cons : (op : Operation) (ops : List Operation) → amounts (op ∷ ops) ≡ amount_of op + amounts ops
amounts-cons op ops = sum_by-cons amount_of op ops

pub amounts-append : (xs ys : List Operation) → amounts (xs ++ ys) ≡ amounts xs + amounts ys
amounts-append xs ys = sum_by-append amount_of xs ys

-- what is spent in one direction on the own job released at r: by the level run up to its addition, and by its response run
abbrev pub spent : Dir → List Task → Level → Option Support → List ℕ → ℕ → ℕ
spent dir tasks level support start r =
    amounts (operations dir tasks level support start (suc r)) + amounts (response_delays dir tasks level r (response_start dir tasks level support start 0 r))

-- one amount for each delay
count_delays : (dir : Dir) (table : Job → Table) (r : ℕ) (jobs : List Job) (cells : List ℕ) → amount_count (delays dir table r jobs cells) ≡ length jobs
count_delays dir table r [] cells = refl
count_delays dir table r (job ∷ jobs) cells =
    let next : List ℕ = delayed dir (table job) (job.release - r) cells in
    sum_by-cons (λ (op : Operation). length op) (delay_operation (table job) (job.release - r) cells) (delays dir table r jobs next) ∙ omega (arith, count_delays dir table r jobs next)

-- so at most one entry
pub length-delay_entries : (dir : Dir) (tasks : List Task) (level : Level) (job : Job) (start : List ℕ) →
    length (delay_entries dir tasks level job start) ≤ length (delaying_jobs tasks level job.release)
length-delay_entries dir tasks level job start =
    omega (
      arith,
      length-noted dir level.own job.number 1 (response_delays dir tasks level job.release start),
      count_delays dir (table_of tasks) job.release (delaying_jobs tasks level job.release) (first_cells tasks level start),
    )
