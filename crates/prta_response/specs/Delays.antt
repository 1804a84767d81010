-- The delays of a response run as operations, and their entries.
use Rattle.std.specs.Prelude.{ℕ, ◌-◌, if◌then◌else◌, List, [], ◌∷◌}
use Rattle.prta_mass.specs.Table.{Table}
use Rattle.prta_mass.specs.declared.direction.Dir.{Dir}
use Rattle.prta_sheet.specs.Sheet.{Task}
use Rattle.prta_sheet.specs.Job.{Job, table_of}
use Rattle.prta_preempt.specs.Delay.{delayed, is_delay_rounded}
use Rattle.prta_ledger.specs.declared.entry.Entry.{Entry}
use Rattle.prta_ledger.specs.declared.entry.Kind.TheVariants.{Delay}
use Rattle.prta_backlog.specs.Level.{Level}
use Rattle.prta_backlog.specs.Entries.{Operation, noted}
use Rattle.prta_response.specs.Response.{delaying_jobs, first_cells}

-- one delay: 1 where it is rounded
abbrev pub delay_operation : Table → ℕ → List ℕ → Operation
delay_operation table d cells = (Delay, if is_delay_rounded table d cells then 1 else 0) ∷ []

-- the delays by some jobs, in order
abbrev pub delays : Dir → (Job → Table) → ℕ → List Job → List ℕ → List Operation
delays dir table r [] cells = []
delays dir table r (job ∷ jobs) cells =
    delay_operation (table job) (job.release - r) cells ∷ delays dir table r jobs (delayed dir (table job) (job.release - r) cells)

-- those of the response run of the own job released at r, from the list right after its addition
abbrev pub response_delays : Dir → List Task → Level → ℕ → List ℕ → List Operation
response_delays dir tasks level r start = delays dir (table_of tasks) r (delaying_jobs tasks level r) (first_cells tasks level start)

-- their entries: the delays are numbered from 1 on in each response run, and name the own job
abbrev pub delay_entries : Dir → List Task → Level → Job → List ℕ → List Entry
delay_entries dir tasks level job start = noted dir level.own job.number 1 (response_delays dir tasks level job.release start)
