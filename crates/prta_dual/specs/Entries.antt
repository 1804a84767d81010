-- The ledger of an analysis: all entries of both directions, in order, and what they add up to for a job.
use Rattle.std.specs.Prelude.{ℕ, zero, suc, List, [], ◌++◌, flat_map}
use Rattle.prta_mass.specs.Chances.{point}
use Rattle.prta_mass.specs.declared.direction.Dir.{Dir}
use Rattle.prta_mass.specs.declared.direction.Dir.TheVariants.{Up, Down}
use Rattle.prta_sheet.specs.Sheet.{Sheet, task_at, horizon}
use Rattle.prta_sheet.specs.Job.{Job}
use Rattle.prta_ledger.specs.declared.entry.Entry.{Entry}
use Rattle.prta_ledger.specs.Sums.{sum_for}
use Rattle.prta_backlog.specs.Level.{Level, own_at}
use Rattle.prta_backlog.specs.Entries.{level_entries_at, run_end}
use Rattle.prta_response.specs.Response.{response_start}
use Rattle.prta_response.specs.Delays.{delay_entries}

-- the list of an analysis right after the instant at a time
abbrev pub list_after : Dir → Sheet → Level → ℕ → List ℕ
list_after dir sheet level t = response_start dir sheet.tasks level sheet.settings.support (point sheet.settings.cap 0) 0 t

-- the entries of the level run at a time, and then those of the response run of the own job released then, if one is
abbrev pub entries_at : Dir → Sheet → Level → ℕ → List Entry
entries_at dir sheet level t =
    level_entries_at dir sheet.tasks level sheet.settings.support (point sheet.settings.cap 0) t
    ++ flat_map (λ job. delay_entries dir sheet.tasks level job (list_after dir sheet level t)) (own_at sheet.tasks level t)

-- the entries of one direction before a time, in the order in which the operations are made
abbrev pub entries_before : Dir → Sheet → Level → ℕ → List Entry
entries_before dir sheet level zero = []
entries_before dir sheet level (suc t) = entries_before dir sheet level t ++ entries_at dir sheet level t

-- those of a whole analysis in one direction: up to the release of the last analysed own job
abbrev pub entries_in : Dir → Sheet → Level → List Entry
entries_in dir sheet level = entries_before dir sheet level (run_end (task_at sheet.tasks level.own) (horizon sheet))

-- the entries of an analysis: Up before Down
abbrev pub entries : Sheet → Level → List Entry
entries sheet level = entries_in Up sheet level ++ entries_in Down sheet level

-- what they add up to for a job
abbrev pub job_sum : Sheet → Level → Job → ℕ
job_sum sheet level job = sum_for job.task job.number (entries sheet level)
