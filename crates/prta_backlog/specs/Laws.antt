-- Laws of level runs, their entries and images.
use Rattle.std.specs.Prelude.{◌≡◌, ℕ, ◌+◌, ◌*◌, ◌<◌, ◌≤◌, false, Option, List, ◌++◌, length, sum_by, All}
use Rattle.prta_mass.specs.declared.direction.Dir.{Dir}
use Rattle.prta_mass.specs.declared.direction.Dir.TheVariants.{Up, Down}
use Rattle.prta_mass.specs.declared.support.Support.{Support}
use Rattle.prta_mass.specs.Table.{Table, total, IsTable}
use Rattle.prta_mass.specs.Chances.{IsChances, Dominates}
use Rattle.prta_sheet.specs.Sheet.{Task, Sheet, task_at}
use Rattle.prta_sheet.specs.Accepted.{IsAccepted}
use Rattle.prta_jobs.specs.Instant.{IsOnSheet}
use Rattle.prta_shift.specs.Shift.{shifted}
use Rattle.prta_resample.specs.Resample.{resampled}
use Rattle.prta_dist.specs.Addition.{added}
use Rattle.prta_backlog.specs.Level.{Level, has_task, delaying}
use Rattle.prta_backlog.specs.LevelRun.{level_run, image}
use Rattle.prta_backlog.specs.Entries.{level_entries, analysis_entries}
use Rattle.prta_backlog.specs.Greatest.{greatest_work, worst_backlog, peak}
use Rattle.prta_backlog.specs.Room.{own_jobs, room_for}
use Rattle.prta_backlog.specs.Pass.{PassState, pass_level, pass_support, after_last, StandsInRun, IsNext, pass_cells, pass_after, pass_entries, entries_so_far}

-- every table of every cycle is one, and every cycle has one
pub record HaveTables (tasks : List Task) : Type 0 where
  pub some : All (λ task. 0 < length task.cycle) tasks
  pub tables : All (λ task. All IsTable task.cycle) tasks

-- a step to the next instant stays in the level run, and brings its entries
pub record StepsOn (sheet : Sheet) (start : List ℕ) (pass : PassState) (cells : List ℕ) (t : ℕ) : Type 0 where
  pub stands : StandsInRun sheet start (pass_after sheet pass cells t) (pass_cells sheet pass cells t)
  pub entries : entries_so_far sheet start (pass_after sheet pass cells t) ≡ entries_so_far sheet start pass ++ pass_entries sheet pass cells t

abbrev pub StepsFollowRuns : Type 0
StepsFollowRuns = (sheet : Sheet) (start : List ℕ) (pass : PassState) (cells : List ℕ) (t : ℕ) →
    IsOnSheet sheet.tasks (has_task (pass_level pass)) → StandsInRun sheet start pass cells → IsNext sheet.tasks pass t → StepsOn sheet start pass cells t

-- up to the next instant nothing changes
pub record StaysStill (sheet : Sheet) (start : List ℕ) (pass : PassState) (u : ℕ) : Type 0 where
  pub run : level_run pass.dir sheet.tasks (pass_level pass) (pass_support sheet pass) start 0 u
      ≡ level_run pass.dir sheet.tasks (pass_level pass) (pass_support sheet pass) start 0 (after_last pass.last)
  pub entries : level_entries pass.dir sheet.tasks (pass_level pass) (pass_support sheet pass) start u ≡ entries_so_far sheet start pass

abbrev pub RunsStayStill : Type 0
RunsStayStill = (sheet : Sheet) (start : List ℕ) (pass : PassState) (t u : ℕ) → IsNext sheet.tasks pass t → after_last pass.last ≤ u → u ≤ t →
    StaysStill sheet start pass u

-- two lists of one length, at least one cell long, of which the first dominates the second
pub record DominatesAlike (x y : List ℕ) : Type 0 where
  pub same : length x ≡ length y
  pub some : 0 < length x
  pub dominates : Dominates x y

-- each operation keeps dominance, in both directions of rounding
pub record KeepDominance (dir : Dir) (x y : List ℕ) : Type 0 where
  pub addition : (table : Table) → 0 < total table → DominatesAlike (added dir table x) (added dir table y)
  pub shift : (t : ℕ) → DominatesAlike (shifted t x) (shifted t y)
  pub resampling : (support : Support) → DominatesAlike (resampled dir support x) (resampled dir support y)

abbrev pub OperationsKeepDominance : Type 0
OperationsKeepDominance = (dir : Dir) (x y : List ℕ) → DominatesAlike x y → KeepDominance dir x y

-- so level runs do, from any base time
abbrev pub RunsKeepDominance : Type 0
RunsKeepDominance =
    (dir : Dir) (tasks : List Task) (level : Level) (support : Option Support) (x y : List ℕ) (base n : ℕ) → HaveTables tasks → DominatesAlike x y →
    DominatesAlike (level_run dir tasks level support x base n).cells (level_run dir tasks level support y base n).cells

-- and images
abbrev pub ImagesKeepDominance : Type 0
ImagesKeepDominance =
    (tasks : List Task) (level : Level) (hyperperiod : ℕ) (x y : List ℕ) → HaveTables tasks → DominatesAlike x y →
    DominatesAlike (image tasks level hyperperiod x) (image tasks level hyperperiod y)

-- a level run's list stays a list of chances, of as many cells
pub record StaysChances (before after : List ℕ) : Type 0 where
  pub chances : IsChances after
  pub size : length after ≡ length before

abbrev pub RunsStayChances : Type 0
RunsStayChances =
    (dir : Dir) (tasks : List Task) (level : Level) (support : Option Support) (start : List ℕ) (base n : ℕ) → HaveTables tasks →
    0 < length start → IsChances start → StaysChances start (level_run dir tasks level support start base n).cells

-- the entries of one direction's level run
abbrev pub entry_count : Dir → Sheet → Level → ℕ
entry_count dir sheet level = length (analysis_entries dir sheet level)

-- the delays of the response runs of all analysed own jobs
abbrev pub delay_count : Sheet → Level → ℕ
delay_count sheet level = sum_by (λ job. length (delaying sheet.tasks level job.release (task_at sheet.tasks level.own).deadline)) (own_jobs sheet level.own)

-- the room is enough for the entries of an analysis of one task, whatever tasks are above it: those of both level runs, and one for each delay in both directions
abbrev pub RoomIsEnough : Type 0
RoomIsEnough =
    (sheet : Sheet) (level : Level) → IsAccepted sheet → level.own < length sheet.tasks → level.higher level.own ≡ false →
    entry_count Up sheet level + entry_count Down sheet level + 2 * delay_count sheet level + 26 ≤ room_for sheet

-- the greatest numbers are at most this
abbrev pub GreatestNumbersAreLow : Type 0
GreatestNumbersAreLow =
    (tasks : List Task) (level : Level) → level.higher level.own ≡ false →
    (worst_backlog tasks level ≤ greatest_work tasks level) × (peak tasks level ≤ worst_backlog tasks level + greatest_work tasks level)
