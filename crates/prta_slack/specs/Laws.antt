-- Laws of added ticks.
use Rattle.std.specs.Prelude.{◌≡◌, ◌↔◌, ℕ, ◌<◌, ◌≤◌, true, false, List, length}
use Rattle.prta_sheet.specs.Sheet.{Task, Sheet, sheet_order}
use Rattle.prta_sheet.specs.Job.{nth_job}
use Rattle.prta_sheet.specs.Accepted.{IsAccepted}
use Rattle.prta_sheet.specs.Added.{sheet_with_added, tasks_with_added}
use Rattle.prta_times.specs.LaterTimes.{Both, IsLater}
use Rattle.prta_backlog.specs.Level.{Level}
use Rattle.prta_backlog.specs.Laws.{HaveTables}
use Rattle.prta_dual.specs.Numbers.{upper}
use Rattle.prta_dual.specs.Failing.{upper_passes}
use Rattle.prta_audsley.specs.Passing.{IsAnalysed, ChancesPass}
use Rattle.prta_slack.specs.Passing.{sheet_passes, passes_with}
use Rattle.prta_slack.specs.Answer.{slack_of, room_of, IsExactly, Says}

-- moving weights of a sheet's tables to later times lowers no upper number
abbrev pub LaterTimesLowerNoUpper : Type 0
LaterTimesLowerNoUpper =
    (early : List Task) (sheet : Sheet) (level : Level) (k : ℕ) → IsAccepted sheet → HaveTables early → Both IsLater early sheet.tasks → level.own < length sheet.tasks →
    upper (record sheet { tasks = early }) level (nth_job early level.own k) ≤ upper sheet level (nth_job sheet.tasks level.own k)

-- a sheet passes exactly where the upper number of each analysed job does
abbrev pub PassingIsEach : Type 0
PassingIsEach =
    (sheet : Sheet) → IsAccepted sheet →
    (sheet_passes sheet ≡ true) ↔ ((i k : ℕ) → IsAnalysed sheet i k → upper_passes sheet (nth_job sheet.tasks i k) ≡ true)

-- what holds as ticks are added to a task, up to its room
pub record HoldsWithAdded (sheet : Sheet) (task : ℕ) : Type 0 where
  -- the tables move to later times, so no upper number falls
  pub later : (s t : ℕ) → s ≤ t → Both IsLater (tasks_with_added sheet.tasks task s) (tasks_with_added sheet.tasks task t)
  pub uppers : (level : Level) (k s t : ℕ) → level.own < length sheet.tasks → s ≤ t → t ≤ room_of sheet task →
      upper (sheet_with_added sheet task s) level (nth_job sheet.tasks level.own k) ≤ upper (sheet_with_added sheet task t) level (nth_job sheet.tasks level.own k)
  -- with less it passes where it passes with more; so with more it doesn't where it doesn't with less
  pub smaller : (s t : ℕ) → s ≤ t → t ≤ room_of sheet task → passes_with sheet task t ≡ true → passes_with sheet task s ≡ true
  pub greater : (s t : ℕ) → s ≤ t → t ≤ room_of sheet task → passes_with sheet task s ≡ false → passes_with sheet task t ≡ false
  -- where it passes, so does each analysed job's exact chance
  pub chances : (s : ℕ) → s ≤ room_of sheet task → passes_with sheet task s ≡ true → ChancesPass (sheet_with_added sheet task s) (sheet_order sheet.tasks)

abbrev pub AddedTicks : Type 0
AddedTicks = (sheet : Sheet) (task : ℕ) → IsAccepted sheet → task < length sheet.tasks → HoldsWithAdded sheet task

-- what the slack of a task says is so, and it comes exactly where its cause is there
pub record SlackHolds (sheet : Sheet) (task : ℕ) : Type 0 where
  pub says : Says sheet task (slack_of sheet task)
  pub exactly : IsExactly sheet task (slack_of sheet task)

abbrev pub SlacksHold : Type 0
SlacksHold = (sheet : Sheet) (task : ℕ) → IsAccepted sheet → task < length sheet.tasks → SlackHolds sheet task
