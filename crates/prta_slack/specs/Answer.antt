-- The slack of a task, when each answer comes, and what it says.
use Rattle.std.specs.Prelude.{◌≡◌, ◌↔◌, ℕ, ◌+◌, ◌<◌, ◌≤◌, true, false, not, Option, Some, None, find}
use Rattle.std.specs.List.{range_with_len}
use Rattle.prta_sheet.specs.Sheet.{Sheet, task_at, sheet_order}
use Rattle.prta_sheet.specs.Job.{Job, nth_job}
use Rattle.prta_sheet.specs.Added.{sheet_with_added, room}
use Rattle.prta_backlog.specs.Level.{sheet_level}
use Rattle.prta_dual.specs.Numbers.{upper}
use Rattle.prta_dual.specs.Failing.{upper_passes, failing}
use Rattle.prta_audsley.specs.Passing.{IsAnalysed, ChancesPass}
use Rattle.prta_slack.specs.Passing.{passes_with}
use Rattle.prta_slack.specs.declared.answer.Slack.{Slack}
use Rattle.prta_slack.specs.declared.answer.Slack.TheVariants.{Fails, Ticks, All as Whole}

-- how many ticks may be added to a task
abbrev pub room_of : Sheet → ℕ → ℕ
room_of sheet task = room (task_at sheet.tasks task)

-- the first number of ticks, below the room, with one more of which the sheet doesn't pass
abbrev pub last_passing : Sheet → ℕ → Option ℕ
last_passing sheet task = find (λ s. not (passes_with sheet task (s + 1))) (range_with_len 0 (room_of sheet task))

-- the job that fails as it is, where there is one; else that number, and the whole room where there is none
abbrev pub slack_by : ℕ → Option (Job × ℕ) → Option ℕ → Slack
slack_by whole (Some found) ticks = Fails found.0.task found.0.number found.1
slack_by whole None (Some s) = Ticks s
slack_by whole None None = Whole whole

unfoldable pub slack_of : Sheet → ℕ → Slack
slack_of sheet task = slack_by (room_of sheet task) (failing sheet) (last_passing sheet task)

-- ---- when each comes

-- with a number of ticks the sheet passes, and with one more it doesn't
pub record IsLastPassing (sheet : Sheet) (task s : ℕ) : Type 0 where
  pub below : s < room_of sheet task
  pub passes : passes_with sheet task s ≡ true
  pub next : passes_with sheet task (s + 1) ≡ false

-- with the whole room it passes
pub record PassesWithRoom (sheet : Sheet) (task r : ℕ) : Type 0 where
  pub whole : r ≡ room_of sheet task
  pub passes : passes_with sheet task r ≡ true

-- of Fails, that the sheet's first failing job is this one, with this upper number; of Ticks, that the number is the last with which the sheet passes;
-- of All, that it passes with the whole room
abbrev pub IsCause : Sheet → ℕ → Slack → Type 0
IsCause sheet task (Fails i k number) = failing sheet ≡ Some (nth_job sheet.tasks i k, number)
IsCause sheet task (Ticks s) = IsLastPassing sheet task s
IsCause sheet task (Whole r) = PassesWithRoom sheet task r

-- an answer comes exactly where its cause is there
abbrev pub IsExactly : Sheet → ℕ → Slack → Type 0
IsExactly sheet task found = (slack : Slack) → (found ≡ slack) ↔ IsCause sheet task slack

-- ---- what it says

-- with each number up to s the sheet passes, and so does each analysed job's exact chance
pub record PassesUpTo (sheet : Sheet) (task s : ℕ) : Type 0 where
  pub uppers : (r : ℕ) → r ≤ s → passes_with sheet task r ≡ true
  pub chances : (r : ℕ) → r ≤ s → ChancesPass (sheet_with_added sheet task r) (sheet_order sheet.tasks)

-- with no number from s on, within the room, it passes
abbrev pub FailsFrom : Sheet → ℕ → ℕ → Type 0
FailsFrom sheet task s = (r : ℕ) → s ≤ r → r ≤ room_of sheet task → passes_with sheet task r ≡ false

-- this analysed job's upper number is this one, and doesn't pass; those of the tasks before its own do, and of the jobs of its task before it. So the
-- sheet passes with no number of ticks added
pub record FailsAsItIs (sheet : Sheet) (task i k number : ℕ) : Type 0 where
  pub analysed : IsAnalysed sheet i k
  pub number_is : number ≡ upper sheet (sheet_level i) (nth_job sheet.tasks i k)
  pub fails : upper_passes sheet (nth_job sheet.tasks i k) ≡ false
  pub above_pass : (j l : ℕ) → j < i → IsAnalysed sheet j l → upper_passes sheet (nth_job sheet.tasks j l) ≡ true
  pub earlier_pass : (l : ℕ) → l < k → upper_passes sheet (nth_job sheet.tasks i l) ≡ true
  pub never : FailsFrom sheet task 0

-- it is a number below the room; with each up to it the sheet passes, with none above
pub record AllowsTicks (sheet : Sheet) (task s : ℕ) : Type 0 where
  pub below : s < room_of sheet task
  pub passes : PassesUpTo sheet task s
  pub fails : FailsFrom sheet task (s + 1)

-- it is the room, and the sheet passes with each number up to it
pub record AllowsRoom (sheet : Sheet) (task r : ℕ) : Type 0 where
  pub whole : r ≡ room_of sheet task
  pub passes : PassesUpTo sheet task r

abbrev pub Says : Sheet → ℕ → Slack → Type 0
Says sheet task (Fails i k number) = FailsAsItIs sheet task i k number
Says sheet task (Ticks s) = AllowsTicks sheet task s
Says sheet task (Whole r) = AllowsRoom sheet task r
