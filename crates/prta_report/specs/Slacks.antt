-- The text of `slack`: the first job that fails as it is, or how many ticks may be added to the times of each task.
use Rattle.std.specs.Prelude.{ℕ, ◌<◌, ◌++◌, List, flat_map, codes, ⊤}
use Rattle.std.specs.Option.{option_map_or}
use Rattle.prta_sheet.specs.Sheet.{Sheet, task_at, sheet_order}
use Rattle.prta_sheet.specs.Job.{nth_job}
use Rattle.prta_dual.specs.Failing.{failing_job}
use Rattle.prta_slack.specs.Answer.{slack_of}
use Rattle.prta_slack.specs.declared.answer.Slack.{Slack}
use Rattle.prta_slack.specs.declared.answer.Slack.TheVariants.{Fails, Ticks, All as Whole}
use Rattle.prta_report.specs.Text.{line_of_fails, ticks_line}
use Rattle.prta_report.specs.Analysis.{bounds_in}

-- the line of a task with this slack
abbrev pub line_of_slack : Sheet → ℕ → Slack → List ℕ
line_of_slack sheet i (Fails task number upper) = line_of_fails sheet.tasks (nth_job sheet.tasks task number) upper
line_of_slack sheet i (Ticks s) = ticks_line (codes "slack") (task_at sheet.tasks i).name s
line_of_slack sheet i (Whole r) = ticks_line (codes "all") (task_at sheet.tasks i).name r

-- the lines of all tasks
abbrev pub slack_rows : Sheet → List ℕ
slack_rows sheet = flat_map (λ i. line_of_slack sheet i (slack_of sheet i)) (sheet_order sheet.tasks)

-- where the sheet doesn't pass as it is, the line of the first job that fails stands in their place
abbrev pub slack_text : Sheet → List ℕ
slack_text sheet =
    codes "prta slack 1\n"
    ++ option_map_or (λ job. line_of_fails sheet.tasks job (bounds_in sheet job).upper) (failing_job sheet) (slack_rows sheet)
    ++ codes "end\n"

-- the task that a slack names, if it does, is one of n
abbrev pub IsListed : ℕ → Slack → Type 0
IsListed n (Fails task number upper) = task < n
IsListed n (Ticks s) = ⊤
IsListed n (Whole r) = ⊤
