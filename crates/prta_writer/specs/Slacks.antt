-- What the text of `slack` says of a sheet.
use Rattle.std.specs.Prelude.{ℕ, ◌<◌, List, length}
use Rattle.std.specs.Option.{option_map_or}
use Rattle.prta_sheet.specs.Sheet.{Sheet}
use Rattle.prta_dual.specs.Failing.{failing_job}
use Rattle.prta_report.specs.Analysis.{bounds_in}
use Rattle.prta_report.specs.Text.{line_of_fails}
use Rattle.prta_report.specs.Slacks.{slack_rows}
use Rattle.prta_slack.specs.Answer.{slack_of, Says}

-- the line of the job that fails, if one does, or else of each task
abbrev pub slack_lines : Sheet → List ℕ
slack_lines sheet = option_map_or (λ job. line_of_fails sheet.tasks job (bounds_in sheet job).upper) (failing_job sheet) (slack_rows sheet)

-- what the slack of each task says is so
abbrev pub SlacksSay : Sheet → Type 0
SlacksSay sheet = (i : ℕ) → i < length sheet.tasks → Says sheet i (slack_of sheet i)
