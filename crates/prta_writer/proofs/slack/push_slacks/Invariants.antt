-- the lines of the tasks so far
use Rattle.std.proofs.Common.{◌≡◌, ◌+◌, ◌*◌, ◌≤◌, ◌++◌, flat_map}
use Rattle.std.specs.List.{range_with_len}
use Rattle.prta_slack.specs.Answer.{slack_of}
use Rattle.prta_report.specs.declared.page.TheConstants.{LINE}
use Rattle.prta_report.specs.Slacks.{line_of_slack}
use Rattle.prta_writer.specs.Curves.{FitsCurves}
use Rattle.prta_writer.proofs.slack.push_slacks.Given as goal

abbrev pub invariant-loop-task : goal.invariant-loop-task
invariant-loop-task l = record {
  written : l.page.written ≡ l.fn.page.written ++ flat_map (λ i. line_of_slack l.sheet i (slack_of l.sheet i)) (range_with_len 0 l.task);
  room : l.fn.page.spare ≤ l.page.spare + l.task * LINE;
  fits : FitsCurves l.sheet.settings.cap l.curves;
}
