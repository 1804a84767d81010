use Rattle.std.proofs.Common.{◌≡◌, ℕ, ◌+◌, ◌++◌, List, flat_map, append_assoc, ap, sym, ◌∙◌, arith}
use Rattle.std.specs.List.{range_with_len}
use Rattle.prta_sheet.specs.Sheet.{Sheet}
use Rattle.prta_slack.specs.declared.answer.Slack.{Slack}
use Rattle.prta_slack.specs.Answer.{slack_of}
use Rattle.prta_report.proofs.Lines.{lines_more}
use Rattle.prta_report.specs.Slacks.{line_of_slack}
use Rattle.prta_writer.proofs.slack.push_slacks.Goals as goal

pub loop-task-preserved : goal.loop-task-preserved
loop-task-preserved c =
    let sheet : Sheet = c.args.sheet.now in
    let line : ℕ → List ℕ = λ i. line_of_slack sheet i (slack_of sheet i) in
    let start : List ℕ = c.args.page.now.written in
    let before : List ℕ = flat_map line (range_with_len 0 c.loop-task.task) in
    let pushed : c.slack_line.new.page.written ≡ c.loop-task.page.written ++ line c.loop-task.task =
    c.slack_line.ensures.written ∙ ap (λ (slack : Slack). c.loop-task.page.written ++ line_of_slack sheet c.loop-task.task slack) c.in_ok-slack.ensures.slack in
    record {
      written = pushed ∙ ap (λ t. t ++ line c.loop-task.task) c.loop-task.invariant.written ∙ append_assoc start before (line c.loop-task.task)
          ∙ ap (λ t. start ++ t) (sym (lines_more line c.loop-task.task));
      room = omega (arith, c.slack_line.ensures.room, c.loop-task.invariant.room);
      fits = c.in_ok-slack.ensures.fits;
    }
