use Rattle.std.proofs.Common.{◌++◌, ap, sym, ◌∙◌, append_assoc, arith}
use Rattle.prta_report.specs.Assignment.{name_if}
use Rattle.prta_report.proofs.Lines.{lines_more}
use Rattle.prta_report.proofs.assignment.push_set.Goals as goal

pub loop-task-preserved : goal.loop-task-preserved
loop-task-preserved c =
    let line = name_if c.args.sheet.now.tasks c.args.set in (
      c.push_held.ensures.written
          ∙ ap (λ text. text ++ line c.loop-task.task) c.loop-task.invariant.0
          ∙ append_assoc c.args.page.now.written _ _
          ∙ ap (λ text. c.args.page.now.written ++ text) (sym (lines_more line c.loop-task.task)),
      omega (arith, c.loop-task.invariant.1, c.push_held.ensures.room),
      c.push_held.ensures.size ∙ c.loop-task.invariant.2,
    )
