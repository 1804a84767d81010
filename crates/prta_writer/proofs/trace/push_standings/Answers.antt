use Rattle.std.proofs.Common.{◌++◌, ap, sym, ◌∙◌, append_assoc, arith}
use Rattle.prta_report.specs.Trace.{standing_line}
use Rattle.prta_report.proofs.Lines.{lines_more}
use Rattle.prta_writer.proofs.trace.push_standings.Goals as goal

pub loop-i-preserved : goal.loop-i-preserved
loop-i-preserved c =
    let line = standing_line c.args.sheet.now.tasks c.args.machine.now in (
      c.push_standing.ensures.written
          ∙ ap (λ text. text ++ line c.loop-i.i) c.loop-i.invariant.0
          ∙ append_assoc c.args.page.now.written _ _
          ∙ ap (λ text. c.args.page.now.written ++ text) (sym (lines_more line c.loop-i.i)),
      omega (arith, c.loop-i.invariant.1, c.push_standing.ensures.room),
    )
