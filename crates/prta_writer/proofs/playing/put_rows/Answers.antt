use Rattle.std.proofs.Common.{rules, ◌<◌, ◌++◌, length, flat_map, ap, ◌∙◌, subst, arith}
use Rattle.prta_sheet.specs.Sheet.{Sheet, sheet_order}
use Rattle.prta_report.specs.Analysis.{analyse_rows}
use Rattle.prta_writer.specs.Writing.{TookPart, TookAllBut}
use Rattle.prta_writer.proofs.RowsInTurn.{row_more, row_in_part}
use Rattle.prta_writer.proofs.playing.put_rows.Given as given
use Rattle.prta_writer.proofs.playing.put_rows.Goals as goal

pub returns-in_err-put_jobs-clause-part : goal.returns-in_err-put_jobs-clause-part
returns-in_err-put_jobs-clause-part g c =
    let sheet : Sheet = c.args.session.now.sheet in
    let a = g.O.Sink.taken c.args.out.now in
    let b = g.O.Sink.taken c.loop-i.out in
    let d = g.O.Sink.taken c.put_jobs.new.out in
    let low : c.loop-i.i < length sheet.tasks = omega (arith, c.loop-i-test.true, ap length c.tasks-tasks.ensures.tasks, ap (λ (s : Sheet). length s.tasks) c.sheet-sheet.ensures) in
    let part : TookPart a d (c.args.page.now.written ++ flat_map (analyse_rows sheet) (sheet_order sheet.tasks)) =
    row_in_part a b d c.args.page.now.written (analyse_rows sheet) c.loop-i.i c.loop-i.page.written c.loop-i.invariant.took (length sheet.tasks) low
    (subst (λ (s : Sheet). TookPart b d (c.loop-i.page.written ++ analyse_rows s c.loop-i.i)) c.sheet-sheet.ensures c.in_err-put_jobs.ensures.part) in
    search (rules, part)

pub loop-i-preserved : goal.loop-i-preserved
loop-i-preserved g c =
    let a = g.O.Sink.taken c.args.out.now in
    let b = g.O.Sink.taken c.loop-i.out in
    let d = g.O.Sink.taken c.put_jobs.new.out in
    let put = c.in_ok-put_jobs.ensures in
    record {
      took = row_more a b d c.args.page.now.written (analyse_rows c.args.session.now.sheet) c.loop-i.i c.loop-i.page.written c.loop-i.invariant.took c.put_jobs.new.page.written
          (subst (λ (s : Sheet). TookAllBut b d (c.loop-i.page.written ++ analyse_rows s c.loop-i.i) c.put_jobs.new.page.written) c.sheet-sheet.ensures put.took);
      size = put.size ∙ c.loop-i.invariant.size;
      faults = omega (arith, put.never_falls, c.loop-i.invariant.faults);
    }
