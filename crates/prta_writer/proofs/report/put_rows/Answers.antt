use Rattle.std.proofs.Common.{rules, ℕ, ◌++◌, List, length, flat_map, ◌∙◌, arith}
use Rattle.prta_sheet.specs.Sheet.{Sheet, sheet_order}
use Rattle.prta_writer.specs.Report.{rows}
use Rattle.prta_writer.specs.Writing.{TookPart}
use Rattle.prta_writer.proofs.Checks.{count_within, listed}
use Rattle.prta_writer.proofs.RowsInTurn.{row_more, row_in_part}
use Rattle.prta_writer.proofs.report.put_rows.Goals as goal

pub put_task-requires-clause-jobs : goal.put_task-requires-clause-jobs
put_task-requires-clause-jobs g c =
    let sheet : Sheet = c.args.sheet.now in
    let low = listed sheet.tasks c.tasks-tasks.result.now c.loop-i.i c.tasks-tasks.ensures.tasks c.loop-i-test.true in
    omega (arith, c.loop-i.invariant.jobs, count_within sheet c.loop-i.i _ low c.requires.jobs)

pub returns-in_err-put_task-clause-part : goal.returns-in_err-put_task-clause-part
returns-in_err-put_task-clause-part g c =
    let sheet : Sheet = c.args.sheet.now in
    let a = g.O.Sink.taken c.args.out.now in
    let b = g.O.Sink.taken c.loop-i.out in
    let d = g.O.Sink.taken c.put_task.new.out in
    let i = c.loop-i.i in
    let row : ℕ → List ℕ = rows c.args.what sheet in
    let low = listed sheet.tasks c.tasks-tasks.result.now i c.tasks-tasks.ensures.tasks c.loop-i-test.true in
    let part : TookPart a d (c.args.desk.now.page.written ++ flat_map row (sheet_order sheet.tasks)) =
    row_in_part a b d c.args.desk.now.page.written row i c.loop-i.desk.page.written c.loop-i.invariant.took (length sheet.tasks) low c.in_err-put_task.ensures.part in
    search (rules, part)

pub loop-i-preserved : goal.loop-i-preserved
loop-i-preserved g c =
    let sheet : Sheet = c.args.sheet.now in
    let a = g.O.Sink.taken c.args.out.now in
    let b = g.O.Sink.taken c.loop-i.out in
    let d = g.O.Sink.taken c.put_task.new.out in
    let put = c.in_ok-put_task.ensures in
    record {
      took = row_more a b d c.args.desk.now.page.written (rows c.args.what sheet) c.loop-i.i c.loop-i.desk.page.written c.loop-i.invariant.took c.put_task.new.desk.page.written put.took;
      fits = put.fits;
      entries = omega (arith, put.entries, c.loop-i.invariant.entries);
      jobs = put.jobs ∙ c.loop-i.invariant.jobs;
      size = put.page ∙ c.loop-i.invariant.size;
      faults = omega (arith, put.never_falls, c.loop-i.invariant.faults);
    }
