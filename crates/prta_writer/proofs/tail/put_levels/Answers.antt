use Rattle.std.proofs.Common.{rules, ℕ, ◌++◌, List, length, flat_map, ◌∙◌, arith}
use Rattle.prta_sheet.specs.Sheet.{Sheet, sheet_order}
use Rattle.prta_report.specs.Tails.{tail_rows}
use Rattle.prta_writer.specs.Writing.{TookPart}
use Rattle.prta_writer.proofs.Checks.{listed}
use Rattle.prta_writer.proofs.RowsInTurn.{row_more, row_in_part}
use Rattle.prta_writer.proofs.tail.put_levels.Goals as goal

pub returns-in_err-put_level-clause-part : goal.returns-in_err-put_level-clause-part
returns-in_err-put_level-clause-part g c =
    let sheet : Sheet = c.args.sheet.now in
    let a = g.O.Sink.taken c.args.out.now in
    let b = g.O.Sink.taken c.loop-i.out in
    let d = g.O.Sink.taken c.put_level.new.out in
    let i = c.loop-i.i in
    let row : ℕ → List ℕ = tail_rows sheet in
    let low = listed sheet.tasks c.tasks-tasks.result.now i c.tasks-tasks.ensures.tasks c.loop-i-test.true in
    let part : TookPart a d (c.args.page.now.written ++ flat_map row (sheet_order sheet.tasks)) =
    row_in_part a b d c.args.page.now.written row i c.loop-i.page.written c.loop-i.invariant.took (length sheet.tasks) low c.in_err-put_level.ensures.part in
    search (rules, part)

pub loop-i-preserved : goal.loop-i-preserved
loop-i-preserved g c =
    let sheet : Sheet = c.args.sheet.now in
    let a = g.O.Sink.taken c.args.out.now in
    let b = g.O.Sink.taken c.loop-i.out in
    let d = g.O.Sink.taken c.put_level.new.out in
    let put = c.in_ok-put_level.ensures in
    record {
      took = row_more a b d c.args.page.now.written (tail_rows sheet) c.loop-i.i c.loop-i.page.written c.loop-i.invariant.took c.put_level.new.page.written put.took;
      fits = put.fits;
      places = put.places ∙ c.loop-i.invariant.places;
      size = put.size ∙ c.loop-i.invariant.size;
      faults = omega (arith, put.never_falls, c.loop-i.invariant.faults);
    }
