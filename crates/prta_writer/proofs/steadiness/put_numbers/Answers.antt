use Rattle.std.proofs.Common.{rules, ◌++◌, length, arith}
use Rattle.prta_sheet.specs.Sheet.{Sheet}
use Rattle.prta_writer.specs.Writing.{TookPart}
use Rattle.prta_writer.specs.Steadiness.{number_lines}
use Rattle.prta_writer.proofs.Checks.{few_jobs}
use Rattle.prta_writer.proofs.RowsInTurn.{row_pushed, row_cut}
use Rattle.prta_writer.proofs.NumberRows.{number_row}
use Rattle.prta_writer.proofs.steadiness.put_numbers.Goals as goal

pub returns-in_err-make_room-clause-part : goal.returns-in_err-make_room-clause-part
returns-in_err-make_room-clause-part g c =
    let sheet : Sheet = c.args.sheet.now in
    let part : TookPart (g.O.Sink.taken c.args.out.now) (g.O.Sink.taken c.make_room.new.sink) (c.args.page.now.written ++ number_lines sheet c.args.task c.args.found.now) =
    row_cut (g.O.Sink.taken c.args.out.now) (g.O.Sink.taken c.loop-number.out) (g.O.Sink.taken c.make_room.new.sink) c.args.page.now.written (number_row sheet c.args.task c.args.found.now)
    c.loop-number.number c.loop-number.page.written c.loop-number.invariant.took (length c.args.found.now) (omega (arith, c.loop-number-test.true)) c.in_err-make_room.ensures.part in
    search (rules, part)

pub overflow_cast-number : goal.overflow_cast-number
overflow_cast-number g c =
    let sheet : Sheet = c.args.sheet.now in
    omega (arith, c.requires.few, few_jobs sheet c.args.task c.tasks-tasks.ensures.accepted, c.loop-number-test.true)

pub loop-number-preserved : goal.loop-number-preserved
loop-number-preserved g c =
    let sheet : Sheet = c.args.sheet.now in
    record {
      took = row_pushed (g.O.Sink.taken c.args.out.now) (g.O.Sink.taken c.loop-number.out) (g.O.Sink.taken c.make_room.new.sink) c.args.page.now.written (number_row sheet c.args.task c.args.found.now)
          c.loop-number.number c.loop-number.page.written c.loop-number.invariant.took c.make_room.new.page.written c.steady_line.new.page.written c.in_ok-make_room.ensures.took
          c.steady_line.ensures.written;
      size = omega (arith, c.steady_line.ensures.size, c.in_ok-make_room.ensures.size, c.loop-number.invariant.size);
      faults = omega (arith, c.in_ok-make_room.ensures.never_falls, c.loop-number.invariant.faults);
    }
