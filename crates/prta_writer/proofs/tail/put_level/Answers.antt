use Rattle.std.proofs.Common.{◌++◌, subst, OnOk, OnErr}
use Rattle.prta_report.specs.Tails.{tail_rows}
use Rattle.prta_writer.specs.Writing.{TookPart, TookAllBut}
use Rattle.prta_writer.proofs.Taking.{part_of_more}
use Rattle.prta_writer.proofs.Parts.{anyway}
use Rattle.prta_writer.proofs.TailRows.{rows_of_list, rows_of_ratio}
use Rattle.prta_writer.proofs.tail.put_level.Goals as goal

pub returns-in-Turn-clause-took : goal.returns-in-Turn-clause-took
returns-in-Turn-clause-took g c =
    let rows = rows_of_list c.args.sheet.now c.args.task c.find.result c.find.ensures.verdict (g.C.Curve.cells c.find.new.bench.main) c.in-Turn.is c.find.ensures.list in
    subst (λ rows. OnOk c.put_certified.result (TookAllBut (g.O.Sink.taken c.args.out.now) (g.O.Sink.taken c.put_certified.new.out) (c.args.page.now.written ++ rows) c.put_certified.new.page.written)) rows c.put_certified.ensures.took

pub returns-in-Turn-clause-part : goal.returns-in-Turn-clause-part
returns-in-Turn-clause-part g c =
    let rows = rows_of_list c.args.sheet.now c.args.task c.find.result c.find.ensures.verdict (g.C.Curve.cells c.find.new.bench.main) c.in-Turn.is c.find.ensures.list in
    subst (λ rows. OnErr c.put_certified.result (TookPart (g.O.Sink.taken c.args.out.now) (g.O.Sink.taken c.put_certified.new.out) (c.args.page.now.written ++ rows))) rows c.put_certified.ensures.part

pub returns-in_err-make_room-in-None-clause-part : goal.returns-in_err-make_room-in-None-clause-part
returns-in_err-make_room-in-None-clause-part g c =
    let a = g.O.Sink.taken c.args.out.now in
    let b = g.O.Sink.taken c.make_room.new.sink in
    let part : TookPart a b (c.args.page.now.written ++ tail_rows c.args.sheet.now c.args.task) =
    part_of_more a b c.args.page.now.written (tail_rows c.args.sheet.now c.args.task) c.in_err-make_room-in-None.ensures.part in
    anyway c.from_residual.result part

pub returns-in_err-make_room-in-BeyondCap-clause-part : goal.returns-in_err-make_room-in-BeyondCap-clause-part
returns-in_err-make_room-in-BeyondCap-clause-part g c =
    let a = g.O.Sink.taken c.args.out.now in
    let b = g.O.Sink.taken c.make_room-in-BeyondCap.new.sink in
    let part : TookPart a b (c.args.page.now.written ++ tail_rows c.args.sheet.now c.args.task) =
    part_of_more a b c.args.page.now.written (tail_rows c.args.sheet.now c.args.task) c.in_err-make_room-in-BeyondCap.ensures.part in
    anyway c.from_residual-in_err-make_room-in-BeyondCap.result part

pub returns-in-Some-clause-took : goal.returns-in-Some-clause-took
returns-in-Some-clause-took g c =
    let rows = rows_of_ratio c.args.sheet.now c.args.task c.find.result c.find.ensures.verdict c.in-OverFull.work c.in-OverFull.hyperperiod c.in-OverFull.is c.find_ratio.result c.find_ratio.ensures.first c.in-Some.ratio c.in-Some.is in
    subst (λ rows. OnOk c.put_tail.result (TookAllBut (g.O.Sink.taken c.args.out.now) (g.O.Sink.taken c.put_tail.new.out) (c.args.page.now.written ++ rows) c.put_tail.new.page.written)) rows c.put_tail.ensures.took

pub returns-in-Some-clause-part : goal.returns-in-Some-clause-part
returns-in-Some-clause-part g c =
    let rows = rows_of_ratio c.args.sheet.now c.args.task c.find.result c.find.ensures.verdict c.in-OverFull.work c.in-OverFull.hyperperiod c.in-OverFull.is c.find_ratio.result c.find_ratio.ensures.first c.in-Some.ratio c.in-Some.is in
    subst (λ rows. OnErr c.put_tail.result (TookPart (g.O.Sink.taken c.args.out.now) (g.O.Sink.taken c.put_tail.new.out) (c.args.page.now.written ++ rows))) rows c.put_tail.ensures.part
