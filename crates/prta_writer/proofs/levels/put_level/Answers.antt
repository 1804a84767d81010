use Rattle.std.proofs.Common.{rules, ◌≡◌, ◌++◌, OnOk, OnErr, ◌∙◌, subst}
use Rattle.prta_report.specs.Certificates.{list_rows, certify_rows}
use Rattle.prta_writer.specs.Writing.{TookPart, TookAllBut}
use Rattle.prta_writer.proofs.Taking.{part_of_more}
use Rattle.prta_writer.proofs.FoundLevels.{line_is, line_of_list}
use Rattle.prta_writer.proofs.levels.put_level.Given as given
use Rattle.prta_writer.proofs.levels.put_level.Goals as goal
use Rattle.prta_writer.proofs.levels.put_level.Goals.{After-put_list}

-- the list that was written is the one of the level
rows_are : (g : given.Over) (c : After-put_list g) → list_rows c.args.sheet.now c.args.task (g.C.Curve.cells c.find.new.bench.main) ≡ certify_rows c.args.sheet.now c.args.task
rows_are g c =
    line_of_list c.args.sheet.now c.args.task (g.C.Curve.cells c.find.new.bench.main) c.find.result c.in-Turn.is c.find.ensures.list
    ∙ line_is c.args.sheet.now c.args.task c.find.result c.find.ensures.verdict

pub returns-in_err-make_room-in-OverFull-clause-part : goal.returns-in_err-make_room-in-OverFull-clause-part
returns-in_err-make_room-in-OverFull-clause-part g c =
    let a = g.O.Sink.taken c.args.out.now in
    let b = g.O.Sink.taken c.make_room.new.sink in
    let part : TookPart a b (c.args.page.now.written ++ certify_rows c.args.sheet.now c.args.task) =
    part_of_more a b c.args.page.now.written (certify_rows c.args.sheet.now c.args.task) c.in_err-make_room-in-OverFull.ensures.part in
    search (rules, part)

pub returns-in_err-make_room-in-BeyondCap-clause-part : goal.returns-in_err-make_room-in-BeyondCap-clause-part
returns-in_err-make_room-in-BeyondCap-clause-part g c =
    let a = g.O.Sink.taken c.args.out.now in
    let b = g.O.Sink.taken c.make_room-in-BeyondCap.new.sink in
    let part : TookPart a b (c.args.page.now.written ++ certify_rows c.args.sheet.now c.args.task) =
    part_of_more a b c.args.page.now.written (certify_rows c.args.sheet.now c.args.task) c.in_err-make_room-in-BeyondCap.ensures.part in
    search (rules, part)

pub returns-in-Turn-clause-took : goal.returns-in-Turn-clause-took
returns-in-Turn-clause-took g c =
    subst (λ rows. OnOk c.put_list.result (TookAllBut (g.O.Sink.taken c.args.out.now) (g.O.Sink.taken c.put_list.new.out) (c.args.page.now.written ++ rows) c.put_list.new.page.written)) (rows_are g c) c.put_list.ensures.took

pub returns-in-Turn-clause-part : goal.returns-in-Turn-clause-part
returns-in-Turn-clause-part g c =
    subst (λ rows. OnErr c.put_list.result (TookPart (g.O.Sink.taken c.args.out.now) (g.O.Sink.taken c.put_list.new.out) (c.args.page.now.written ++ rows))) (rows_are g c) c.put_list.ensures.part
