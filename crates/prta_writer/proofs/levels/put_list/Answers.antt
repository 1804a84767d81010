use Rattle.std.proofs.Common.{rules, ◌++◌, [], flat_map, codes, ap}
use Rattle.prta_certfile.specs.Steps.{steps_of}
use Rattle.prta_certfile.specs.Text.{level_head, pair_text}
use Rattle.prta_report.specs.Page.{PageParts}
use Rattle.prta_report.specs.Certificates.{name_of, list_rows}
use Rattle.prta_writer.specs.Writing.{TookPart, TookAllBut}
use Rattle.prta_writer.proofs.Parts.{body_put, body_cut, last_cut, last_not_put, last_put}
use Rattle.prta_writer.proofs.levels.put_list.Given as given
use Rattle.prta_writer.proofs.levels.put_list.Goals as goal
use Rattle.prta_writer.proofs.levels.put_list.Goals.{In_ok-put_steps}

-- the line but for its end was written
so_far : (g : given.Over) (c : In_ok-put_steps g) →
    TookAllBut (g.O.Sink.taken c.args.out.now) (g.O.Sink.taken c.put_steps.new.out)
    (c.args.page.now.written ++ (level_head (name_of c.args.sheet.now c.args.task) ++ flat_map pair_text (steps_of (g.C.Curve.cells c.args.list.now)))) c.put_steps.new.page.written
so_far g c =
    body_put (g.O.Sink.taken c.args.out.now) (g.O.Sink.taken c.make_room.new.sink) c.args.page.now.written (level_head (name_of c.args.sheet.now c.args.task))
    (flat_map pair_text (steps_of (g.C.Curve.cells c.args.list.now))) c.make_room.new.page.written c.level_head.new.page.written
    c.in_ok-make_room.ensures.took c.level_head.ensures.written (g.O.Sink.taken c.put_steps.new.out) c.put_steps.new.page.written c.in_ok-put_steps.ensures.took

pub returns-in_err-put_steps-clause-part : goal.returns-in_err-put_steps-clause-part
returns-in_err-put_steps-clause-part g c =
    let a = g.O.Sink.taken c.args.out.now in
    let d = g.O.Sink.taken c.put_steps.new.out in
    let head = level_head (name_of c.args.sheet.now c.args.task) in
    let steps = flat_map pair_text (steps_of (g.C.Curve.cells c.args.list.now)) in
    let part : TookPart a d (c.args.page.now.written ++ list_rows c.args.sheet.now c.args.task (g.C.Curve.cells c.args.list.now)) =
    last_cut a d c.args.page.now.written (head ++ steps) (codes "\n") []
    (body_cut a (g.O.Sink.taken c.make_room.new.sink) c.args.page.now.written head steps c.make_room.new.page.written c.level_head.new.page.written
    c.in_ok-make_room.ensures.took c.level_head.ensures.written d c.in_err-put_steps.ensures.part) in
    search (rules, part)

pub returns-in_err-make_room-2-clause-part : goal.returns-in_err-make_room-2-clause-part
returns-in_err-make_room-2-clause-part g c =
    let a = g.O.Sink.taken c.args.out.now in
    let e = g.O.Sink.taken c.make_room-2.new.sink in
    let line = level_head (name_of c.args.sheet.now c.args.task) ++ flat_map pair_text (steps_of (g.C.Curve.cells c.args.list.now)) in
    let part : TookPart a e (c.args.page.now.written ++ list_rows c.args.sheet.now c.args.task (g.C.Curve.cells c.args.list.now)) =
    last_not_put a (g.O.Sink.taken c.put_steps.new.out) c.args.page.now.written line (codes "\n") c.put_steps.new.page.written
    (so_far g (goal.at.returns-in_err-make_room-2-clause-part g c).In_ok-put_steps) e c.in_err-make_room-2.ensures.part in
    search (rules, part)

pub returns-clause-took : goal.returns-clause-took
returns-clause-took g c =
    let line = level_head (name_of c.args.sheet.now c.args.task) ++ flat_map pair_text (steps_of (g.C.Curve.cells c.args.list.now)) in
    last_put (g.O.Sink.taken c.args.out.now) (g.O.Sink.taken c.put_steps.new.out) c.args.page.now.written line (codes "\n") c.put_steps.new.page.written
    (so_far g (goal.at.returns-clause-took g c).In_ok-put_steps) (g.O.Sink.taken c.make_room-2.new.sink) c.make_room-2.new.page.written c.push.new.self.written
    c.in_ok-make_room-2.ensures.took (ap (λ (p : PageParts). p.written) c.push.ensures)
