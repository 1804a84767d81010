use Rattle.std.proofs.Common.{ℕ, List}
use Rattle.prta_report.specs.Text.{certified_line}
use Rattle.prta_report.specs.Certificates.{name_of, steady_rows}
use Rattle.prta_writer.proofs.Parts.{body_put, body_cut, on_ok, on_err}
use Rattle.prta_writer.proofs.steadiness.put_certified.Goals as goal

pub returns-clause-took : goal.returns-clause-took
returns-clause-took g c =
    let sheet = c.args.sheet.now in
    let steady : List ℕ = steady_rows sheet c.args.task (g.C.Curve.cells c.args.bench.now.main) in
    on_ok c.put_steady.result c.put_steady.ensures.took
    (body_put (g.O.Sink.taken c.args.out.now) (g.O.Sink.taken c.make_room.new.sink) c.args.page.now.written (certified_line (name_of sheet c.args.task)) steady c.make_room.new.page.written c.certified_line.new.page.written
    c.in_ok-make_room.ensures.took c.certified_line.ensures.written (g.O.Sink.taken c.put_steady.new.out) c.put_steady.new.page.written)

pub returns-clause-part : goal.returns-clause-part
returns-clause-part g c =
    let sheet = c.args.sheet.now in
    let steady : List ℕ = steady_rows sheet c.args.task (g.C.Curve.cells c.args.bench.now.main) in
    on_err c.put_steady.result c.put_steady.ensures.part
    (body_cut (g.O.Sink.taken c.args.out.now) (g.O.Sink.taken c.make_room.new.sink) c.args.page.now.written (certified_line (name_of sheet c.args.task)) steady c.make_room.new.page.written c.certified_line.new.page.written
    c.in_ok-make_room.ensures.took c.certified_line.ensures.written (g.O.Sink.taken c.put_steady.new.out))
