use Rattle.std.proofs.Common.{OnErr, ap}
use Rattle.prta_report.specs.Tails.{tail_text}
use Rattle.prta_writer.specs.Writing.{TookPart}
use Rattle.prta_writer.proofs.Parts.{handed_on}
use Rattle.prta_writer.proofs.tail.write_tail.Goals as goal
use Rattle.prta_writer.proofs.tail.write_tail.Goals.{in-Cells, in-Steps}

pub returns-clause-part : goal.returns-clause-part
returns-clause-part g c =
    let a = g.O.Sink.taken c.args.out.now in
    elim c.match-curves.branch [
      | in-Cells w ↦ handed_on (λ r b. OnErr r (TookPart a b (tail_text c.args.sheet.now))) c.match-curves.result w.put_tails.result (g.O.Sink.taken c.match-curves.out) (g.O.Sink.taken w.put_tails.new.out) w.result-is (ap g.O.Sink.taken w.out-is) w.put_tails.ensures.part
      | in-Steps w ↦ handed_on (λ r b. OnErr r (TookPart a b (tail_text c.args.sheet.now))) c.match-curves.result w.put_tails-in-Steps.result (g.O.Sink.taken c.match-curves.out) (g.O.Sink.taken w.put_tails-in-Steps.new.out) w.result-is (ap g.O.Sink.taken w.out-is) w.put_tails-in-Steps.ensures.part
    ]
