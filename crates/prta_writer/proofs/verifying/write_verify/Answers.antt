use Rattle.std.proofs.Common.{OnErr, ap}
use Rattle.prta_report.specs.Certificates.{verify_text}
use Rattle.prta_writer.specs.Writing.{TookPart}
use Rattle.prta_writer.proofs.Parts.{handed_on}
use Rattle.prta_writer.proofs.verifying.write_verify.Goals as goal
use Rattle.prta_writer.proofs.verifying.write_verify.Goals.{in-Cells, in-Steps}

pub returns-clause-part : goal.returns-clause-part
returns-clause-part g c =
    let a = g.O.Sink.taken c.args.out.now in
    elim c.match-curves.branch [
      | in-Cells w ↦ handed_on (λ r b. OnErr r (TookPart a b (verify_text c.args.sheet.now c.args.certificate.now))) c.match-curves.result w.put_verify.result (g.O.Sink.taken c.match-curves.out) (g.O.Sink.taken w.put_verify.new.out) w.result-is (ap g.O.Sink.taken w.out-is) w.put_verify.ensures.part
      | in-Steps w ↦ handed_on (λ r b. OnErr r (TookPart a b (verify_text c.args.sheet.now c.args.certificate.now))) c.match-curves.result w.put_verify-in-Steps.result (g.O.Sink.taken c.match-curves.out) (g.O.Sink.taken w.put_verify-in-Steps.new.out) w.result-is (ap g.O.Sink.taken w.out-is) w.put_verify-in-Steps.ensures.part
    ]
