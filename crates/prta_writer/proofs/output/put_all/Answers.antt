use Rattle.std.proofs.Common.{◌+◌, arith}
use Rattle.prta_writer.proofs.Taking.{took_more, length-rest_from}
use Rattle.prta_writer.proofs.output.put_all.Goals as goal

pub loop-taken-preserved : goal.loop-taken-preserved
loop-taken-preserved g c =
    let text = c.args.text.now in
    let long = length-rest_from text c.loop-taken.taken in
    let some = c.in-Ok.ensures.some in (
      omega arith,
      took_more (g.K.Sink.taken c.args.sink.now) (g.K.Sink.taken c.loop-taken.sink) (g.K.Sink.taken c.put.new.self) text c.loop-taken.taken c.in-Ok.n c.loop-taken.invariant.1 c.in-Ok.ensures.appended,
      omega (arith, c.loop-taken.invariant.2, c.put.ensures.never_falls),
    )

pub returns-in-Err-clause-part : goal.returns-in-Err-clause-part
returns-in-Err-clause-part g c =
    let text = c.args.text.now in
    let cut = c.in-Err.ensures.cut in (
      c.loop-taken.taken + cut.0,
      omega (arith, length-rest_from text c.loop-taken.taken, cut.1),
      took_more (g.K.Sink.taken c.args.sink.now) (g.K.Sink.taken c.loop-taken.sink) (g.K.Sink.taken c.put.new.self) text c.loop-taken.taken cut.0 c.loop-taken.invariant.1 cut.2,
    )
