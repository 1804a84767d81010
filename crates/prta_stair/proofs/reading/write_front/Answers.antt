use Rattle.std.proofs.Common.{length, arith}
use Rattle.std.proofs.lemmas.List.FromFn.{fill_by_all}
use Rattle.prta_stair.specs.Steps.{value_at}
use Rattle.prta_stair.proofs.reading.write_front.Goals as goal

pub returns : goal.returns
returns c = fill_by_all (value_at c.args.steps.now) c.loop-k.room (length c.args.room.now) 0 (omega arith) (λ k h. c.loop-k.invariant.written k (omega arith))
