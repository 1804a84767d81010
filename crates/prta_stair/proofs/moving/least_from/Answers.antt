use Rattle.std.proofs.Common.{arith}
use Rattle.prta_resample.proofs.Places.{is_fine, is_multiple}
use Rattle.prta_stair.proofs.Sampling.{up_own, up_next, up_last}
use Rattle.prta_stair.proofs.moving.least_from.Goals as goal
use Rattle.prta_stair.proofs.moving.least_from.Goals.{then-q-support-via-then-q-support, then-q-support-via-else-q-support+then-rest-eq0}

pub returns-then-q-support-clause-moved : goal.returns-then-q-support-clause-moved
returns-then-q-support-clause-moved c = elim c.then-q-support.branch [
  | then-q-support-via-then-q-support w ↦ up_own c.args.support c.args.cap c.args.q (omega arith) c.requires.below (is_fine c.args.support c.args.cap c.args.q w.if-q-support.true)
  | then-q-support-via-else-q-support+then-rest-eq0 w ↦ up_own c.args.support c.args.cap c.args.q (omega arith) c.requires.below (is_multiple c.args.support c.args.cap c.args.q w.if-rest-eq0.true)
]

pub returns-then-next-cap-clause-moved : goal.returns-then-next-cap-clause-moved
returns-then-next-cap-clause-moved c = up_next c.args.support c.args.cap c.args.q (omega arith) c.requires.below (omega arith) c.if-rest-eq0.false c.if-next-cap.true

pub returns-else-next-cap-clause-moved : goal.returns-else-next-cap-clause-moved
returns-else-next-cap-clause-moved c = up_last c.args.support c.args.cap c.args.q (omega arith) c.requires.below (omega arith) c.if-rest-eq0.false c.if-next-cap.false
