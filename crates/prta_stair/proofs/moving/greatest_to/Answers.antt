use Rattle.std.proofs.Common.{arith}
use Rattle.prta_resample.proofs.Places.{is_fine, is_last}
use Rattle.prta_stair.proofs.Sampling.{down_own, down_floor, down_fine}
use Rattle.prta_stair.proofs.moving.greatest_to.Goals as goal
use Rattle.prta_stair.proofs.moving.greatest_to.Goals.{then-q-support-via-then-q-support, then-q-support-via-else-q-support+then-q-cap}

pub returns-then-q-support-clause-moved : goal.returns-then-q-support-clause-moved
returns-then-q-support-clause-moved c = elim c.then-q-support.branch [
  | then-q-support-via-then-q-support w ↦ down_own c.args.support c.args.cap c.args.q (omega arith) c.requires.below (is_fine c.args.support c.args.cap c.args.q w.if-q-support.true)
  | then-q-support-via-else-q-support+then-q-cap w ↦ down_own c.args.support c.args.cap c.args.q (omega arith) c.requires.below (is_last c.args.support c.args.cap c.args.q w.if-q-cap.true)
]

pub returns-then-floor-support-clause-moved : goal.returns-then-floor-support-clause-moved
returns-then-floor-support-clause-moved c = down_floor c.args.support c.args.cap c.args.q (omega arith) c.requires.below c.if-floor-support.true (omega arith)

pub returns-else-floor-support-clause-moved : goal.returns-else-floor-support-clause-moved
returns-else-floor-support-clause-moved c = down_fine c.args.support c.args.cap c.args.q (omega arith) c.requires.below (omega arith) c.if-floor-support.false (omega arith)
