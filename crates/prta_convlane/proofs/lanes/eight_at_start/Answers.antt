use Rattle.std.proofs.Common.{◌+◌, arith}
use Rattle.std.proofs.lemmas.List.{length-set}
use Rattle.std.proofs.lemmas.List.Edits.{fill_by_more}
use Rattle.prta_mass.specs.Chances.{at, before}
use Rattle.prta_convlane.proofs.lanes.eight_at_start.Goals as goal

pub loop-j-preserved : goal.loop-j-preserved
loop-j-preserved c = record {
  eight = omega (arith, c.loop-j.invariant.eight, length-set c.loop-j.values c.loop-j.j c.value_before.result);
  lanes = rw c.value_before.ensures
      (fill_by_more (λ i. before (at c.args.from.now) (c.args.k + i) c.args.time) c.loop-j.values c.loop-j.j 0 (omega (arith, c.loop-j.invariant.eight, c.loop-j-test.true)) c.loop-j.invariant.lanes);
}
