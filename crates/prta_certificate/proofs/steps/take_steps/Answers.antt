-- A cell above the last one is one more step.
use Rattle.std.proofs.Common.{◌<◌, length, ◌∙◌, arith}
use Rattle.prta_certificate.proofs.Stepping.{rises_on, taken_rise, taken_still, taken_same}
use Rattle.prta_certificate.proofs.steps.take_steps.Goals as goal
use Rattle.prta_certificate.proofs.steps.take_steps.Goals.{then-cell-value+in_ok-push, else-cell-value}

pub push-requires : goal.push-requires
push-requires g c = record {
  rises = rises_on c.steps_are_lists.ensures (g.C.Curve.cells c.args.bench.now.main) c.cap-place-end.ensures.chances c.loop-place.place (omega (arith, c.loop-place-test.true, c.cap-place-end.ensures.cap))
      c.loop-place.steps c.loop-place.value c.loop-place.invariant _ c.at-cell.ensures.value c.if-cell-value.true;
}

pub loop-place-preserved : goal.loop-place-preserved
loop-place-preserved g c =
    let near : c.loop-place.place < length (g.C.Curve.cells c.args.bench.now.main) = omega (arith, c.loop-place-test.true, c.cap-place-end.ensures.cap) in
    elim c.if-cell-value.branch [
      | then-cell-value+in_ok-push w ↦
          taken_same _ _ _ _ _ _ (w.steps-is ∙ w.in_ok-push.ensures.pushed) w.value-is
          (taken_rise c.steps_are_lists.ensures (g.C.Curve.cells c.args.bench.now.main) c.cap-place-end.ensures.chances c.loop-place.place near
          c.loop-place.steps c.loop-place.value c.loop-place.invariant _ c.at-cell.ensures.value w.if-cell-value.true)
      | else-cell-value w ↦
          taken_same _ _ _ _ _ _ w.steps-is w.value-is
          (taken_still c.steps_are_lists.ensures (g.C.Curve.cells c.args.bench.now.main) c.cap-place-end.ensures.chances c.loop-place.place near
          c.loop-place.steps c.loop-place.value c.loop-place.invariant _ c.at-cell.ensures.value w.if-cell-value.false)
    ]
