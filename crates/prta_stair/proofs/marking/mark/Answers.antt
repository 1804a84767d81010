use Rattle.std.proofs.Common.{◌≡◌, ℕ, suc, List, ◌<◌, ◌≤◌, ◌+◌, ◌-◌, ◌*◌, ◌^◌, sym, ap, subst, arith, set, get_or, refl}
use Rattle.std.proofs.Math.Facts.{Fits-below}
use Rattle.prta_stair.specs.Steps.{place, height}
use Rattle.prta_stair.specs.Reading.{level}
use Rattle.prta_stair.proofs.Values.{value_here}
use Rattle.prta_stair.proofs.Marks.{MarkedSteps, mark_step, mark_past, mark_fits}
use Rattle.prta_stair.proofs.marking.mark.Goals as goal
use Rattle.prta_stair.proofs.marking.mark.Goals.{then-at-marks, else-at-marks}

pub overflow_add-marks : goal.overflow_add-marks
overflow_add-marks c =
    let steps = c.args.steps.now in
    let i = c.loop-i.i in
    let at : ℕ = place steps i - c.args.first + c.args.time in
    let rise = c.requires.steps.rising in
    let h : get_or c.loop-i.marks at 0 + c.args.weight * (height steps i - level steps i) < 2 ^ 127 =
    mark_fits steps c.args.marks.now c.loop-i.marks c.args.first c.args.time c.args.weight i rise c.loop-i-test.true c.loop-i.auto.marks (c.requires.low i c.loop-i-test.true) c.loop-i.invariant.sums
    at (2 ^ 127) refl c.if-at-marks.true (value_here steps i rise c.loop-i-test.true) (c.requires.fits at (omega (arith, c.if-at-marks.true, c.loop-i.auto.marks))) in
    let g : get_or c.loop-i.marks at 0 + c.args.weight * (height steps i - c.loop-i.under) < 2 ^ 127 =
    subst (λ b. get_or c.loop-i.marks at 0 + c.args.weight * (height steps i - b) < 2 ^ 127) (sym c.loop-i.invariant.under) h in
    Fits-below {n = 2 ^ 127} tt (omega (arith, g))

pub loop-i-preserved : goal.loop-i-preserved
loop-i-preserved c =
    let steps = c.args.steps.now in
    let old = c.args.marks.now in
    let marks = c.loop-i.marks in
    let i = c.loop-i.i in
    let first = c.args.first in
    let time = c.args.time in
    let w = c.args.weight in
    let at : ℕ = place steps i - first + time in
    let low : first ≤ place steps i = c.requires.low i c.loop-i-test.true in
    record {
      under = ap (level steps) (let e : suc i ≡ i + 1 = omega arith in e);
      sums = elim c.if-at-marks.branch [
        | then-at-marks w2 ↦
            let a : MarkedSteps steps old (set marks at (get_or marks at 0 + w * (height steps i - level steps i))) first time w (i + 1) =
            mark_step steps old marks first time w i c.requires.steps.rising c.loop-i-test.true c.loop-i.auto.marks low c.loop-i.invariant.sums at refl w2.if-at-marks.true in
            let b : MarkedSteps steps old (set marks at (get_or marks at 0 + w * (height steps i - c.loop-i.under))) first time w (i + 1) =
            subst (λ v. MarkedSteps steps old (set marks at (get_or marks at 0 + w * (height steps i - v))) first time w (i + 1)) (sym c.loop-i.invariant.under) a in
            subst (λ (ms : List ℕ). MarkedSteps steps old ms first time w (i + 1)) (sym w2.marks-is) b
        | else-at-marks w2 ↦
            let a : MarkedSteps steps old marks first time w (i + 1) =
            mark_past steps old marks first time w i c.requires.steps.rising c.loop-i-test.true c.loop-i.auto.marks low c.loop-i.invariant.sums w2.if-at-marks.false in
            subst (λ (ms : List ℕ). MarkedSteps steps old ms first time w (i + 1)) (sym w2.marks-is) a
      ];
    }
