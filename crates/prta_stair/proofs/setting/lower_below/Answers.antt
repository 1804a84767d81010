use Rattle.std.proofs.Common.{◌≡◌, ◌+◌, ◌-◌, ◌<◌, length, take, arith, sym, subst}
use Rattle.prta_stair.specs.Steps.{place, height}
use Rattle.prta_stair.specs.Setting.{IsPut}
use Rattle.prta_stair.proofs.Lowered.{Lowered, lowered_none, lowered_step, dropped_step, lowered_all}
use Rattle.prta_stair.proofs.setting.lower_below.Goals as goal
use Rattle.prta_stair.proofs.setting.lower_below.Goals.{then-height-gt0, else-height-gt0}

pub loop-i-init : goal.loop-i-init
loop-i-init c = lowered_none c.args.steps.now c.args.s c.args.top (length c.args.to.now) c.args.to.now

pub loop-i-preserved : goal.loop-i-preserved
loop-i-preserved c =
    let steps = c.args.steps.now in
    let s = c.args.s in
    let top = c.args.top in
    let i = c.loop-i.i in
    let cap = length c.loop-i.to in
    let inside : i < length steps = omega (arith, c.loop-i-test.true, c.seek-kept.ensures.reached.within) in
    let lowered : c.saturating_sub-height.result ≡ height steps i - s = c.saturating_sub-height.ensures in
    elim c.if-height-gt0.branch [
      | then-height-gt0 w ↦
          let put : IsPut cap (place steps i) (height steps i - s) (take c.loop-i.count c.loop-i.to) (take w.put-count.result w.put-count.new.to) =
          subst (λ v. IsPut cap (place steps i) v (take c.loop-i.count c.loop-i.to) (take w.put-count.result w.put-count.new.to)) lowered w.put-count.ensures.put in
          let size : length w.put-count.new.to ≡ cap = w.put-count.auto.to in
          let a : Lowered steps s top cap (i + 1) w.put-count.result w.put-count.new.to =
          lowered_step steps s top cap i c.loop-i.count c.loop-i.to c.requires.steps.rising inside c.loop-i.invariant w.put-count.result w.put-count.new.to
          (omega (arith, c.seek-kept.ensures.reached.passed i c.loop-i-test.true)) (omega (arith, lowered, w.if-height-gt0.true)) size w.put-count.ensures.room put in
          rw (w.to-is, w.count-is) (subst (λ n. Lowered steps s top n (i + 1) w.put-count.result w.put-count.new.to) (sym size) a)
      | else-height-gt0 w ↦
          let a : Lowered steps s top cap (i + 1) c.loop-i.count c.loop-i.to =
          dropped_step steps s top cap i c.loop-i.count c.loop-i.to c.requires.steps.rising inside c.loop-i.invariant (omega (arith, lowered, w.if-height-gt0.false)) in
          rw (w.to-is, w.count-is) a
    ]

pub returns-clause-values : goal.returns-clause-values
returns-clause-values c = lowered_all c.args.steps.now c.args.s c.args.top (length c.loop-i.to) c.seek-kept.result c.loop-i.i c.loop-i.count c.loop-i.to c.requires.steps.rising c.seek-kept.ensures.reached.within c.seek-kept.ensures.next (omega arith) c.loop-i.invariant
