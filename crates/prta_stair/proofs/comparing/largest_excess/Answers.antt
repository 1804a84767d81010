use Rattle.std.proofs.Common.{◌≡◌, ◌+◌, ◌-◌, ◌∙◌, length, ap, subst, arith}
use Rattle.prta_stair.specs.Steps.{value_at, place, height}
use Rattle.prta_stair.proofs.Values.{value_here, before_none}
use Rattle.prta_stair.proofs.Comparisons.{Excess, excess_more, excess_all}
use Rattle.prta_stair.proofs.comparing.largest_excess.Goals as goal

pub overflow_sub-excess : goal.overflow_sub-excess
overflow_sub-excess c =
    let above = c.args.above.now in
    let below = c.args.below.now in
    let i = c.loop-i.i in
    let got : c.value.result ≡ value_at below (place above i) = c.value.ensures ∙ before_none (value_at below) (place above i) in
    omega (arith, got, c.requires.over (place above i), value_here above i c.requires.above_rises c.loop-i-test.true)

pub loop-i-preserved : goal.loop-i-preserved
loop-i-preserved c =
    let above = c.args.above.now in
    let below = c.args.below.now in
    let i = c.loop-i.i in
    let here : height above i - c.value.result ≡ height above i - value_at below (place above i) = ap (λ v. height above i - v) (c.value.ensures ∙ before_none (value_at below) (place above i)) in
    record {
      reached = λ h. record {
        within = c.reach-j.ensures.reached.within;
        passed = λ n l. omega (arith, c.reach-j.ensures.reached.passed n l, (c.requires.above_rises i (i + 1) (omega arith) h).0);
      };
      so_far = excess_more above below c.requires.above_rises i c.loop-i.most (height above i - c.value.result) c.larger-most.result c.loop-i-test.true here c.larger-most.ensures c.loop-i.invariant.so_far;
    }

pub returns : goal.returns
returns c cap under =
    let past : c.loop-i.i ≡ length c.args.above.now = omega arith in
    excess_all c.args.above.now c.args.below.now c.requires.above_rises c.requires.below_rises c.loop-i.most cap (subst (λ n. Excess c.args.above.now c.args.below.now n c.loop-i.most) past c.loop-i.invariant.so_far) under
