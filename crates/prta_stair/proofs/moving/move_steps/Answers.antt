use Rattle.std.proofs.Common.{◌≡◌, ◌+◌, length, take, arith, sym, subst, ◌∙◌}
use Rattle.prta_stair.specs.Steps.{height}
use Rattle.prta_stair.specs.Setting.{IsPut}
use Rattle.prta_stair.proofs.Moves.{Moved, moved_none, moved_step, moved_all}
use Rattle.prta_stair.proofs.moving.move_steps.Goals as goal

pub loop-i-init : goal.loop-i-init
loop-i-init c = moved_none c.args.how c.args.steps.now (length c.args.to.now) c.args.to.now

pub put-count-requires-clause-before : goal.put-count-requires-clause-before
put-count-requires-clause-before c =
    let so_far : Moved c.args.how c.args.steps.now (length c.args.to.now) c.loop-i.i c.loop-i.count c.loop-i.to =
    subst (λ n. Moved c.args.how c.args.steps.now n c.loop-i.i c.loop-i.count c.loop-i.to) c.loop-i.auto.to c.loop-i.invariant in
    λ n l. so_far.ahead n c.loop-i.i c.moved-at.result l (omega arith) c.loop-i-test.true c.moved-at.ensures.below c.moved-at.ensures.moved

pub loop-i-preserved : goal.loop-i-preserved
loop-i-preserved c =
    let how = c.args.how in
    let steps = c.args.steps.now in
    let cap = length c.args.to.now in
    let i = c.loop-i.i in
    let so_far : Moved how steps cap i c.loop-i.count c.loop-i.to = subst (λ n. Moved how steps n i c.loop-i.count c.loop-i.to) c.loop-i.auto.to c.loop-i.invariant in
    let put : IsPut cap c.moved-at.result (height steps i) (take c.loop-i.count c.loop-i.to) (take c.put-count.result c.put-count.new.to) =
    subst (λ n. IsPut n c.moved-at.result (height steps i) (take c.loop-i.count c.loop-i.to) (take c.put-count.result c.put-count.new.to)) c.loop-i.auto.to c.put-count.ensures.put in
    let size : length c.put-count.new.to ≡ cap = c.put-count.auto.to ∙ c.loop-i.auto.to in
    subst (λ n. Moved how steps n (i + 1) c.put-count.result c.put-count.new.to) (sym size)
    (moved_step how steps cap i c.loop-i.count c.put-count.result c.moved-at.result c.loop-i.to c.put-count.new.to c.requires.steps.rising c.loop-i-test.true size
    (omega (arith, c.put-count.ensures.room, c.loop-i.auto.to)) c.moved-at.ensures.below c.moved-at.ensures.moved put so_far)

pub returns-clause-made : goal.returns-clause-made
returns-clause-made c =
    let so_far : Moved c.args.how c.args.steps.now (length c.args.to.now) c.loop-i.i c.loop-i.count c.loop-i.to =
    subst (λ n. Moved c.args.how c.args.steps.now n c.loop-i.i c.loop-i.count c.loop-i.to) c.loop-i.auto.to c.loop-i.invariant in
    moved_all c.args.how c.args.steps.now (length c.args.to.now) c.loop-i.i c.loop-i.count c.loop-i.to c.loop-i-test.false so_far
