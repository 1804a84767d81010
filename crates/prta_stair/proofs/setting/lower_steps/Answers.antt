use Rattle.std.proofs.Common.{◌≡◌, ◌≤◌, length, take, arith, sym, subst, ◌∙◌}
use Rattle.std.proofs.lemmas.List.{length-take-le}
use Rattle.prta_mass.specs.Unit.{unit}
use Rattle.prta_stair.specs.Reading.{level}
use Rattle.prta_stair.specs.Setting.{IsPut}
use Rattle.prta_stair.proofs.Settings.{level_end, heights_low, lowered_same, lowered_put}
use Rattle.prta_stair.proofs.setting.lower_steps.Goals as goal

pub returns-then-last_of-eq-UNIT-clause-cells : goal.returns-then-last_of-eq-UNIT-clause-cells
returns-then-last_of-eq-UNIT-clause-cells c =
    let cap = length c.args.to.now in
    let count = c.lower_below-count.result in
    let to = c.lower_below-count.new.to in
    let le : count ≤ length to = omega (arith, c.lower_below-count.ensures.count, c.lower_below-count.auto.to) in
    let ending : level (take count to) (length (take count to)) ≡ unit = level_end to count le ∙ sym c.last_of.ensures ∙ c.if-last_of-eq-UNIT.true in
    lowered_same cap c.args.s c.args.top c.args.steps.now (take count to) (omega (arith, c.requires.top)) c.requires.steps c.lower_below-count.ensures.steps
    (λ i h. c.lower_below-count.ensures.below i (omega (arith, h, length-take-le count to le))) c.lower_below-count.ensures.values ending

pub put-requires-clause-before : goal.put-requires-clause-before
put-requires-clause-before c =
    let cap = length c.args.to.now in
    let count = c.lower_below-count.result in
    let to = c.lower_below-count.new.to in
    let le : count ≤ length to = omega (arith, c.lower_below-count.ensures.count, c.lower_below-count.auto.to) in
    λ i l. (
      omega (arith, c.lower_below-count.ensures.below i l),
      heights_low cap count to le c.lower_below-count.ensures.steps (λ e. c.if-last_of-eq-UNIT.false (c.last_of.ensures ∙ e)) i l,
    )

pub returns-clause-cells : goal.returns-clause-cells
returns-clause-cells c =
    let cap = length c.args.to.now in
    let mid = take c.lower_below-count.result c.lower_below-count.new.to in
    let new = take c.put.result c.put.new.to in
    let put : IsPut cap c.args.top unit mid new = subst (λ n. IsPut n c.args.top unit mid new) c.lower_below-count.auto.to c.put.ensures.put in
    lowered_put cap c.args.s c.args.top c.args.steps.now mid new (omega (arith, c.requires.top)) c.requires.steps c.lower_below-count.ensures.values put
