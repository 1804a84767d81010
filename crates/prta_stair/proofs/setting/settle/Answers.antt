use Rattle.std.proofs.Common.{◌≡◌, length, take, arith, sym, ◌∙◌}
use Rattle.std.proofs.lemmas.List.{length-take-le}
use Rattle.prta_mass.specs.Unit.{unit}
use Rattle.prta_stair.specs.Reading.{level}
use Rattle.prta_stair.proofs.Settings.{level_end, heights_low, settled_same, settled_put}
use Rattle.prta_stair.proofs.setting.settle.Goals as goal

pub returns-then-last_of-eq-UNIT-clause-cells : goal.returns-then-last_of-eq-UNIT-clause-cells
returns-then-last_of-eq-UNIT-clause-cells c =
    let ending : level (take c.args.count c.args.to.now) (length (take c.args.count c.args.to.now)) ≡ unit = level_end c.args.to.now c.args.count c.requires.count ∙ sym c.last_of.ensures ∙ c.if-last_of-eq-UNIT.true in
    settled_same (length c.args.to.now) (take c.args.count c.args.to.now) c.requires.some c.requires.steps ending

pub put-requires-clause-before : goal.put-requires-clause-before
put-requires-clause-before c = λ i l. (
  omega (arith, c.requires.steps.below i (omega (arith, length-take-le c.args.count c.args.to.now c.requires.count, l))),
  heights_low (length c.args.to.now) c.args.count c.args.to.now c.requires.count c.requires.steps (λ e. c.if-last_of-eq-UNIT.false (c.last_of.ensures ∙ e)) i l,
)

pub returns-clause-cells : goal.returns-clause-cells
returns-clause-cells c = settled_put (length c.args.to.now) (take c.args.count c.args.to.now) (take c.put.result c.put.new.to) c.requires.some c.put.ensures.put.values
