use Rattle.std.proofs.Common.{length, take}
use Rattle.prta_stair.proofs.Moves.{makes_shifted}
use Rattle.prta_stair.proofs.moving.shift_steps.Goals as goal

pub returns-clause-cells : goal.returns-clause-cells
returns-clause-cells c = makes_shifted (length c.args.to.now) c.args.t c.args.steps.now (take c.move_steps.result c.move_steps.new.to) c.requires.some c.requires.steps c.move_steps.ensures.made
