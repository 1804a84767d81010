use Rattle.std.proofs.Common.{ap, ◌∙◌}
use Rattle.prta_mass.specs.Table.{fault_of}
use Rattle.prta_gen.proofs.Points.{points_have_no_fault}
use Rattle.prta_gen.proofs.draws.draw_cycle.Goals as goal

pub table_of-requires : goal.table_of-requires
table_of-requires c =
    ap fault_of (c.deref.ensures.value ∙ c.in_ok-points.ensures.points) ∙ points_have_no_fault c.args.count c.args.draws.now.state c.requires.some c.requires.few
