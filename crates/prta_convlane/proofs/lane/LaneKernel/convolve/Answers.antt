use Rattle.std.proofs.Common.{length, subst}
use Rattle.prta_convlane.specs.Progress.{IsDone}
use Rattle.prta_convlane.proofs.Progress.{done_cells, done_rests}
use Rattle.prta_convlane.proofs.lane.LaneKernel.convolve.Goals as goal

pub returns-clause-cells : goal.returns-clause-cells
returns-clause-cells c =
    let done : IsDone c.args.dir c.args.table.now c.args.from.now c.add_rest.new.to (length c.args.from.now) c.add_rest.result =
    subst (λ pairs. IsDone c.args.dir pairs c.args.from.now c.add_rest.new.to (length c.args.from.now) c.add_rest.result) c.points-points.ensures.pairs c.add_rest.ensures.done in
    done_cells c.args.dir c.args.table.now c.args.from.now c.add_rest.new.to c.add_rest.result c.add_rest.ensures.same done

pub returns-clause-rounded : goal.returns-clause-rounded
returns-clause-rounded c =
    let done : IsDone c.args.dir c.args.table.now c.args.from.now c.add_rest.new.to (length c.args.from.now) c.add_rest.result =
    subst (λ pairs. IsDone c.args.dir pairs c.args.from.now c.add_rest.new.to (length c.args.from.now) c.add_rest.result) c.points-points.ensures.pairs c.add_rest.ensures.done in
    done_rests c.args.dir c.args.table.now c.args.from.now c.add_rest.new.to c.add_rest.result done
