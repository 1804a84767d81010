-- the pass stands in the run from the list that is replaced
use Rattle.std.proofs.Common.{◌≡◌, ◌-◌}
use Rattle.prta_backlog.specs.Pass.{after_last}
use Rattle.prta_backlog.proofs.Images.{InImage}
use Rattle.prta_backlog.proofs.imaging.image.Given as goal

abbrev pub invariant-loop-notes : goal.invariant-loop-notes
invariant-loop-notes g l =
    InImage l.sheet (g.C.Curve.cells l.initial.bench.main) l.fn.higher l.task l.end l.pass (g.C.Curve.cells l.bench.main)
    × (l.bench ≡ record l.initial.bench { main = l.bench.main })

abbrev pub decreases-loop-notes : goal.decreases-loop-notes
decreases-loop-notes g l = l.end - after_last l.pass.last
