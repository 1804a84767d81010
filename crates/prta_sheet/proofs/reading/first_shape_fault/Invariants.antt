-- no table so far has a fault
use Rattle.std.proofs.Common.{◌≡◌}
use Rattle.prta_sheet.proofs.ReadItems.{faults_from}
use Rattle.prta_sheet.proofs.reading.first_shape_fault.Given as goal

abbrev pub invariant-loop-points : goal.invariant-loop-points
invariant-loop-points l = faults_from (λ points. points.items) l.cycle 0 ≡ faults_from (λ points. points.items) l.cycle l.points-index
