use Rattle.std.proofs.Common.{◌≡◌}
use Rattle.prta_stair.specs.Reading.{level}
use Rattle.prta_stair.proofs.Marks.{MarkedSteps}
use Rattle.prta_stair.proofs.marking.mark.Given as goal

-- the marks so far are those of the steps so far, the last of which has the value `under`
abbrev pub invariant-loop-i : goal.invariant-loop-i
invariant-loop-i l = record {
  under : l.under ≡ level l.steps l.i;
  sums : MarkedSteps l.steps l.fn.marks l.marks l.first l.time l.weight l.i;
}
