use Rattle.std.proofs.Common.{◌<◌, length}
use Rattle.prta_stair.specs.Steps.{place}
use Rattle.prta_stair.specs.Reading.{IsReached}
use Rattle.prta_stair.proofs.Comparisons.{Clear}
use Rattle.prta_stair.proofs.comparing.first_break_of.Given as goal

-- before the next step there is no break
abbrev pub invariant-loop-i : goal.invariant-loop-i
invariant-loop-i l = record {
  reached : l.i < length l.steps → IsReached l.image 0 (place l.steps l.i) l.j;
  clear : Clear l.steps l.image l.i;
}
