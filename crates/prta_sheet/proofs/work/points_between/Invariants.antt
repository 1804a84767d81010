-- the points of the tasks so far
use Rattle.std.proofs.Common.{◌≡◌, ◌*◌, ◌^◌, ◌≤◌}
use Rattle.prta_sheet.specs.Work.{points_of_other}
use Rattle.prta_sheet.proofs.Below.{sum_below}
use Rattle.prta_sheet.proofs.work.points_between.Given as goal

abbrev pub invariant-loop-m : goal.invariant-loop-m
invariant-loop-m l = (l.points ≡ sum_below (points_of_other l.tasks l.i l.after l.until) l.m) × (l.points ≤ 2 ^ 31 * l.m)
