-- the points so far
use Rattle.std.proofs.Common.{◌≡◌, take}
use Rattle.prta_mass.specs.Added.{with_added}
use Rattle.prta_mass.proofs.added.put_added.Given as goal

abbrev pub invariant-loop-i : goal.invariant-loop-i
invariant-loop-i l = take l.i l.points ≡ with_added (take l.i l.base) l.s
