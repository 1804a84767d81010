use Rattle.std.proofs.Common.{◌≡◌, ℕ, ◌+◌, ◌<◌, length, take}
use Rattle.prta_stair.specs.Adding.{sum_at, sum_of_first}
use Rattle.prta_stair.proofs.marking.mark_all.Given as goal

-- the sums over the points so far
abbrev pub invariant-loop-i : goal.invariant-loop-i
invariant-loop-i l = (j : ℕ) → j < length l.fn.marks → sum_of_first (j + 1) l.marks ≡ sum_at (take l.i l.points) l.steps (l.first + j)
