use Rattle.std.proofs.Common.{◌≡◌, ℕ, ◌+◌, ◌<◌, length, get_or}
use Rattle.prta_mass.specs.Chances.{at, before}
use Rattle.prta_convlane.proofs.lanes.eight_at_start.Given as goal

-- the lanes so far
abbrev pub invariant-loop-j : goal.invariant-loop-j
invariant-loop-j l = record {
  eight : length l.values ≡ 8;
  lanes : (i : ℕ) → i < l.j → get_or l.values i 0 ≡ before (at l.from) (l.k + i) l.time;
}
