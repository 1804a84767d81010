use Rattle.std.proofs.Common.{◌≡◌, ℕ, ◌<◌, get_or}
use Rattle.prta_stair.specs.Steps.{value_at}
use Rattle.prta_stair.specs.Reading.{IsReached}
use Rattle.prta_stair.proofs.reading.write_front.Given as goal

-- the cells so far are the list's
abbrev pub invariant-loop-k : goal.invariant-loop-k
invariant-loop-k l = record {
  reached : IsReached l.steps 0 l.k l.i;
  written : (j : ℕ) → j < l.k → get_or l.room j 0 ≡ value_at l.steps j;
}
