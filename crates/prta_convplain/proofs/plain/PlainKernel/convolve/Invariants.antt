use Rattle.std.proofs.Common.{◌≡◌, ℕ, ◌<◌, length, take, get_or}
use Rattle.std.specs.List.{range_with_len, list_any}
use Rattle.prta_dist.specs.Addition.{cell_added, leaves_rest}
use Rattle.prta_convplain.proofs.plain.PlainKernel.convolve.Given as goal

-- the cells so far are the addition's, and the flag tells whether one of them left a remainder
abbrev pub invariant-loop-k : goal.invariant-loop-k
invariant-loop-k l = record {
  cells : (j : ℕ) → j < l.k → get_or l.to j 0 ≡ cell_added l.dir l.table l.from j;
  rests : l.rounded ≡ list_any (leaves_rest l.table l.from) (take l.k (range_with_len 0 (length l.from)));
}
