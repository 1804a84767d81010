-- the times of the counts so far, which aren't too many
use Rattle.std.proofs.Common.{◌≡◌, ◌*◌, ◌^◌, ◌≤◌, length, take}
use Rattle.prta_mass.specs.Table.{total}
use Rattle.prta_times.specs.Counts.{counted}
use Rattle.prta_times.proofs.tallies.tally_of.Given as goal

abbrev pub invariant-loop-count : goal.invariant-loop-count
invariant-loop-count l = record {
  times : l.tally ≡ counted l.name (take l.count-index l.counts);
  few : length l.tally ≤ l.most;
  fits : total l.tally ≤ l.count-index * 2 ^ 64;
}
