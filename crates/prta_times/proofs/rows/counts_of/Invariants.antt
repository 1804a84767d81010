-- the counts of the records so far, each of which gives one
use Rattle.std.proofs.Common.{◌≡◌, map, take}
use Rattle.csv.specs.Records.{fields_of}
use Rattle.prta_times.specs.Parts.{counts_among}
use Rattle.prta_times.proofs.GoodRows.{AreGood}
use Rattle.prta_times.proofs.rows.counts_of.Given as goal

abbrev pub invariant-loop-i : goal.invariant-loop-i
invariant-loop-i l = record {
  counts : l.counts.items ≡ counts_among (map fields_of (take l.i l.rows));
  good : AreGood l.rows l.i;
}
