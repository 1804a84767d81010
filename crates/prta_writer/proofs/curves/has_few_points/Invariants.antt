-- the support points so far
use Rattle.std.proofs.Common.{◌≡◌, ◌≤◌}
use Rattle.std.specs.Prelude.{count_by}
use Rattle.std.specs.List.{range_with_len}
use Rattle.prta_mass.specs.Support.{is_support}
use Rattle.prta_writer.proofs.curves.has_few_points.Given as goal

abbrev pub invariant-loop-k : goal.invariant-loop-k
invariant-loop-k l = record {
  counted : l.count ≡ count_by (is_support l.support l.cap) (range_with_len 0 l.k);
  few : l.count ≤ l.k;
}
