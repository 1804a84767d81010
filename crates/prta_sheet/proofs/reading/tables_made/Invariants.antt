-- the tables so far, in front of those to come, are all tables; the weights of none so far sum to too much
use Rattle.std.proofs.Common.{◌≡◌, [], None}
use Rattle.prta_sheet.proofs.ReadItems.{faults_from, heavy_from, made_from}
use Rattle.prta_sheet.proofs.reading.tables_made.Given as goal

abbrev pub invariant-loop-points : goal.invariant-loop-points
invariant-loop-points l = record {
  made : made_from (λ points. points.items) l.cycle [] 0 ≡ made_from (λ points. points.items) l.cycle l.tables.items l.points-index;
  shapes : faults_from (λ points. points.items) l.cycle l.points-index ≡ None;
  light : heavy_from (λ points. points.items) l.cycle 0 ≡ heavy_from (λ points. points.items) l.cycle l.points-index;
}
