-- the steps at the places so far
use Rattle.std.proofs.Common.{◌≡◌, ◌+◌, ◌≤◌, ◌++◌, length, flat_map}
use Rattle.std.specs.List.{range_with_len}
use Rattle.prta_mass.specs.Chances.{at, before}
use Rattle.prta_writer.specs.Writing.{TookAllBut}
use Rattle.prta_writer.proofs.StepRows.{step_row}
use Rattle.prta_writer.proofs.levels.put_steps.Given as goal

abbrev pub invariant-loop-place : goal.invariant-loop-place
invariant-loop-place g l = record {
  took : TookAllBut (g.O.Sink.taken l.fn.out) (g.O.Sink.taken l.out) (l.fn.page.written ++ flat_map (step_row (g.C.Curve.cells l.list)) (range_with_len 0 l.place)) l.page.written;
  before_is : l.before ≡ before (at (g.C.Curve.cells l.list)) l.place 1;
  size : length l.page.written + l.page.spare ≡ length l.fn.page.written + l.fn.page.spare;
  faults : g.O.Sink.faults l.fn.out ≤ g.O.Sink.faults l.out;
}
