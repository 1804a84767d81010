-- the lines so far have no fault, and are read; the rest is read on the sheet as they leave it
use Rattle.std.proofs.Common.{◌≡◌, ◌+◌, ◌≤◌, ◌++◌, length}
use Rattle.prta_session.specs.Text.{parts}
use Rattle.prta_session.specs.Script.{lines_fault, lines_in}
use Rattle.prta_session.proofs.reading.read_lines.Given as goal

abbrev pub invariant-lines : goal.invariant-lines
invariant-lines l = record {
  fault : lines_fault l.tasks l.n l.edited (parts 10 l.rest) ≡ lines_fault l.tasks 1 l.sheet (parts 10 l.fn.bytes);
  lines : l.script ++ lines_in l.tasks (parts 10 l.rest) ≡ lines_in l.tasks (parts 10 l.fn.bytes);
  count : length l.tasks ≡ length l.edited.tasks;
  place : l.n + length l.rest ≤ 1 + length l.fn.bytes;
}

abbrev pub decreases-lines : goal.decreases-lines
decreases-lines l = length l.rest
