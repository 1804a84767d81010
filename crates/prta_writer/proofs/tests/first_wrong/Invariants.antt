-- the room is enough for the sheet
use Rattle.std.proofs.Common.{◌≡◌, true}
use Rattle.prta_writer.specs.Report.{fits}
use Rattle.prta_writer.proofs.tests.first_wrong.Given as goal

abbrev pub invariant-loop-row : goal.invariant-loop-row
invariant-loop-row l = fits l.sheet l.room ≡ true
