-- with the lines that are left this is the whole text
use Rattle.std.proofs.Common.{◌≡◌, ◌++◌, drop}
use Rattle.prta_certfile.specs.Text.{level_lines}
use Rattle.prta_certfile.proofs.text.push_lines.Given as goal

abbrev pub invariant-loop-i : goal.invariant-loop-i
invariant-loop-i l = l.text.items ++ level_lines (drop l.i l.tasks) (drop l.i l.levels) ≡ l.initial.text.items ++ level_lines l.tasks l.levels
