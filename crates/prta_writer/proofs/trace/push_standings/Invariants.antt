-- the lines of the jobs so far
use Rattle.std.proofs.Common.{◌≡◌, ◌+◌, ◌*◌, ◌≤◌, ◌++◌, flat_map}
use Rattle.std.specs.List.{range_with_len}
use Rattle.prta_report.specs.declared.page.TheConstants.{LINE}
use Rattle.prta_report.specs.Trace.{standing_line}
use Rattle.prta_writer.proofs.trace.push_standings.Given as goal

abbrev pub invariant-loop-i : goal.invariant-loop-i
invariant-loop-i l =
    (l.page.written ≡ l.fn.page.written ++ flat_map (standing_line l.sheet.tasks l.machine) (range_with_len 0 l.i))
    × (l.fn.page.spare ≤ l.page.spare + l.i * LINE)
