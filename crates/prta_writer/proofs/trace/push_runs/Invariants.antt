-- the lines of the runs so far
use Rattle.std.proofs.Common.{◌≡◌, ◌+◌, ◌*◌, ◌≤◌, ◌++◌, flat_map, take}
use Rattle.prta_report.specs.declared.page.TheConstants.{LINE}
use Rattle.prta_report.specs.Trace.{line_of_run}
use Rattle.prta_writer.proofs.trace.push_runs.Given as goal

abbrev pub invariant-loop-run : goal.invariant-loop-run
invariant-loop-run l =
    (l.page.written ≡ l.initial.page.written ++ flat_map (line_of_run l.sheet.tasks l.jobs) (take l.run-index l.runs))
    × (l.initial.page.spare ≤ l.page.spare + l.run-index * LINE)
