-- the names so far, the room left and the size
use Rattle.std.proofs.Common.{◌≡◌, ◌+◌, ◌*◌, ◌≤◌, ◌++◌, flat_map, length}
use Rattle.std.specs.List.{range_with_len}
use Rattle.prta_report.specs.Assignment.{name_if}
use Rattle.prta_report.proofs.assignment.push_set.Given as goal

abbrev pub invariant-loop-task : goal.invariant-loop-task
invariant-loop-task l =
    (l.page.written ≡ l.fn.page.written ++ flat_map (name_if l.sheet.tasks l.set) (range_with_len 0 l.task))
    × (l.fn.page.spare ≤ l.page.spare + l.task * 25)
    × (length l.page.written + l.page.spare ≡ length l.fn.page.written + l.fn.page.spare)
