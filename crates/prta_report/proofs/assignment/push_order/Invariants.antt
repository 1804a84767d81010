-- the names so far, the room left and the size
use Rattle.std.proofs.Common.{◌≡◌, ◌+◌, ◌*◌, ◌≤◌, ◌++◌, flat_map, take, length}
use Rattle.prta_report.specs.Assignment.{name_at}
use Rattle.prta_report.proofs.assignment.push_order.Given as goal

abbrev pub invariant-loop-task : goal.invariant-loop-task
invariant-loop-task l =
    (l.page.written ≡ l.initial.page.written ++ flat_map (name_at l.sheet.tasks) (take l.task-index l.order))
    × (l.initial.page.spare ≤ l.page.spare + l.task-index * 25)
    × (length l.page.written + l.page.spare ≡ length l.initial.page.written + l.initial.page.spare)
