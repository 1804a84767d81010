-- the copies are equal to the tasks so far
use Rattle.std.proofs.Common.{◌≡◌, take}
use Rattle.prta_sheet.proofs.sheet.copies_of.Given as goal

abbrev pub invariant-loop-task : goal.invariant-loop-task
invariant-loop-task l = l.copies.items ≡ take l.task-index l.tasks
