-- the numbers of the tasks so far
use Rattle.std.proofs.Common.{◌≡◌, ◌+◌, ◌*◌, ◌^◌, ◌≤◌}
use Rattle.prta_sheet.specs.Work.{task_work}
use Rattle.prta_sheet.proofs.Below.{sum_below}
use Rattle.prta_sheet.proofs.work.work_of.Given as goal

abbrev pub invariant-loop-i : goal.invariant-loop-i
invariant-loop-i l = (l.work ≡ sum_below (task_work (record { settings = l.fn.settings; tasks = l.tasks })) l.i) × (l.work ≤ (2 ^ 49 + 2 ^ 60) * l.i)
