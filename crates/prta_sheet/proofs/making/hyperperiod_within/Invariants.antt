-- the hyperperiod of the tasks so far
use Rattle.std.proofs.Common.{◌≡◌, ◌≤◌, take}
use Rattle.prta_sheet.specs.Sheet.{hyperperiod as hyperperiod_of}
use Rattle.prta_sheet.specs.declared.limits.TheConstants.{PERIOD_LIMIT}
use Rattle.prta_sheet.proofs.making.hyperperiod_within.Given as goal

abbrev pub invariant-loop-task : goal.invariant-loop-task
invariant-loop-task l = (l.hyperperiod ≡ hyperperiod_of (take l.task-index l.tasks)) × (1 ≤ l.hyperperiod) × (l.hyperperiod ≤ PERIOD_LIMIT)
