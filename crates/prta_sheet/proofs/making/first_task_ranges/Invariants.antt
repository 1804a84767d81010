-- each task so far is in its ranges, and its tables have no fault
use Rattle.std.proofs.Common.{◌≡◌, ℕ, ◌<◌, None}
use Rattle.prta_sheet.specs.Sheet.{task_at}
use Rattle.prta_sheet.specs.SheetConditions.{task_ranges}
use Rattle.prta_sheet.proofs.Accepts.{TablesAreMade}
use Rattle.prta_sheet.proofs.making.first_task_ranges.Given as goal

abbrev pub invariant-loop-i : goal.invariant-loop-i
invariant-loop-i l = record {
  ranges : (k : ℕ) → k < l.i → task_ranges k (task_at l.tasks k) ≡ None;
  tables : (k : ℕ) → k < l.i → TablesAreMade (task_at l.tasks k);
}
