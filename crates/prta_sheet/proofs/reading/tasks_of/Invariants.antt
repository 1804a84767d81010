-- the tasks are those of the tables so far, and the weights of none sum to too much
use Rattle.std.proofs.Common.{◌≡◌, ℕ, ◌<◌, false, map, take}
use Rattle.prta_sheet.proofs.ReadItems.{task_read, is_heavy_at}
use Rattle.prta_sheet.proofs.reading.tasks_of.Given as goal

abbrev pub invariant-loop-i : goal.invariant-loop-i
invariant-loop-i l = record {
  made : l.tasks.items ≡ map task_read (take l.i l.tables);
  light : (k : ℕ) → k < l.i → is_heavy_at (map task_read l.tables) k ≡ false;
}
