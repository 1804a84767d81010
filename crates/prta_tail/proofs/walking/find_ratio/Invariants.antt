-- none of the ratios so far passes
use Rattle.std.proofs.Common.{◌≡◌, ℕ, ◌<◌, false, get_or}
use Rattle.prta_backlog.specs.Level.{sheet_level}
use Rattle.prta_tail.specs.Ratios.{ratio, ratios}
use Rattle.prta_tail.specs.Walk.{ratio_passes}
use Rattle.prta_tail.proofs.walking.find_ratio.Given as goal

abbrev pub invariant-loop-i : goal.invariant-loop-i
invariant-loop-i l = (k : ℕ) → k < l.i → ratio_passes l.sheet.tasks (sheet_level l.fn.task) (get_or ratios k (ratio 0 0)) ≡ false
