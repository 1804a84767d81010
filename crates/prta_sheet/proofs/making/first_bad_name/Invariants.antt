-- no task so far has a bad name
use Rattle.std.proofs.Common.{◌≡◌, ℕ, ◌<◌, false}
use Rattle.prta_sheet.specs.SheetConditions.{is_bad_at}
use Rattle.prta_sheet.proofs.making.first_bad_name.Given as goal

abbrev pub invariant-loop-i : goal.invariant-loop-i
invariant-loop-i l = (k : ℕ) → k < l.i → is_bad_at l.tasks k ≡ false
