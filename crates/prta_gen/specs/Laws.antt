-- What holds of every sheet that is generated.
use Rattle.std.specs.Prelude.{◌≡◌, ℕ, ◌≤◌, None}
use Rattle.prta_sheet.specs.SheetConditions.{part_fault}
use Rattle.prta_gen.specs.Generator.{generated}

-- no condition on a sheet fails
abbrev pub GeneratedAreAccepted : Type 0
GeneratedAreAccepted = (seed n : ℕ) → 1 ≤ n → n ≤ 12 → part_fault (generated seed n) ≡ None
