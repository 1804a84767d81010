use Rattle.std.proofs.Common.{ℕ, ◌*◌, ◌≤◌, arith, mul-le-mul_right}
use Rattle.prta_sheet.specs.Sheet.{hyperperiod}
use Rattle.prta_backlog.proofs.imaging.whole_hyperperiod.Goals as goal

at_least_once : (n h : ℕ) → 1 ≤ n → h ≤ n * h
at_least_once n h a = omega (arith, mul-le-mul_right h a)

pub returns-clause-within : goal.returns-clause-within
returns-clause-within c =
    omega (arith, c.hyperperiod.ensures.hyperperiod, at_least_once c.args.sheet.now.settings.hyperperiods (hyperperiod c.args.sheet.now.tasks) c.hyperperiod.ensures.accepted.settings.hyperperiods_low)
