use Rattle.std.proofs.Common.{ℕ, ◌*◌, ◌≤◌, arith, mul-le-mul_right}
use Rattle.prta_sheet.specs.Sheet.{hyperperiod}
use Rattle.prta_backlog.proofs.pass.short_horizon.Goals as goal

product_low : (n h : ℕ) → n ≤ 64 → h ≤ 1000000 → n * h ≤ 64000000
product_low n h a b = omega (arith, mul-le-mul_right h a)

pub returns : goal.returns
returns c = product_low c.args.sheet.now.settings.hyperperiods (hyperperiod c.args.sheet.now.tasks) c.tasks-tasks.ensures.accepted.settings.hyperperiods_high c.tasks-tasks.ensures.accepted.short_hyperperiod
