-- Where a sheet passes, the exact chance of each analysed job does.
use Rattle.std.proofs.Common.{◌≡◌, ℕ, ◌*◌, ◌≤◌, true, arith}
use Rattle.std.proofs.lemmas.Bool.{leb-true}
use Rattle.prta_mass.specs.Unit.{unit}
use Rattle.prta_sheet.specs.Sheet.{Sheet, task_at, sheet_order}
use Rattle.prta_sheet.specs.Job.{Job, nth_job}
use Rattle.prta_sheet.specs.Chance.{miss_weight, chance_total}
use Rattle.prta_sheet.specs.Accepted.{IsAccepted}
use Rattle.prta_backlog.specs.Level.{sheet_level}
use Rattle.prta_response.specs.Laws.{NumbersAreAround}
use Rattle.prta_certificate.proofs.SheetLevels.{own_order_fits}
use Rattle.prta_dual.specs.Numbers.{upper}
use Rattle.prta_audsley.specs.Passing.{ChancesPass}
use Rattle.prta_audsley.proofs.Allowances.{chance_from_upper}
use Rattle.prta_slack.specs.Passing.{sheet_passes}
use Rattle.prta_slack.specs.Laws.{PassingIsEach}

pub chances_pass : NumbersAreAround → PassingIsEach → (sheet : Sheet) → IsAccepted sheet → sheet_passes sheet ≡ true → ChancesPass sheet (sheet_order sheet.tasks)
chances_pass numbers each sheet is passes = λ i k analysed.
    let job : Job = nth_job sheet.tasks i k in
    let allow : ℕ × ℕ = (task_at sheet.tasks i).allow in
    let number : ℕ = upper sheet (sheet_level i) job in
    let around = numbers sheet (sheet_level i) (sheet_order sheet.tasks) k is analysed.listed (own_order_fits sheet.tasks i analysed.listed) in
    let low : number * allow.1 ≤ allow.0 * unit = leb-true (number * allow.1) (allow.0 * unit) ((each sheet is).0 passes i k analysed) in
    chance_from_upper unit number (miss_weight sheet.tasks (sheet_order sheet.tasks) job) (chance_total sheet.tasks job) allow.0 allow.1 (omega arith) around.above low
