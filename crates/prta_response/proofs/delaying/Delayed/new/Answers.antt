use Rattle.std.proofs.Common.{◌≡◌, ℕ, ◌+◌, ◌*◌, ◌/◌, ◌<◌, ◌≤◌, arith, mul-le-mul_right}
use Rattle.std.proofs.Math.Nat.{div-mul-le_self}
use Rattle.prta_sheet.specs.Sheet.{Sheet, Task, task_at, horizon}
use Rattle.prta_sheet.specs.Accepted.{IsTask}
use Rattle.prta_sheet.specs.Counts.{job_count}
use Rattle.prta_sheet.proofs.Whole.{job_count_is}
use Rattle.prta_backlog.proofs.Counts.{horizon_low}
use Rattle.prta_response.proofs.delaying.Delayed.new.Goals as goal

before : (offset period number end : ℕ) → offset < period → number < end / period → offset + number * period < end
before offset period number end early low =
    let next : number + 1 ≤ end / period = omega arith in
    omega (arith, mul-le-mul_right period next, div-mul-le_self end period)

pub returns-clause-early : goal.returns-clause-early
returns-clause-early c =
    let sheet : Sheet = c.args.sheet.now in
    let task : Task = task_at sheet.tasks c.args.task in
    let ranges : IsTask sheet.settings.cap task = c.tasks-tasks.ensures.accepted.tasks c.args.task _ c.requires.task in
    let count : job_count sheet c.args.task ≡ horizon sheet / task.period = job_count_is sheet c.tasks-tasks.ensures.accepted c.args.task c.requires.task _ in
    omega (
      arith,
      c.release.ensures,
      before task.offset task.period c.args.number (horizon sheet) ranges.offset (omega (arith, c.requires.number, count)),
      horizon_low sheet c.tasks-tasks.ensures.accepted,
    )
