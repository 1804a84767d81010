use Rattle.std.proofs.Common.{◌≡◌, ◌<◌, length, ap, ◌∙◌, arith}
use Rattle.prta_sheet.specs.Sheet.{Sheet}
use Rattle.prta_sheet.specs.Work.{task_work}
use Rattle.prta_sheet.proofs.Below.{sum_below}
use Rattle.prta_sheet.proofs.Whole.{offsets_from, cycles_from, whole_at, jobs_within}
use Rattle.prta_sheet.proofs.WorkSums.{sum_of_tasks}
use Rattle.prta_sheet.proofs.work.work_of.Goals as goal

pub points_of_all-requires-clause-whole : goal.points_of_all-requires-clause-whole
points_of_all-requires-clause-whole c =
    whole_at c.args.tasks.now (offsets_from c.args.settings.cap c.args.tasks.now c.requires.tasks) (cycles_from c.args.settings.cap c.args.tasks.now c.requires.tasks) c.args.settings.hyperperiods c.args.hyperperiod c.requires.hyperperiod

pub own_work-requires-clause-whole : goal.own_work-requires-clause-whole
own_work-requires-clause-whole c =
    whole_at c.args.tasks.now (offsets_from c.args.settings.cap c.args.tasks.now c.requires.tasks) (cycles_from c.args.settings.cap c.args.tasks.now c.requires.tasks) c.args.settings.hyperperiods c.args.hyperperiod c.requires.hyperperiod c.loop-i.i _ (omega arith)

pub own_work-requires-clause-jobs : goal.own_work-requires-clause-jobs
own_work-requires-clause-jobs c =
    let low : c.loop-i.i < length c.args.tasks.now = omega arith in
    omega (arith, c.requires.jobs, jobs_within c.args.tasks.now (offsets_from c.args.settings.cap c.args.tasks.now c.requires.tasks) (cycles_from c.args.settings.cap c.args.tasks.now c.requires.tasks) c.args.settings.hyperperiods c.args.hyperperiod c.requires.hyperperiod c.loop-i.i low)

pub returns : goal.returns
returns c =
    let sheet : Sheet = record { settings = c.args.settings; tasks = c.args.tasks.now } in
    let past : c.loop-i.i ≡ length c.args.tasks.now = omega arith in
    c.loop-i.invariant.0 ∙ ap (sum_below (task_work sheet)) past ∙ sum_of_tasks (task_work sheet) (length c.args.tasks.now)
