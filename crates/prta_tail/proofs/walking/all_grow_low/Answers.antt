-- The tasks so far grow low, or one doesn't.
use Rattle.std.proofs.Common.{◌<◌, List, not, ◌||◌, length, sym, ◌∙◌, subst}
use Rattle.std.specs.List.{list_all}
use Rattle.prta_sheet.specs.Sheet.{Task, task_at}
use Rattle.prta_jobs.specs.TaskSet.{holds}
use Rattle.prta_jobs.proofs.OrderLists.{all_more, fails_in_range}
use Rattle.prta_tail.specs.Walk.{grows_low}
use Rattle.prta_tail.proofs.walking.all_grow_low.Goals as goal

pub returns-then-not-task_grows_low : goal.returns-then-not-task_grows_low
returns-then-not-task_grows_low c =
    let low : c.loop-i.i < length c.args.sheet.now.tasks = subst (λ (ts : List Task). c.loop-i.i < length ts) c.tasks-tasks.ensures.tasks c.loop-i-test.true in
    sym (fails_in_range (λ i. not (holds c.args.level i) || list_all (grows_low c.args.ratio) (task_at c.args.sheet.now.tasks i).cycle) (length c.args.sheet.now.tasks) c.loop-i.i low
    (sym c.task_grows_low.ensures ∙ c.if-not-task_grows_low.true))

pub loop-i-preserved : goal.loop-i-preserved
loop-i-preserved c =
    all_more (λ i. not (holds c.args.level i) || list_all (grows_low c.args.ratio) (task_at c.args.sheet.now.tasks i).cycle) c.loop-i.i c.loop-i.invariant
    (sym c.task_grows_low.ensures ∙ c.if-not-task_grows_low.false)
