use Rattle.std.proofs.Common.{◌≡◌, length, List, ap, sym, ◌∙◌, subst, arith}
use Rattle.std.proofs.lemmas.List.{get_or_default}
use Rattle.prta_sheet.specs.Sheet.{Task, task_at}
use Rattle.prta_response.specs.Coming.{ComingState, IsComing, IsNextJob, IsFirst}
use Rattle.prta_response.proofs.Walk.{taken}
use Rattle.prta_response.proofs.coming.Coming.take.Goals as goal

pub returns-clause-job : goal.returns-clause-job
returns-clause-job c =
    let T : List Task = c.tasks-tasks.result.now in
    let same : T ≡ c.args.sheet.now.tasks = c.tasks-tasks.ensures.tasks in
    let before : ComingState = record { higher = c.self.inside.higher; own = c.self.inside.own; end = c.self.inside.end; at = c.self.inside.at; waiting = c.self.inside.waiting } in
    let stands : before ≡ c.args.self.now = c.self.view_is in
    let waiting = c.without-self-inside.result in
    let read : c.index-tasks-task.result ≡ task_at c.args.sheet.now.tasks c.args.task =
    c.index-tasks-task.is ∙ get_or_default T c.args.task _ _ (omega (arith, c.requires.first.inside, ap length same)) ∙ ap (λ ts. task_at ts c.args.task) same in
    subst (λ (b : ComingState). IsNextJob c.args.sheet.now.tasks b (record before { waiting = waiting }) c.job_at.result) stands
    (taken c.args.sheet.now.tasks before waiting c.args.task c.index-tasks-task.result c.job_at.result
    (subst (IsComing c.args.sheet.now.tasks) (sym stands) c.requires.coming)
    (subst (λ (b : ComingState). IsFirst b.waiting (length c.args.sheet.now.tasks) c.args.task) (sym stands) c.requires.first)
    c.without-self-inside.ensures.members read c.job_at.ensures)
