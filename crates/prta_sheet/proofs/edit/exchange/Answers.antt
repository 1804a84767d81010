use Rattle.std.proofs.Common.{◌≡◌, ◌<◌, ℕ, [], List, length, get_or, ap, subst, ◌∙◌}
use Rattle.std.proofs.lemmas.List.{get_or_default}
use Rattle.prta_mass.specs.Table.{Table}
use Rattle.prta_sheet.specs.declared.edit.Edit.{Edit}
use Rattle.prta_sheet.specs.declared.edit.Edit.TheVariants as edit
use Rattle.prta_sheet.specs.Sheet.{Task}
use Rattle.prta_sheet.specs.Edits.{task_of, edited_task}
use Rattle.prta_sheet.proofs.Edited.{put_back, taken_back}
use Rattle.prta_sheet.proofs.edit.exchange.Goals as goal

-- the task that an edit names is there
there : (tasks : List Task) (e f : Edit) → e ≡ f → task_of e < length tasks → task_of f < length tasks
there tasks e f same low = subst (λ (e : Edit). task_of e < length tasks) same low

pub returns-in-Table-clause-back : goal.returns-in-Table-clause-back
returns-in-Table-clause-back c =
    let tasks : List Task = c.args.tasks.now in
    let i : ℕ = c.in-Table.task in
    let task : Task = get_or tasks i c.index-tasks-task.result in
    let low : i < length tasks = there tasks _ _ c.in-Table.is c.requires.task in
    let back : Edit = edit.Table i c.in-Table.index c.put_table-table.result in
    taken_back back tasks c.put_table-table.new.self low
    (ap (edited_task back) c.put_table-table.ensures.after
    ∙ ap (λ (cycle : List Table). record task { cycle = cycle }) (put_back task.cycle c.in-Table.index c.in-Table.table c.put_table-table.result [] c.put_table-table.ensures.before)
    ∙ get_or_default tasks i _ _ low)

pub returns-in-Deadline-clause-back : goal.returns-in-Deadline-clause-back
returns-in-Deadline-clause-back c =
    let tasks : List Task = c.args.tasks.now in
    let i : ℕ = c.in-Deadline.task in
    let task : Task = get_or tasks i c.index-tasks-task-in-Deadline.result in
    let low : i < length tasks = there tasks _ _ c.in-Deadline.is c.requires.task in
    let back : Edit = edit.Deadline i c.put_deadline-value.result in
    taken_back back tasks c.put_deadline-value.new.self low
    (ap (edited_task back) c.put_deadline-value.ensures.after
    ∙ ap (λ (value : ℕ). record task { deadline = value }) c.put_deadline-value.ensures.before
    ∙ get_or_default tasks i _ _ low)

pub returns-in-Allow-clause-back : goal.returns-in-Allow-clause-back
returns-in-Allow-clause-back c =
    let tasks : List Task = c.args.tasks.now in
    let i : ℕ = c.in-Allow.task in
    let task : Task = get_or tasks i c.index-tasks-task-in-Allow.result in
    let low : i < length tasks = there tasks _ _ c.in-Allow.is c.requires.task in
    let back : Edit = edit.Allow i c.put_allow-p.result.0 c.put_allow-p.result.1 in
    taken_back back tasks c.put_allow-p.new.self low
    (ap (edited_task back) c.put_allow-p.ensures.after
    ∙ ap (λ (allow : ℕ × ℕ). record task { allow = (allow.0, allow.1) }) c.put_allow-p.ensures.before
    ∙ get_or_default tasks i _ _ low)
