use Rattle.std.proofs.Common.{◌≡◌, ◌+◌, ◌*◌, ◌<◌, ◌≤◌, List, length, get_or, ap, ap₂, sym, ◌∙◌, subst, arith}
use Rattle.std.proofs.lemmas.List.{get_or_default}
use Rattle.prta_sheet.specs.Sheet.{Task, task_at, horizon}
use Rattle.prta_sheet.specs.Job.{nth_job}
use Rattle.prta_sheet.specs.Work.{between}
use Rattle.prta_sheet.specs.Counts.{releases}
use Rattle.prta_sheet.specs.Accepted.{IsTask}
use Rattle.prta_sheet.proofs.Below.{sum_below}
use Rattle.prta_sheet.proofs.WorkSums.{task_sum}
use Rattle.prta_backlog.proofs.Counts.{released_before, horizon_low}
use Rattle.prta_backlog.proofs.room.between_own.Goals as goal

pub between_one-jobs-requires-clause-end : goal.between_one-jobs-requires-clause-end
between_one-jobs-requires-clause-end c =
    let S : List Task = c.args.sheet.now.tasks in
    let own : c.index-tasks-i.result ≡ task_at S c.args.i =
    c.index-tasks-i.is ∙ ap (λ ts. get_or ts c.args.i c.index-tasks-i.result) c.tasks-tasks.ensures.tasks ∙ get_or_default S c.args.i _ _ c.requires in
    let count : c.releases-k-end.result ≡ releases (task_at S c.args.i) (horizon c.args.sheet.now) = c.releases-k-end.ensures.value ∙ ap₂ (λ (t : Task) h. releases t h) own c.horizon.ensures in
    let is : IsTask c.args.sheet.now.settings.cap (task_at S c.args.i) = c.tasks-tasks.ensures.accepted.tasks c.args.i _ c.requires in
    let before : (task_at S c.args.i).offset + c.loop-k.k * (task_at S c.args.i).period < horizon c.args.sheet.now = released_before (task_at S c.args.i) c.loop-k.k (horizon c.args.sheet.now) (omega (arith, c.loop-k-test.true, count)) in
    subst (λ ts. (task_at ts c.args.i).offset + c.loop-k.k * (task_at ts c.args.i).period + (task_at ts c.args.i).deadline ≤ 268435456) (sym c.tasks-tasks.ensures.tasks)
    (omega (arith, before, horizon_low c.args.sheet.now c.tasks-tasks.ensures.accepted, is.deadline_high, c.tasks-tasks.ensures.accepted.settings.cap_high))

pub returns-clause-value : goal.returns-clause-value
returns-clause-value c =
    let S : List Task = c.args.sheet.now.tasks in
    let own : c.index-tasks-i.result ≡ task_at S c.args.i =
    c.index-tasks-i.is ∙ ap (λ ts. get_or ts c.args.i c.index-tasks-i.result) c.tasks-tasks.ensures.tasks ∙ get_or_default S c.args.i _ _ c.requires in
    let count : c.releases-k-end.result ≡ releases (task_at S c.args.i) (horizon c.args.sheet.now) = c.releases-k-end.ensures.value ∙ ap₂ (λ (t : Task) h. releases t h) own c.horizon.ensures in
    let past : c.loop-k.k ≡ releases (task_at S c.args.i) (horizon c.args.sheet.now) = omega (arith, c.loop-k-test.false, c.loop-k.auto.k-end, count) in
    c.loop-k.invariant.0
    ∙ ap₂ (λ ts n. sum_below (λ k. length (between ts (nth_job ts c.args.i k))) n) c.tasks-tasks.ensures.tasks past
    ∙ sym (task_sum S (λ job. length (between S job)) c.args.i (horizon c.args.sheet.now) c.requires)
