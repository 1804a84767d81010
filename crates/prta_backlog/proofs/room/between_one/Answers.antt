-- the jobs before the end but those before the start are those between
use Rattle.std.proofs.Common.{◌≡◌, ℕ, ◌+◌, ◌*◌, ◌≤◌, List, length, filter, ap, ap₂, ◌∙◌, arith}
use Rattle.std.proofs.lemmas.List.{get_or_default}
use Rattle.prta_sheet.specs.Sheet.{Task, task_at}
use Rattle.prta_sheet.specs.Job.{jobs_before, nth_job}
use Rattle.prta_sheet.specs.Work.{between}
use Rattle.prta_backlog.proofs.Counts.{is_other, count_between}
use Rattle.prta_backlog.proofs.room.between_one.Goals as goal

-- of two counts and the parts of the task
counts : (tasks : List Task) (i k : ℕ) (offset period deadline start end : ℕ) → 1 ≤ (task_at tasks i).deadline →
    offset ≡ (task_at tasks i).offset → period ≡ (task_at tasks i).period → deadline ≡ (task_at tasks i).deadline →
    start ≡ length (filter (is_other i) (jobs_before tasks (offset + k * period + 1))) → end ≡ length (filter (is_other i) (jobs_before tasks (offset + k * period + deadline))) →
    length (between tasks (nth_job tasks i k)) + start ≡ end
counts tasks i k offset period deadline start end some o p d s e =
    let first : start ≡ length (filter (is_other i) (jobs_before tasks ((nth_job tasks i k).release + 1))) = s ∙ ap₂ (λ x y. length (filter (is_other i) (jobs_before tasks (x + k * y + 1)))) o p in
    let last : end ≡ length (filter (is_other i) (jobs_before tasks ((nth_job tasks i k).release + (task_at tasks i).deadline))) =
    e ∙ ap₂ (λ x y. length (filter (is_other i) (jobs_before tasks (x + k * y + deadline)))) o p ∙ ap (λ x. length (filter (is_other i) (jobs_before tasks ((nth_job tasks i k).release + x)))) d in
    omega (arith, count_between tasks i k some, first, last)

all : (c : goal.After-others_before) → length (between c.args.tasks.now (nth_job c.args.tasks.now c.args.i c.args.k)) + c.others_before.result ≡ c.others_before-until.result
all c =
    let own : c.index-tasks-i.result ≡ task_at c.args.tasks.now c.args.i = c.index-tasks-i.is ∙ get_or_default c.args.tasks.now c.args.i _ _ c.requires.task in
    counts c.args.tasks.now c.args.i c.args.k c.offset.result c.period.result c.deadline.result c.others_before.result c.others_before-until.result c.requires.deadline
    (c.offset.ensures ∙ ap (λ (t : Task). t.offset) own) (c.period.ensures ∙ ap (λ (t : Task). t.period) own) (c.deadline.ensures ∙ ap (λ (t : Task). t.deadline) own)
    c.others_before.ensures.value c.others_before-until.ensures.value

pub overflow_sub-result : goal.overflow_sub-result
overflow_sub-result c = omega (arith, all c)

pub returns-clause-value : goal.returns-clause-value
returns-clause-value c = omega (arith, all c)
