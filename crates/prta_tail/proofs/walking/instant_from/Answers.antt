-- the own task is of the level, and so on the sheet
use Rattle.std.proofs.Common.{◌≡◌, ◌<◌, true, ◌||◌, nat_eq, length, refl, ◌∙◌, ap, arith, eq-eqb}
use Rattle.prta_jobs.specs.TaskSet.{holds}
use Rattle.prta_tail.proofs.walking.instant_from.Goals as goal

pub with-level-requires : goal.with-level-requires
with-level-requires c =
    let own : nat_eq c.args.task c.args.task ≡ true = eq-eqb c.args.task c.args.task refl in
    let low : c.args.task < length c.args.sheet.now.tasks = c.requires.on_sheet c.args.task (ap (λ b. b || holds c.args.higher c.args.task) own) in
    omega (arith, c.tasks-tasks.ensures.accepted.few)

pub first_instant-requires-clause-some : goal.first_instant-requires-clause-some
first_instant-requires-clause-some c =
    (c.args.task, c.with-level.ensures.members c.args.task ∙ ap (λ b. b || holds c.args.higher c.args.task) (eq-eqb c.args.task c.args.task refl))

pub next_instant-requires-clause-some : goal.next_instant-requires-clause-some
next_instant-requires-clause-some c =
    (c.args.task, c.with-level.ensures.members c.args.task ∙ ap (λ b. b || holds c.args.higher c.args.task) (eq-eqb c.args.task c.args.task refl))
