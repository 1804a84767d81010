-- The set of the level's tasks has just them.
use Rattle.std.proofs.Common.{◌≡◌, ◌||◌, nat_eq, true, ◌<◌, length, refl, ap, arith, eq-eqb}
use Rattle.prta_jobs.specs.TaskSet.{holds}
use Rattle.prta_tail.proofs.walking.walk_passes.Goals as goal

pub with-requires : goal.with-requires
with-requires c =
    let own : nat_eq c.args.task c.args.task ≡ true = eq-eqb c.args.task c.args.task refl in
    let low : c.args.task < length c.args.sheet.now.tasks = c.requires.on_sheet c.args.task (ap (λ b. b || holds c.args.higher c.args.task) own) in
    omega (arith, c.tasks-tasks.ensures.accepted.few)
