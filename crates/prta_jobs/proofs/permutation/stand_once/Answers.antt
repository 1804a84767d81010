use Rattle.std.proofs.Common.{arith, sym}
use Rattle.std.proofs.lemmas.Bool.{ne_eqb, eq-eqb}
use Rattle.prta_jobs.specs.Permutation.{stands_once}
use Rattle.prta_jobs.proofs.OrderLists.{times_in, all_more, fails_in_range}
use Rattle.prta_jobs.proofs.permutation.stand_once.Goals as goal

pub returns-then-times_of-ne1 : goal.returns-then-times_of-ne1
returns-then-times_of-ne1 c =
    sym (fails_in_range (stands_once c.args.tasks.now) c.args.count c.loop-task.task (omega arith) (ne_eqb (times_in c.args.tasks.now c.loop-task.task) 1 (λ once. omega arith)))

pub loop-task-preserved : goal.loop-task-preserved
loop-task-preserved c =
    all_more (stands_once c.args.tasks.now) c.loop-task.task c.loop-task.invariant (eq-eqb (times_in c.args.tasks.now c.loop-task.task) 1 (omega arith))
