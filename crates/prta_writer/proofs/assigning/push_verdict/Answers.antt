use Rattle.std.proofs.Common.{length, subst, arith}
use Rattle.prta_jobs.proofs.OrderLists.{each_once}
use Rattle.prta_audsley.specs.Verdict.{Says, IsGoodOrder}
use Rattle.prta_writer.proofs.assigning.push_verdict.Goals as goal

pub order_line-requires-clause-order : goal.order_line-requires-clause-order
order_line-requires-clause-order c =
    let good : IsGoodOrder c.args.sheet.now c.in-Order.order = subst (Says c.args.sheet.now) c.in-Order.is c.requires.says in
    omega (arith, (each_once (length c.args.sheet.now.tasks) c.in-Order.order good.permutation).whole)
