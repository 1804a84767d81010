use Rattle.std.proofs.Common.{◌<◌, length, ap, arith}
use Rattle.std.proofs.lemmas.List.Sorted.{IsPermutation-swap}
use Rattle.prta_jobs.proofs.OrderLists.{each_once, order_from, permuted}
use Rattle.prta_jobs.proofs.order.Order.swap.Goals as goal

pub invariant_of-self : goal.invariant_of-self
invariant_of-self c =
    let i : c.args.i < length c.self.inside.tasks.items = omega (arith, ap length c.self.view_is) in
    let j : c.args.j < length c.self.inside.tasks.items = omega (arith, ap length c.self.view_is) in
    order_from (length c.self.inside.tasks.items) c.swap.new.self.items c.self.invariant.few
    (permuted (length c.self.inside.tasks.items) c.self.inside.tasks.items c.swap.new.self.items
    (IsPermutation-swap c.self.inside.tasks.items c.swap.new.self.items c.args.i c.args.j i j c.swap.ensures.items)
    (each_once (length c.self.inside.tasks.items) c.self.inside.tasks.items c.self.invariant.permutation))
