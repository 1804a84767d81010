use Rattle.std.proofs.Common.{◌≡◌, ℕ, true, ◌++◌, ◌∷◌, [], List, arith, sym, ap, subst, ◌∙◌}
use Rattle.std.specs.List.{range_with_len}
use Rattle.prta_jobs.specs.Permutation.{is_order, IsOrder}
use Rattle.prta_jobs.proofs.OrderLists.{range_more, own_order, is_order_from, order_from}
use Rattle.prta_jobs.proofs.order.Order.of_numbers.Goals as goal

pub loop-task-preserved : goal.loop-task-preserved
loop-task-preserved c = c.in_ok-push.ensures.items ∙ ap (λ (list : List ℕ). list ++ c.loop-task.task ∷ []) c.loop-task.invariant ∙ sym (range_more c.loop-task.task)

pub invariant_of-result : goal.invariant_of-result
invariant_of-result c =
    let last : c.loop-task.task ≡ c.args.count = omega arith in
    subst IsOrder (sym (c.loop-task.invariant ∙ ap (range_with_len 0) last)) (order_from c.args.count (range_with_len 0 c.args.count) c.requires (own_order c.args.count))

pub returns-clause-permutation : goal.returns-clause-permutation
returns-clause-permutation c =
    let last : c.loop-task.task ≡ c.args.count = omega arith in
    let IsOf : List ℕ → Type 0 = λ list. is_order c.args.count list ≡ true in
    subst IsOf (sym (c.loop-task.invariant ∙ ap (range_with_len 0) last)) (is_order_from c.args.count (range_with_len 0 c.args.count) (own_order c.args.count))
