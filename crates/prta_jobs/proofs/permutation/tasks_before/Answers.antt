use Rattle.std.proofs.Common.{ℕ, ◌≤◌, nat_eq, length, List, arith, sym, ap, ◌∙◌}
use Rattle.std.specs.List.{list_any}
use Rattle.std.proofs.lemmas.List.{take_all}
use Rattle.prta_jobs.proofs.OrderLists.{before_is_above, stands_in, each_once}
use Rattle.prta_jobs.proofs.permutation.tasks_before.Goals as goal

pub returns-then-other-task : goal.returns-then-other-task
returns-then-other-task c = λ i.
    c.loop-other.invariant.0 i ∙ before_is_above c.args.order.now c.args.task c.loop-other.other-index c.loop-other-test.true (c.if-other-task.true) c.loop-other.invariant.1 i

pub returns : goal.returns
returns c =
    let past : length c.args.order.now ≤ c.loop-other.other-index = omega arith in
    absurd (stands_in (length c.args.order.now) c.args.order.now (each_once (length c.args.order.now) c.args.order.now c.requires.order.permutation) c.args.task c.requires.task
    (ap (λ (list : List ℕ). list_any (λ other. nat_eq other c.args.task) list) (sym (take_all c.loop-other.other-index c.args.order.now past)) ∙ c.loop-other.invariant.1))
