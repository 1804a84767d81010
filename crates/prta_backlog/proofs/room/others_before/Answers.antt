use Rattle.std.proofs.Common.{◌≡◌, length, cond, nat_eq, ap, sym, ◌∙◌, arith}
use Rattle.prta_sheet.specs.Sheet.{task_at}
use Rattle.prta_sheet.specs.Counts.{releases}
use Rattle.prta_sheet.proofs.Below.{sum_below}
use Rattle.prta_backlog.proofs.Counts.{others_is}
use Rattle.prta_backlog.proofs.room.others_before.Goals as goal

pub returns-clause-value : goal.returns-clause-value
returns-clause-value c =
    let all : c.loop-m.m ≡ length c.args.tasks.now = omega arith in
    c.loop-m.invariant.0
    ∙ ap (sum_below (λ m. cond (nat_eq m c.args.i) 0 (releases (task_at c.args.tasks.now m) c.args.time))) all
    ∙ sym (others_is c.args.tasks.now c.args.i c.args.time)
