use Rattle.std.proofs.Common.{◌≡◌, length, ap, sym, ◌∙◌, arith}
use Rattle.prta_sheet.specs.Work.{points_of_other}
use Rattle.prta_sheet.proofs.Below.{sum_below}
use Rattle.prta_sheet.proofs.WorkSums.{between_sum}
use Rattle.prta_sheet.proofs.work.points_between.Goals as goal

pub returns-clause-value : goal.returns-clause-value
returns-clause-value c =
    let past : c.loop-m.m ≡ length c.args.tasks.now = omega arith in
    c.loop-m.invariant.0
    ∙ ap (sum_below (points_of_other c.args.tasks.now c.args.i c.args.after c.args.until)) past
    ∙ sym (between_sum c.args.tasks.now c.requires.small c.args.i c.args.after c.args.until)
