use Rattle.std.proofs.Common.{◌+◌, ◌<◌, length, ap, ap₂, sym, ◌∙◌, arith}
use Rattle.prta_sheet.specs.Sheet.{cycle_ticks, least_common_multiple}
use Rattle.prta_sheet.proofs.Multiples.{hyperperiod_of_fewer, hyperperiod_more}
use Rattle.prta_sheet.proofs.making.hyperperiod_within.Goals as goal

pub returns-in-None-clause-above : goal.returns-in-None-clause-above
returns-in-None-clause-above c =
    λ none.
    let tasks = c.args.tasks.now in
    let i = c.loop-task.task-index in
    let low : i < length tasks = omega arith in
    let above = c.joint_multiple.ensures.above c.in-None.is in
    let fewer = hyperperiod_of_fewer tasks (i + 1) c.requires.some in
    let ticks = c.cycle_ticks.ensures ∙ ap cycle_ticks c.task-item.is in
    let same = ap₂ least_common_multiple c.loop-task.invariant.0 ticks ∙ sym (hyperperiod_more tasks i c.task-item.result low) in
    omega (arith, above, same, fewer)
