use Rattle.std.proofs.Common.{◌≤◌, ◌<◌, ◌+◌, length, take, slice_set, arith, sym, ◌∙◌}
use Rattle.prta_mass.specs.Chances.{before}
use Rattle.prta_stair.specs.Steps.{value_at}
use Rattle.prta_stair.specs.Setting.{IsPut}
use Rattle.prta_stair.proofs.Settings.{kept_steps, kept_room, raised_same, raised_put, raised_more}
use Rattle.prta_stair.proofs.setting.raise_steps.Goals as goal

pub returns-then-value-height-clause-steps : goal.returns-then-value-height-clause-steps
returns-then-value-height-clause-steps c =
    kept_steps (length c.args.steps.now) c.args.place c.args.height c.seek-kept.result c.args.count c.args.steps.now c.requires.place c.requires.count c.requires.steps c.seek-kept.ensures.reached c.seek-kept.ensures.next

pub returns-then-value-height-clause-cells : goal.returns-then-value-height-clause-cells
returns-then-value-height-clause-cells c =
    raised_same (length c.args.steps.now) c.args.place c.args.height c.seek-kept.result c.args.count c.args.steps.now c.requires.place c.requires.count c.requires.steps c.seek-kept.ensures.reached c.seek-kept.ensures.next (sym c.value.ensures ∙ c.if-value-height.true)

pub bounds-steps-kept : goal.bounds-steps-kept
bounds-steps-kept c =
    omega (arith, kept_room (length c.args.steps.now) c.args.place c.args.height c.seek-kept.result c.args.count c.args.steps.now c.requires.place c.requires.count c.requires.steps c.seek-kept.ensures.reached c.seek-kept.ensures.next)

pub returns-clause-count : goal.returns-clause-count
returns-clause-count c =
    omega (arith, kept_room (length c.args.steps.now) c.args.place c.args.height c.seek-kept.result c.args.count c.args.steps.now c.requires.place c.requires.count c.requires.steps c.seek-kept.ensures.reached c.seek-kept.ensures.next)

pub returns-clause-steps : goal.returns-clause-steps
returns-clause-steps c =
    let kept = c.seek-kept.result in
    let few : kept ≤ c.args.place = kept_room (length c.args.steps.now) c.args.place c.args.height kept c.args.count c.args.steps.now c.requires.place c.requires.count c.requires.steps c.seek-kept.ensures.reached c.seek-kept.ensures.next in
    let up : before (value_at (take c.args.count c.args.steps.now)) c.args.place 1 < c.args.height = omega (arith, c.requires.rising, c.value.ensures, c.if-value-height.false) in
    let put : IsPut (length c.args.steps.now) c.args.place c.args.height (take kept c.args.steps.now) (take (kept + 1) (slice_set c.args.steps.now kept (c.args.place, c.args.height))) =
    raised_put (length c.args.steps.now) c.args.place c.args.height kept c.args.count c.args.steps.now c.requires.place c.requires.count c.requires.steps c.seek-kept.ensures.reached c.seek-kept.ensures.next (omega (arith, few, c.requires.place)) c.requires.low up in
    put.steps

pub returns-clause-cells : goal.returns-clause-cells
returns-clause-cells c =
    let kept = c.seek-kept.result in
    let few : kept ≤ c.args.place = kept_room (length c.args.steps.now) c.args.place c.args.height kept c.args.count c.args.steps.now c.requires.place c.requires.count c.requires.steps c.seek-kept.ensures.reached c.seek-kept.ensures.next in
    let up : before (value_at (take c.args.count c.args.steps.now)) c.args.place 1 < c.args.height = omega (arith, c.requires.rising, c.value.ensures, c.if-value-height.false) in
    let put : IsPut (length c.args.steps.now) c.args.place c.args.height (take kept c.args.steps.now) (take (kept + 1) (slice_set c.args.steps.now kept (c.args.place, c.args.height))) =
    raised_put (length c.args.steps.now) c.args.place c.args.height kept c.args.count c.args.steps.now c.requires.place c.requires.count c.requires.steps c.seek-kept.ensures.reached c.seek-kept.ensures.next (omega (arith, few, c.requires.place)) c.requires.low up in
    raised_more (length c.args.steps.now) c.args.place c.args.height kept c.args.count c.args.steps.now c.requires.place c.requires.count c.requires.steps c.seek-kept.ensures.reached c.seek-kept.ensures.next
    (take (kept + 1) (slice_set c.args.steps.now kept (c.args.place, c.args.height))) put
