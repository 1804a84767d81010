-- Each turn fills one more place as the greedy does.
use Rattle.std.proofs.Common.{◌≡◌, ◌-◌, ◌<◌, ℕ, nat_lt, List, length, swap, ap, ◌∙◌, arith}
use Rattle.prta_sheet.specs.Sheet.{Task}
use Rattle.prta_sheet.specs.Machine.{place}
use Rattle.prta_audsley.specs.Passing.{task_passes}
use Rattle.prta_audsley.proofs.LowestPlaces.{placing_starts, place_within, placing_more, placing_stops}
use Rattle.prta_audsley.proofs.placing.place_all.Goals as goal

-- the code's place is the lowest free one
same_place : (tasks read : List Task) (order moved : List ℕ) (i placed : ℕ) → read ≡ tasks → moved ≡ swap order i (length read - 1 - placed) → moved ≡ swap order i (length tasks - 1 - placed)
same_place tasks read order moved i placed same is = is ∙ ap (λ (all : List Task). swap order i (length all - 1 - placed)) same

pub loop-placed-init : goal.loop-placed-init
loop-placed-init g c =
    let sheet = c.args.sheet.now in
    let accepted = c.tasks-count.ensures.accepted in (
      c.requires.fits,
      placing_starts (task_passes c.args.dir sheet) (length sheet.tasks) c.below-unplaced.result c.args.order.now c.requires.order accepted.few c.below-unplaced.ensures.flags
          (λ i. c.below-unplaced.ensures.members i ∙ ap (λ (all : List Task). nat_lt i (length all)) c.tasks-count.ensures.tasks),
    )

pub move_to-requires-clause-task : goal.move_to-requires-clause-task
move_to-requires-clause-task g c =
    let sheet = c.args.sheet.now in
    let low : c.loop-placed.placed < length sheet.tasks = omega (arith, c.loop-placed-test.true, ap length c.tasks-count.ensures.tasks) in
    place_within (task_passes c.args.dir sheet) (length sheet.tasks) c.loop-placed.placed c.loop-placed.unplaced c.loop-placed.order c.loop-placed.invariant.1 low c.in-Some.task c.in-Some.ensures.first

pub returns-in-None-clause-outcome : goal.returns-in-None-clause-outcome
returns-in-None-clause-outcome g c =
    let sheet = c.args.sheet.now in
    let low : c.loop-placed.placed < length sheet.tasks = omega (arith, c.loop-placed-test.true, ap length c.tasks-count.ensures.tasks) in
    placing_stops (task_passes c.args.dir sheet) (length sheet.tasks) c.loop-placed.placed c.loop-placed.unplaced c.loop-placed.order c.loop-placed.invariant.1 low c.in-None.ensures.first

pub loop-placed-preserved : goal.loop-placed-preserved
loop-placed-preserved g c =
    let sheet = c.args.sheet.now in
    let order : List ℕ = c.loop-placed.order in
    let low : c.loop-placed.placed < length sheet.tasks = omega (arith, c.loop-placed-test.true, ap length c.tasks-count.ensures.tasks) in (
      c.first_passing.ensures.fits,
      placing_more (task_passes c.args.dir sheet) (length sheet.tasks) c.loop-placed.placed c.loop-placed.unplaced order c.loop-placed.invariant.1 low c.in-Some.task c.in-Some.ensures.first
          c.move_to.new.order
          (same_place sheet.tasks c.tasks-count.result.now order c.move_to.new.order (place order c.in-Some.task) c.loop-placed.placed c.tasks-count.ensures.tasks c.move_to.ensures)
          c.without-unplaced.result c.without-unplaced.ensures.flags c.without-unplaced.ensures.members,
    )
