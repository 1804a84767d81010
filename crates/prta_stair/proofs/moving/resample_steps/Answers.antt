use Rattle.std.proofs.Common.{length, take, subst, ◌∙◌}
use Rattle.prta_mass.specs.declared.direction.Dir.{Dir}
use Rattle.prta_mass.specs.declared.direction.Dir.TheVariants.{Up, Down}
use Rattle.prta_resample.specs.Resample.{read_place}
use Rattle.prta_stair.specs.Steps.{value_at}
use Rattle.prta_stair.specs.Moving.{Makes}
use Rattle.prta_stair.proofs.Moves.{makes_resampled}
use Rattle.prta_stair.proofs.Comparisons.{under_up, over_down, moved_up, moved_down}
use Rattle.prta_stair.proofs.moving.resample_steps.Goals as goal

pub largest_excess-moved-requires-clause-over : goal.largest_excess-moved-requires-clause-over
largest_excess-moved-requires-clause-over c =
    let cap = length c.args.to.now in
    let old = c.args.steps.now in
    let new = take c.move_steps-count.result c.move_steps-count.new.to in
    let makes : Makes cap (λ k. value_at old (read_place Up c.args.support cap k)) new = subst (λ (d : Dir). Makes cap (λ k. value_at old (read_place d c.args.support cap k)) new) c.in-Up.is c.move_steps-count.ensures.made in
    under_up cap old new c.args.support c.requires.steps c.requires.some makes

pub largest_excess-moved-requires-in-Down-clause-over : goal.largest_excess-moved-requires-in-Down-clause-over
largest_excess-moved-requires-in-Down-clause-over c =
    let cap = length c.args.to.now in
    let old = c.args.steps.now in
    let new = take c.move_steps-count.result c.move_steps-count.new.to in
    let makes : Makes cap (λ k. value_at old (read_place Down c.args.support cap k)) new = subst (λ (d : Dir). Makes cap (λ k. value_at old (read_place d c.args.support cap k)) new) c.in-Down.is c.move_steps-count.ensures.made in
    over_down cap old new c.args.support c.requires.steps c.requires.some makes

pub returns-in-Up-clause-cells : goal.returns-in-Up-clause-cells
returns-in-Up-clause-cells c = makes_resampled (length c.args.to.now) c.args.dir c.args.support c.args.steps.now (take c.move_steps-count.result c.move_steps-count.new.to) c.requires.some c.requires.steps c.move_steps-count.ensures.made

pub returns-in-Up-clause-moved : goal.returns-in-Up-clause-moved
returns-in-Up-clause-moved c =
    let cap = length c.args.to.now in
    let old = c.args.steps.now in
    let new = take c.move_steps-count.result c.move_steps-count.new.to in
    let makes : Makes cap (λ k. value_at old (read_place Up c.args.support cap k)) new = subst (λ (d : Dir). Makes cap (λ k. value_at old (read_place d c.args.support cap k)) new) c.in-Up.is c.move_steps-count.ensures.made in
    c.largest_excess-moved.ensures cap c.requires.steps.below ∙ moved_up cap old new c.args.support c.requires.steps makes

pub returns-in-Down-clause-cells : goal.returns-in-Down-clause-cells
returns-in-Down-clause-cells c = makes_resampled (length c.args.to.now) c.args.dir c.args.support c.args.steps.now (take c.move_steps-count.result c.move_steps-count.new.to) c.requires.some c.requires.steps c.move_steps-count.ensures.made

pub returns-in-Down-clause-moved : goal.returns-in-Down-clause-moved
returns-in-Down-clause-moved c =
    let cap = length c.args.to.now in
    let old = c.args.steps.now in
    let new = take c.move_steps-count.result c.move_steps-count.new.to in
    let makes : Makes cap (λ k. value_at old (read_place Down c.args.support cap k)) new = subst (λ (d : Dir). Makes cap (λ k. value_at old (read_place d c.args.support cap k)) new) c.in-Down.is c.move_steps-count.ensures.made in
    c.largest_excess-moved-in-Down.ensures cap makes.steps.below ∙ moved_down cap old new c.args.support c.requires.steps makes
