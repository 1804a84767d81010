use Rattle.std.proofs.Common.{◌≡◌, ◌-◌, ◌≤◌, ◌∙◌, length, arith, sym, ap, List, ℕ}
use Rattle.prta_mass.specs.Unit.{unit}
use Rattle.prta_mass.specs.Chances.{last}
use Rattle.prta_mass.specs.declared.direction.Dir.TheVariants.{Up, Down}
use Rattle.prta_dist.specs.Addition.{cells_added}
use Rattle.prta_dist.proofs.Cells.{length-cells_of}
use Rattle.prta_dist.proofs.Chances.{last_falls, keep_chances}
use Rattle.prta_dist.proofs.Cells.{last_limited}
use Rattle.prta_stair.specs.Steps.{value_at, cells_by_steps}
use Rattle.prta_stair.proofs.Lists.{last_steps, chances}
use Rattle.prta_stair.proofs.Additions.{computed_is, cut_is}
use Rattle.prta_stair.proofs.adding.add_steps.Goals as goal

pub overflow_sub-cut : goal.overflow_sub-cut
overflow_sub-cut c =
    let cap = length c.args.to.now in
    let cells : List ℕ = cells_by_steps cap c.args.steps.now in
    let le : c.add_table-count.result.0 ≤ length c.add_table-count.new.to = omega (arith, c.add_table-count.ensures.count, c.add_table-count.auto.to) in
    let before : c.last_of-before.result ≡ last cells = c.last_of-before.ensures ∙ sym (last_steps cap c.args.steps.now c.requires.some c.requires.steps) in
    let computed : c.last_of-computed.result ≡ last (cells_added c.args.dir c.args.table.now cells) =
    c.last_of-computed.ensures ∙ computed_is cap c.add_table-count.result.0 c.args.steps.now c.add_table-count.new.to c.args.table.now c.args.dir c.requires.some le c.add_table-count.ensures.steps c.add_table-count.ensures.cells in
    omega (arith, before, computed, last_falls c.args.dir c.args.table.now cells c.add_table-count.ensures.table (chances cap c.args.steps.now c.requires.steps) (omega (arith, c.requires.some, length-cells_of cap (value_at c.args.steps.now))))

pub overflow_sub-cut-in-Down : goal.overflow_sub-cut-in-Down
overflow_sub-cut-in-Down c =
    let cap = length c.args.to.now in
    let cells : List ℕ = cells_by_steps cap c.args.steps.now in
    let le : c.add_table-count.result.0 ≤ length c.add_table-count.new.to = omega (arith, c.add_table-count.ensures.count, c.add_table-count.auto.to) in
    let computed : c.last_of-computed.result ≡ last (cells_added c.args.dir c.args.table.now cells) =
    c.last_of-computed.ensures ∙ computed_is cap c.add_table-count.result.0 c.args.steps.now c.add_table-count.new.to c.args.table.now c.args.dir c.requires.some le c.add_table-count.ensures.steps c.add_table-count.ensures.cells in
    omega (arith, computed, last_limited (cells_added c.args.dir c.args.table.now cells) (keep_chances c.args.dir c.args.table.now cells c.add_table-count.ensures.table (chances cap c.args.steps.now c.requires.steps)).0)

pub returns-in-Up-clause-cut : goal.returns-in-Up-clause-cut
returns-in-Up-clause-cut c =
    let cap = length c.args.to.now in
    let cells : List ℕ = cells_by_steps cap c.args.steps.now in
    let le : c.add_table-count.result.0 ≤ length c.add_table-count.new.to = omega (arith, c.add_table-count.ensures.count, c.add_table-count.auto.to) in
    let before : c.last_of-before.result ≡ last cells = c.last_of-before.ensures ∙ sym (last_steps cap c.args.steps.now c.requires.some c.requires.steps) in
    let computed : c.last_of-computed.result ≡ last (cells_added c.args.dir c.args.table.now cells) =
    c.last_of-computed.ensures ∙ computed_is cap c.add_table-count.result.0 c.args.steps.now c.add_table-count.new.to c.args.table.now c.args.dir c.requires.some le c.add_table-count.ensures.steps c.add_table-count.ensures.cells in
    cut_is c.args.dir c.args.table.now cells Up (c.last_of-before.result - c.last_of-computed.result) c.in-Up.is (ap (λ x. x - c.last_of-computed.result) before ∙ ap (λ x. last cells - x) computed)

pub returns-in-Down-clause-cut : goal.returns-in-Down-clause-cut
returns-in-Down-clause-cut c =
    let cap = length c.args.to.now in
    let cells : List ℕ = cells_by_steps cap c.args.steps.now in
    let le : c.add_table-count.result.0 ≤ length c.add_table-count.new.to = omega (arith, c.add_table-count.ensures.count, c.add_table-count.auto.to) in
    let computed : c.last_of-computed.result ≡ last (cells_added c.args.dir c.args.table.now cells) =
    c.last_of-computed.ensures ∙ computed_is cap c.add_table-count.result.0 c.args.steps.now c.add_table-count.new.to c.args.table.now c.args.dir c.requires.some le c.add_table-count.ensures.steps c.add_table-count.ensures.cells in
    cut_is c.args.dir c.args.table.now cells Down (unit - c.last_of-computed.result) c.in-Down.is (ap (λ x. unit - x) computed)
