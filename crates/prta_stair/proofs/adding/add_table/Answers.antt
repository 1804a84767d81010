use Rattle.std.proofs.Common.{◌≡◌, ℕ, ◌<◌, ◌+◌, ◌-◌, ◌*◌, ◌∙◌, ap, arith, List, length, take}
use Rattle.std.proofs.lemmas.List.{length-take-le}
use Rattle.prta_mass.specs.Unit.{unit}
use Rattle.prta_mass.specs.Table.{Table}
use Rattle.prta_mass.specs.Direction.{divided}
use Rattle.prta_stair.specs.Adding.{sum_at, sum_of_first, marked, some_rest}
use Rattle.prta_stair.proofs.Additions.{marks_are, marks_low, cells_are, rounded_is}
use Rattle.prta_stair.proofs.Sweeps.{rests_agree}
use Rattle.prta_stair.proofs.adding.add_table.Goals as goal

pub sweep-requires-clause-low : goal.sweep-requires-clause-low
sweep-requires-clause-low c =
    let table = c.args.table.now in
    let steps = c.args.steps.now in
    let first = c.window-first.result.0 in
    let marks : List ℕ = c.mark_all.new.marks in
    let sums : (j : ℕ) → j < length marks → sum_of_first (j + 1) marks ≡ sum_at table steps (first + j) =
    λ j h. c.mark_all.ensures.sums j (omega (arith, h, c.mark_all.auto.marks)) ∙ ap (λ (t : Table). sum_at t steps (first + j)) c.points.ensures.pairs in
    omega (arith, marks_low (length c.args.to.now) table steps marks first c.requires.steps sums, ap (λ w. w * unit) c.divisor.ensures.total)

pub returns-clause-cells : goal.returns-clause-cells
returns-clause-cells c =
    let table = c.args.table.now in
    let steps = c.args.steps.now in
    let cap = length c.args.to.now in
    let first = c.window-first.result.0 in
    let end = c.window-first.result.1 in
    let marks : List ℕ = c.mark_all.new.marks in
    let size : length marks ≡ end - first = c.mark_all.auto.marks ∙ length-take-le (end - first) c.args.marks.now (omega (arith, c.window-first.ensures.inside, c.requires.marks)) in
    let sums : (j : ℕ) → j < length marks → sum_of_first (j + 1) marks ≡ sum_at table steps (first + j) =
    λ j h. c.mark_all.ensures.sums j (omega (arith, h, c.mark_all.auto.marks)) ∙ ap (λ (t : Table). sum_at t steps (first + j)) c.points.ensures.pairs in
    let same : (k : ℕ) → k < cap → marked marks first k ≡ sum_at table steps k =
    λ k h. marks_are table steps marks first end cap k size c.window-first.ensures.ordered c.window-first.ensures.some c.window-first.ensures.early c.window-first.ensures.late sums h in
    cells_are cap steps table c.requires.some c.requires.steps c.args.dir (take c.sweep.result.0 c.sweep.new.to)
    (λ k h. c.sweep.ensures.made.values k h ∙ ap (λ s. divided c.args.dir s c.divisor.result.total) (same k h) ∙ ap (divided c.args.dir (sum_at table steps k)) c.divisor.ensures.total)

pub returns-clause-rounded : goal.returns-clause-rounded
returns-clause-rounded c =
    let table = c.args.table.now in
    let steps = c.args.steps.now in
    let cap = length c.args.to.now in
    let first = c.window-first.result.0 in
    let end = c.window-first.result.1 in
    let marks : List ℕ = c.mark_all.new.marks in
    let size : length marks ≡ end - first = c.mark_all.auto.marks ∙ length-take-le (end - first) c.args.marks.now (omega (arith, c.window-first.ensures.inside, c.requires.marks)) in
    let sums : (j : ℕ) → j < length marks → sum_of_first (j + 1) marks ≡ sum_at table steps (first + j) =
    λ j h. c.mark_all.ensures.sums j (omega (arith, h, c.mark_all.auto.marks)) ∙ ap (λ (t : Table). sum_at t steps (first + j)) c.points.ensures.pairs in
    let same : (k : ℕ) → k < cap → marked marks first k ≡ sum_at table steps k =
    λ k h. marks_are table steps marks first end cap k size c.window-first.ensures.ordered c.window-first.ensures.some c.window-first.ensures.early c.window-first.ensures.late sums h in
    c.sweep.ensures.rounded
    ∙ rests_agree c.divisor.result.total cap (marked marks first) (sum_at table steps) same
    ∙ ap (λ w. some_rest w (sum_at table steps) cap) c.divisor.ensures.total
    ∙ rounded_is cap steps table c.requires.some c.requires.steps
