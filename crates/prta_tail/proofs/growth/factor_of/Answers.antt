-- The growth goes from time to time, and the sum from pair to pair.
use Rattle.std.proofs.Common.{◌≡◌, ℕ, ◌+◌, ◌*◌, ◌^◌, ◌<◌, ◌≤◌, true, length, get_or, take, sum_by, refl, ap, ap₂, sym, ◌∙◌, subst, arith}
use Rattle.std.specs.Int.{div_ceil}
use Rattle.std.proofs.lemmas.List.{take_all}
use Rattle.prta_mass.specs.Table.{Table, IsTable}
use Rattle.prta_tail.specs.Walk.{grown, factor, grows_low}
use Rattle.prta_tail.proofs.Growing.{next_growth, summed_more, factor_low}
use Rattle.prta_tail.proofs.growth.factor_of.Goals as goal

pub loop-i-preserved : goal.loop-i-preserved
loop-i-preserved c =
    let table : Table = c.points-points.result.now in
    let i : ℕ = c.loop-i.i in
    let low : grows_low c.args.ratio table ≡ true = subst (λ (t : Table). grows_low c.args.ratio t ≡ true) (sym c.points-points.ensures.pairs) c.requires.low in
    let is_table : IsTable table = subst IsTable (sym c.points-points.ensures.pairs) c.points-points.ensures.table in
    let near : i < length table = c.loop-i-test.true in
    let at : ℕ = (get_or table i (0, 0)).0 in
    let grows : c.grow-growth.result ≡ grown c.args.ratio at =
    next_growth c.args.ratio table i c.loop-i.time c.loop-i.growth c.loop-i.sum c.loop-i.invariant low near at c.grow-growth.result refl c.grow-growth.ensures in
    summed_more c.args.ratio table is_table i c.loop-i.time c.loop-i.growth c.loop-i.sum c.loop-i.invariant low near at (get_or table i (0, 0)).1 c.grow-growth.result
    (c.loop-i.sum + (get_or table i (0, 0)).1 * c.grow-growth.result) refl refl grows refl

is_factor : (c : goal.After-div_ceil) → c.div_ceil.result ≡ factor c.args.ratio c.args.table.now
is_factor c =
    let table : Table = c.points-points.result.now in
    let all : take c.loop-i.i table ≡ table = take_all c.loop-i.i table (omega (arith, c.loop-i-test.false)) in
    let terms : ℕ × ℕ → ℕ = λ pair. pair.1 * grown c.args.ratio pair.0 in
    let sum : c.loop-i.sum ≡ sum_by terms c.args.table.now = c.loop-i.invariant.sum_is ∙ ap (sum_by terms) (all ∙ c.points-points.ensures.pairs) in
    c.div_ceil.ensures ∙ ap₂ div_ceil sum c.total.ensures.total

limit : (c : goal.After-div_ceil) → c.div_ceil.result ≤ 2 ^ 60
limit c = subst (λ x. x ≤ 2 ^ 60) (sym (is_factor c)) (factor_low c.args.ratio c.args.table.now c.points-points.ensures.table.weighs c.requires.low)

pub overflow_cast-result : goal.overflow_cast-result
overflow_cast-result c = omega (arith, limit c)

pub returns-clause-factor : goal.returns-clause-factor
returns-clause-factor c = is_factor c

pub returns-clause-low : goal.returns-clause-low
returns-clause-low c = limit c
