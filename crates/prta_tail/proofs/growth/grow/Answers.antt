-- Each tick multiplies by q and divides by p; what is above the limit once stays above it.
use Rattle.std.proofs.Common.{◌≡◌, ◌+◌, ◌*◌, ◌^◌, ◌<◌, ◌≤◌, min, ap, sym, ◌∙◌, arith}
use Rattle.std.specs.Int.{div_ceil}
use Rattle.prta_tail.specs.Ratios.{IsProper}
use Rattle.prta_tail.specs.Walk.{grown_from}
use Rattle.prta_tail.proofs.Proper.{proper}
use Rattle.prta_tail.proofs.Growing.{grown_rises, grown_next}
use Rattle.prta_tail.proofs.growth.grow.Goals as goal

pub scaled-requires : goal.scaled-requires
scaled-requires c = let is : IsProper c.args.ratio = proper c.args.ratio c.requires.listed in record { over = is.some }

pub returns-then-growth-gt-GROWTH_LIMIT : goal.returns-then-growth-gt-GROWTH_LIMIT
returns-then-growth-gt-GROWTH_LIMIT c =
    let next : c.limited-growth.result ≡ min (grown_from c.args.ratio c.args.start (c.loop-n.n + 1)) (2 ^ 60 + 1) =
    c.limited-growth.ensures ∙ ap (λ x. min x (2 ^ 60 + 1)) (c.scaled.ensures ∙ ap (λ g. div_ceil (g * c.args.ratio.q) c.args.ratio.p) c.loop-n.invariant.growth_is ∙ sym (grown_next c.args.ratio c.args.start c.loop-n.n)) in
    let above : 2 ^ 60 < c.limited-growth.result = omega (arith, c.if-growth-gt-GROWTH_LIMIT.true) in
    let rises : grown_from c.args.ratio c.args.start (c.loop-n.n + 1) ≤ grown_from c.args.ratio c.args.start c.args.ticks =
    grown_rises c.args.ratio (proper c.args.ratio c.requires.listed) c.args.start (c.loop-n.n + 1) c.args.ticks (omega (arith, c.loop-n-test.true)) in
    omega (arith, next, above, rises)

pub loop-n-preserved : goal.loop-n-preserved
loop-n-preserved c =
    let next : c.limited-growth.result ≡ min (grown_from c.args.ratio c.args.start (c.loop-n.n + 1)) (2 ^ 60 + 1) =
    c.limited-growth.ensures ∙ ap (λ x. min x (2 ^ 60 + 1)) (c.scaled.ensures ∙ ap (λ g. div_ceil (g * c.args.ratio.q) c.args.ratio.p) c.loop-n.invariant.growth_is ∙ sym (grown_next c.args.ratio c.args.start c.loop-n.n)) in
    let low : c.limited-growth.result ≤ 2 ^ 60 = omega (arith, c.if-growth-gt-GROWTH_LIMIT.false) in
    record { growth_is = omega (arith, next, low); low = low; within = omega (arith, c.loop-n-test.true) }

pub returns : goal.returns
returns c =
    let all : c.loop-n.n ≡ c.args.ticks = omega (arith, c.loop-n-test.false, c.loop-n.invariant.within) in
    omega (arith, c.loop-n.invariant.growth_is, c.loop-n.invariant.low, ap (grown_from c.args.ratio c.args.start) all)
