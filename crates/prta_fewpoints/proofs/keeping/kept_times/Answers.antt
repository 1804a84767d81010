use Rattle.std.proofs.Common.{◌≡◌, suc, ◌-◌, ◌++◌, IsSome, drop, ap, subst, ◌∙◌, arith}
use Rattle.prta_fewpoints.specs.Recursion.{least_cost, picks}
use Rattle.prta_fewpoints.proofs.Reduction.{wide_rises}
use Rattle.prta_fewpoints.proofs.Steps.{some_least, kept_next}
use Rattle.prta_fewpoints.proofs.keeping.kept_times.Goals as goal

pub loop-left-init : goal.loop-left-init
loop-left-init c = record {
  picked = ap (λ times. times ++ picks c.args.count c.args.pairs.now) c.in_ok-times.ensures.items;
  some = some_least c.args.count c.args.pairs.now (wide_rises c.args.pairs.now c.requires.wide) c.requires.some c.requires.within;
  within = omega arith;
}

pub next_place-place-requires-clause-some : goal.next_place-place-requires-clause-some
next_place-place-requires-clause-some c =
    let next : c.loop-left.left ≡ suc (c.loop-left.left - 1) = omega (arith, c.loop-left-test.true) in
    subst (λ j. IsSome (least_cost j (drop c.loop-left.start c.args.pairs.now))) next c.loop-left.invariant.some

pub loop-left-preserved : goal.loop-left-preserved
loop-left-preserved c =
    let next : suc (c.loop-left.left - 1) ≡ c.loop-left.left = omega (arith, c.loop-left-test.true) in
    let place = c.next_place-place.ensures in
    record {
      picked = kept_next c.loop-left.times.items _ _ _ (picks (suc (c.loop-left.left - 1)) (drop c.loop-left.start c.args.pairs.now)) _ c.in_ok-push.ensures.items place.picked
          (ap (λ j. c.loop-left.times.items ++ picks j (drop c.loop-left.start c.args.pairs.now)) next ∙ c.loop-left.invariant.picked);
      some = place.more;
      within = omega (arith, place.inside);
    }
