-- Each place from the worst-case backlog on is raised to its cell of the base list.
use Rattle.std.proofs.Common.{◌≡◌, ℕ, ◌+◌, ◌-◌, ◌<◌, length, refl, ap, sym, ◌∙◌, subst, arith, rules}
use Rattle.prta_mass.specs.Unit.{unit}
use Rattle.prta_mass.specs.Chances.{cells_of}
use Rattle.prta_tail.specs.Ratios.{IsProper}
use Rattle.prta_tail.specs.Tail.{shrunk, base_cell}
use Rattle.prta_tail.proofs.Proper.{proper}
use Rattle.prta_tail.proofs.Loads.{IsLoaded, loaded_start, loaded_still, loaded_more, loaded_all, next_tail, still_tail, tail_low}
use Rattle.prta_tail.proofs.loading.load_tail.Goals as goal
use Rattle.prta_tail.proofs.loading.load_tail.Goals.{then-place-worst, else-place-worst}

pub loop-place-init : goal.loop-place-init
loop-place-init g c =
    let cap : ℕ = length (g.C.Curve.cells c.args.bench.now.main) in
    let e : 0 ≡ 0 - c.worst_of-worst.result = omega arith in
    record {
      others = refl;
      loaded = subst (IsLoaded c.args.ratio c.worst_of-worst.result cap 0) (sym c.raise.ensures.cells)
          (loaded_start c.args.ratio (proper c.args.ratio c.requires.listed) c.worst_of-worst.result cap (g.C.Curve.cells c.args.bench.now.main) refl);
      tail_is = ap (shrunk c.args.ratio) e;
    }

pub overflow_sub-tail : goal.overflow_sub-tail
overflow_sub-tail g c =
    let r : IsProper c.args.ratio = proper c.args.ratio c.requires.listed in
    let cap : ℕ = length (g.C.Curve.cells c.args.bench.now.main) in
    let worst : ℕ = c.worst_of-worst.result in
    let next : c.scaled-tail.result ≡ shrunk c.args.ratio (c.loop-place.place + 1 - worst) =
    c.scaled-tail.ensures ∙ next_tail c.args.ratio r worst cap c.loop-place.place c.loop-place.tail c.loop-place.invariant.tail_is (omega (arith, c.if-place-worst.true)) in
    omega (arith, next, tail_low c.args.ratio r worst cap (c.loop-place.place + 1 - worst))

pub loop-place-preserved : goal.loop-place-preserved
loop-place-preserved g c =
    let r : IsProper c.args.ratio = proper c.args.ratio c.requires.listed in
    let cap : ℕ = length (g.C.Curve.cells c.args.bench.now.main) in
    let worst : ℕ = c.worst_of-worst.result in
    let near : c.loop-place.place < cap = omega (arith, c.loop-place-test.true, c.cap-cap.ensures.cap) in
    elim c.if-place-worst.branch [
      | then-place-worst w ↦
          let next : w.scaled-tail.result ≡ shrunk c.args.ratio (c.loop-place.place + 1 - worst) =
          w.scaled-tail.ensures ∙ next_tail c.args.ratio r worst cap c.loop-place.place c.loop-place.tail c.loop-place.invariant.tail_is (omega (arith, w.if-place-worst.true)) in
          let cells : g.C.Curve.cells c.if-place-worst.bench.main ≡ g.C.Curve.cells w.raise-then-place-worst.new.self = rw w.bench-is refl in
          record {
            others = search rules;
            loaded = subst (IsLoaded c.args.ratio worst cap (c.loop-place.place + 1)) (sym (cells ∙ w.raise-then-place-worst.ensures.cells))
                (loaded_more c.args.ratio r worst cap c.loop-place.place (g.C.Curve.cells c.loop-place.bench.main) c.loop-place.invariant.loaded near (unit - w.scaled-tail.result) (ap (λ t. unit - t) next));
            tail_is = w.tail-is ∙ next;
          }
      | else-place-worst w ↦
          let cells : g.C.Curve.cells c.if-place-worst.bench.main ≡ g.C.Curve.cells c.loop-place.bench.main = rw w.bench-is refl in
          record {
            others = search rules;
            loaded = subst (IsLoaded c.args.ratio worst cap (c.loop-place.place + 1)) (sym cells)
                (loaded_still c.args.ratio r worst cap c.loop-place.place (g.C.Curve.cells c.loop-place.bench.main) c.loop-place.invariant.loaded (omega (arith, w.if-place-worst.false)));
            tail_is = w.tail-is ∙ still_tail c.args.ratio r worst cap c.loop-place.place c.loop-place.tail c.loop-place.invariant.tail_is (omega (arith, w.if-place-worst.false));
          }
    ]

pub returns-clause-main : goal.returns-clause-main
returns-clause-main g c =
    let cap : ℕ = length (g.C.Curve.cells c.args.bench.now.main) in
    let at_end : c.loop-place.place ≡ cap = omega (arith, c.loop-place-test.false, c.loop-place.auto.place-end, c.cap-cap.ensures.cap) in
    loaded_all c.args.ratio (proper c.args.ratio c.requires.listed) c.worst_of-worst.result cap (g.C.Curve.cells c.loop-place.bench.main)
    (subst (λ place. IsLoaded c.args.ratio c.worst_of-worst.result cap place (g.C.Curve.cells c.loop-place.bench.main)) at_end c.loop-place.invariant.loaded)
    ∙ ap (λ worst. cells_of cap (base_cell c.args.ratio worst)) c.worst_of-worst.ensures
