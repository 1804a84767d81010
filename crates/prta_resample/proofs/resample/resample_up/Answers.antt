use Rattle.std.proofs.Common.{◌∙◌, sym, refl, arith}
use Rattle.prta_resample.proofs.Moving.{next_past}
use Rattle.prta_resample.proofs.Upward.{up_first, up_below, up_stays, up_moves, up_last}
use Rattle.prta_resample.proofs.resample.resample_up.Goals as goal
use Rattle.prta_resample.proofs.resample.resample_up.Goals.{then-past-eq0, else-past-eq0}

pub loop-k-init : goal.loop-k-init
loop-k-init c = record {
  past = refl;
  so_far = up_first c.args.support c.args.cells.now c.smaller-first.result c.smaller-first.ensures c.requires.some;
}

pub overflow_sub-cells : goal.overflow_sub-cells
overflow_sub-cells c =
    up_below c.args.support c.args.cells.now c.loop-k.cells c.loop-k.k c.loop-k.held c.loop-k.moved (omega arith) c.loop-k.invariant.so_far c.requires.rising (omega arith)

pub loop-k-preserved : goal.loop-k-preserved
loop-k-preserved c =
    let from = c.loop-k.auto.k in
    let so_far = c.loop-k.invariant.so_far in
    record {
      past = c.one_further-past.ensures ∙ next_past c.loop-k.k c.args.support.step c.loop-k.past c.loop-k.invariant.past;
      so_far = elim c.if-past-eq0.branch [
        | then-past-eq0 w ↦
            let a = up_stays c.args.support c.args.cells.now c.loop-k.cells c.loop-k.k c.loop-k.held c.loop-k.moved (omega arith) so_far (omega arith) (sym c.loop-k.invariant.past ∙ w.if-past-eq0.true) in
            rw (w.cells-is, w.held-is, w.moved-is) a
        | else-past-eq0 w ↦
            let a = up_moves c.args.support c.args.cells.now c.loop-k.cells c.loop-k.k c.loop-k.held c.loop-k.moved (omega arith) so_far c.requires.rising (omega arith) (omega arith)
            (omega (arith, c.smaller-first.ensures)) (λ e. w.if-past-eq0.false (c.loop-k.invariant.past ∙ e)) w.larger-moved.result w.larger-moved.ensures in
            rw (w.cells-is, w.held-is, w.moved-is) a
      ];
    }

pub returns-clause-cells : goal.returns-clause-cells
returns-clause-cells c = (up_last c.args.support c.args.cells.now c.loop-k.cells c.loop-k.k c.loop-k.held c.loop-k.moved (omega arith) c.loop-k.invariant.so_far (omega arith)).0

pub returns-clause-moved : goal.returns-clause-moved
returns-clause-moved c = (up_last c.args.support c.args.cells.now c.loop-k.cells c.loop-k.k c.loop-k.held c.loop-k.moved (omega arith) c.loop-k.invariant.so_far (omega arith)).1
