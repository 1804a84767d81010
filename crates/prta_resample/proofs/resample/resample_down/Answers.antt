use Rattle.std.proofs.Common.{◌∙◌, sym, refl, arith}
use Rattle.prta_resample.proofs.Moving.{before_past}
use Rattle.prta_resample.proofs.Downward.{down_first, down_above, down_stays, down_moves, down_last}
use Rattle.prta_resample.proofs.resample.resample_down.Goals as goal
use Rattle.prta_resample.proofs.resample.resample_down.Goals.{then-past-eq0, else-past-eq0}

pub loop-k-init : goal.loop-k-init
loop-k-init c = record {
  low = omega arith;
  past = refl;
  so_far = down_first c.args.support c.args.cells.now c.saturating_sub-k.result (omega arith) c.requires.some;
}

pub overflow_sub-held : goal.overflow_sub-held
overflow_sub-held c =
    let low = c.loop-k.invariant.low in
    down_above c.args.support c.args.cells.now c.loop-k.cells c.loop-k.k c.loop-k.held c.loop-k.moved (omega arith) c.loop-k.invariant.so_far c.requires.rising (omega arith) (omega arith)

pub loop-k-preserved : goal.loop-k-preserved
loop-k-preserved c =
    let low = c.loop-k.invariant.low in
    let so_far = c.loop-k.invariant.so_far in
    record {
      low = omega arith;
      past = c.one_back-past.ensures ∙ before_past c.loop-k.k c.args.support.step c.loop-k.past (omega arith) c.requires.step c.loop-k.invariant.past;
      so_far = elim c.if-past-eq0.branch [
        | then-past-eq0 w ↦
            let a = down_stays c.args.support c.args.cells.now c.loop-k.cells c.loop-k.k c.loop-k.held c.loop-k.moved (omega arith) so_far (omega arith) (omega arith) (sym c.loop-k.invariant.past ∙ w.if-past-eq0.true) in
            rw (w.cells-is, w.held-is, w.moved-is) a
        | else-past-eq0 w ↦
            let a = down_moves c.args.support c.args.cells.now c.loop-k.cells c.loop-k.k c.loop-k.held c.loop-k.moved (omega arith) so_far c.requires.rising (omega arith) (omega arith)
            (omega (arith, c.smaller-first.ensures)) (λ e. w.if-past-eq0.false (c.loop-k.invariant.past ∙ e)) w.larger-moved.result w.larger-moved.ensures in
            rw (w.cells-is, w.held-is, w.moved-is) a
      ];
    }

pub returns-clause-cells : goal.returns-clause-cells
returns-clause-cells c =
    (down_last c.args.support c.args.cells.now c.loop-k.cells c.loop-k.k c.loop-k.held c.loop-k.moved (omega arith) c.loop-k.invariant.so_far (omega (arith, c.smaller-first.ensures))).0

pub returns-clause-moved : goal.returns-clause-moved
returns-clause-moved c =
    (down_last c.args.support c.args.cells.now c.loop-k.cells c.loop-k.k c.loop-k.held c.loop-k.moved (omega arith) c.loop-k.invariant.so_far (omega (arith, c.smaller-first.ensures))).1
