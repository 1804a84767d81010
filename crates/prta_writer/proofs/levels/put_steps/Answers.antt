use Rattle.std.proofs.Common.{rules, ◌≡◌, ℕ, ◌++◌, List, length, flat_map, ap, ap₂, ◌∙◌, subst, sym, arith}
use Rattle.std.specs.List.{range_with_len}
use Rattle.prta_certfile.specs.Steps.{steps_of}
use Rattle.prta_certfile.specs.Text.{pair_text}
use Rattle.prta_writer.specs.Levels.{step_text}
use Rattle.prta_writer.specs.Writing.{TookPart, TookAllBut}
use Rattle.prta_writer.proofs.RowsInTurn.{row_more, row_in_part}
use Rattle.prta_writer.proofs.StepRows.{step_row, rows_of_steps, before_next}
use Rattle.prta_writer.proofs.levels.put_steps.Goals as goal

pub returns-in_err-put_step-clause-part : goal.returns-in_err-put_step-clause-part
returns-in_err-put_step-clause-part g c =
    let cells : List ℕ = g.C.Curve.cells c.args.list.now in
    let a = g.O.Sink.taken c.args.out.now in
    let b = g.O.Sink.taken c.loop-place.out in
    let d = g.O.Sink.taken c.put_step.new.out in
    let n = c.loop-place.place in
    let row : step_text c.loop-place.before n c.at-value.result ≡ step_row cells n = ap₂ (λ before value. step_text before n value) c.loop-place.invariant.before_is c.at-value.ensures.value in
    let here : TookPart b d (c.loop-place.page.written ++ step_row cells n) = subst (λ row. TookPart b d (c.loop-place.page.written ++ row)) row c.in_err-put_step.ensures.part in
    let part : TookPart a d (c.args.page.now.written ++ flat_map pair_text (steps_of cells)) =
    subst (λ rows. TookPart a d (c.args.page.now.written ++ rows)) (rows_of_steps cells c.cap-place-end.ensures.chances.rising)
    (row_in_part a b d c.args.page.now.written (step_row cells) n c.loop-place.page.written c.loop-place.invariant.took (length cells) (omega (arith, c.loop-place-test.true, c.cap-place-end.ensures.cap)) here) in
    search (rules, part)

pub loop-place-preserved : goal.loop-place-preserved
loop-place-preserved g c =
    let cells : List ℕ = g.C.Curve.cells c.args.list.now in
    let a = g.O.Sink.taken c.args.out.now in
    let b = g.O.Sink.taken c.loop-place.out in
    let d = g.O.Sink.taken c.put_step.new.out in
    let n = c.loop-place.place in
    let put = c.in_ok-put_step.ensures in
    let row : step_text c.loop-place.before n c.at-value.result ≡ step_row cells n = ap₂ (λ before value. step_text before n value) c.loop-place.invariant.before_is c.at-value.ensures.value in
    record {
      took = row_more a b d c.args.page.now.written (step_row cells) n c.loop-place.page.written c.loop-place.invariant.took c.put_step.new.page.written
          (subst (λ row. TookAllBut b d (c.loop-place.page.written ++ row) c.put_step.new.page.written) row put.took);
      before_is = c.at-value.ensures.value ∙ sym (before_next cells n);
      size = put.size ∙ c.loop-place.invariant.size;
      faults = omega (arith, put.never_falls, c.loop-place.invariant.faults);
    }

pub returns-clause-took : goal.returns-clause-took
returns-clause-took g c =
    let cells : List ℕ = g.C.Curve.cells c.args.list.now in
    let all : c.loop-place.place ≡ length cells = omega (arith, c.loop-place-test.false, c.loop-place.auto.place-end, c.cap-place-end.ensures.cap) in
    subst (λ rows. TookAllBut (g.O.Sink.taken c.args.out.now) (g.O.Sink.taken c.loop-place.out) (c.args.page.now.written ++ rows) c.loop-place.page.written)
    (ap (λ n. flat_map (step_row cells) (range_with_len 0 n)) all ∙ rows_of_steps cells c.cap-place-end.ensures.chances.rising) c.loop-place.invariant.took
