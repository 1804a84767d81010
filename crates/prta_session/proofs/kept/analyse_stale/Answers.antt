use Rattle.std.proofs.Common.{◌≡◌, ◌+◌, ◌∷◌, ◌++◌, [], ℕ, List, Bool, true, false, Option, length, ap, sym, ◌∙◌, arith}
use Rattle.std.proofs.lemmas.Bool.{not-true, not-false}
use Rattle.std.proofs.lemmas.List.{length-append}
use Rattle.prta_session.specs.Kept.{is_marked, unmarked}
use Rattle.prta_session.specs.Workers.{lengthened, lengthened-append}
use Rattle.prta_session.proofs.Marks.{unmarked_with, unmarked_without, unmarked_low, marked_so_far, marked_with, marked_later, kept_with}
use Rattle.prta_session.proofs.kept.analyse_stale.Goals as goal
use Rattle.prta_session.proofs.kept.analyse_stale.Goals.{then-is_stale, else-is_stale}

pub analyse_one-requires-clause-room : goal.analyse_one-requires-clause-room
analyse_one-requires-clause-room g c =
    let first : List Bool = c.args.fresh.now in
    let n : ℕ = c.loop-task.task in
    let stale : is_marked first n ≡ false = sym (c.loop-task.invariant.left n (omega arith)) ∙ not-true _ (sym c.is_stale.ensures ∙ c.if-is_stale.true) in
    let more : length (unmarked first (n + 1)) ≡ length (unmarked first n) + 1 = ap length (unmarked_with first n stale) ∙ length-append (unmarked first n) (n ∷ []) in
    omega (arith, more, unmarked_low first (n + 1) (length first) (omega (arith, c.loop-task-test.true)), c.requires.room, c.loop-task.invariant.room)

pub loop-task-preserved : goal.loop-task-preserved
loop-task-preserved g c =
    let first : List Bool = c.args.fresh.now in
    let n : ℕ = c.loop-task.task in
    let told : Option (List ℕ) = g.W.Worker.analysed c.args.worker.now in
    let kept = c.loop-task.invariant.kept in
    let here : is_marked first n ≡ is_marked c.loop-task.fresh n = sym (c.loop-task.invariant.left n (omega arith)) in
    elim c.if-is_stale.branch [
      | then-is_stale w ↦
          let more : unmarked first (n + 1) ≡ unmarked first n ++ n ∷ [] = unmarked_with first n (here ∙ not-true _ (sym c.is_stale.ensures ∙ w.if-is_stale.true)) in
          record {
            kept = rw (w.fresh-is, w.found-is) (kept_with c.args.sheet.now c.loop-task.fresh c.loop-task.found n w.analyse_one.new.found kept (omega (arith, kept.marks, kept.count, c.loop-task-test.true, c.loop-task.auto.fresh)) w.analyse_one.ensures.numbers);
            marked = λ i within. rw w.fresh-is (marked_so_far c.loop-task.fresh n (omega (arith, c.loop-task-test.true, c.loop-task.auto.fresh)) c.loop-task.invariant.marked i within);
            left = λ i later. rw w.fresh-is (marked_later c.loop-task.fresh n i later ∙ c.loop-task.invariant.left i (omega arith));
            told =
                ap g.W.Worker.analysed w.worker-is
                ∙ w.analyse_one.ensures.told
                ∙ ap (λ told. lengthened told (n ∷ [])) c.loop-task.invariant.told
                ∙ lengthened-append told (unmarked first n) (n ∷ [])
                ∙ sym (ap (lengthened told) more);
            cap = ap g.W.Worker.cap w.worker-is ∙ w.analyse_one.ensures.cap ∙ c.loop-task.invariant.cap;
            room = rw (w.worker-is, more) (omega (arith, length-append (unmarked first n) (n ∷ []), w.analyse_one.ensures.room, c.loop-task.invariant.room));
          }
      | else-is_stale w ↦
          let mark : is_marked c.loop-task.fresh n ≡ true = not-false _ (sym c.is_stale.ensures ∙ w.if-is_stale.false) in
          let same : unmarked first (n + 1) ≡ unmarked first n = unmarked_without first n (here ∙ mark) in
          record {
            kept = rw (w.fresh-is, w.found-is) kept;
            marked = λ i within. ap (λ fresh. is_marked fresh i) w.fresh-is ∙ marked_with c.loop-task.fresh n mark c.loop-task.invariant.marked i within;
            left = λ i later. ap (λ fresh. is_marked fresh i) w.fresh-is ∙ c.loop-task.invariant.left i (omega arith);
            told = ap g.W.Worker.analysed w.worker-is ∙ c.loop-task.invariant.told ∙ sym (ap (lengthened told) same);
            cap = ap g.W.Worker.cap w.worker-is ∙ c.loop-task.invariant.cap;
            room = rw (w.worker-is, same) c.loop-task.invariant.room;
          }
    ]
