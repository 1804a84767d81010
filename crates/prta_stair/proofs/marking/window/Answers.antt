use Rattle.std.proofs.Common.{◌≡◌, ◌<◌, ◌≤◌, ◌∙◌, sym, length, arith, ⊎_elim}
use Rattle.std.proofs.lemmas.Bool.{cases_lt, eqb-true, eqb-false}
use Rattle.prta_stair.proofs.Marks.{sum_early, sum_late, first_place}
use Rattle.prta_stair.proofs.marking.window.Goals as goal

pub returns-then-is_empty-clause-early : goal.returns-then-is_empty-clause-early
returns-then-is_empty-clause-early c k l =
    let none : length c.args.steps.now ≡ 0 = eqb-true (length c.args.steps.now) 0 (sym c.is_empty.ensures ∙ c.if-is_empty.true) in
    sum_early c.args.table.now c.args.steps.now k c.requires.steps.rising (λ some. absurd (omega (arith, none, some)))

pub returns-then-past-cap-clause-low : goal.returns-then-past-cap-clause-low
returns-then-past-cap-clause-low c i l = first_place c.args.steps.now i c.requires.steps.rising l

pub returns-then-past-cap-clause-early : goal.returns-then-past-cap-clause-early
returns-then-past-cap-clause-early c k l = sum_early c.args.table.now c.args.steps.now k c.requires.steps.rising (λ some. l)

pub returns-then-past-cap-clause-late : goal.returns-then-past-cap-clause-late
returns-then-past-cap-clause-late c k from below =
    let steps = c.args.steps.now in
    let table = c.args.table.now in
    let some : 0 < length steps = ⊎_elim
    (λ (l : 0 < length steps). l)
    (λ (l : length steps ≤ 0). absurd (eqb-false (length steps) 0 (sym c.is_empty.ensures ∙ c.if-is_empty.false) (omega (arith, l))))
    (cases_lt 0 (length steps)) in
    sum_late table steps k c.greatest.ensures.table c.requires.steps.rising some (omega (arith, from, c.greatest.ensures.greatest))
    ∙ sym (sum_late table steps _ c.greatest.ensures.table c.requires.steps.rising some (omega (arith, c.greatest.ensures.greatest)))

pub returns-else-past-cap-clause-low : goal.returns-else-past-cap-clause-low
returns-else-past-cap-clause-low c i l = first_place c.args.steps.now i c.requires.steps.rising l

pub returns-else-past-cap-clause-early : goal.returns-else-past-cap-clause-early
returns-else-past-cap-clause-early c k l = sum_early c.args.table.now c.args.steps.now k c.requires.steps.rising (λ some. l)
