-- The first that passes is found; where none is found, none passes.
use Rattle.std.proofs.Common.{◌≡◌, ◌<◌, ◌≤◌, Bool, List, Some, None, get_or, length, refl, ap, sym, ◌∙◌, arith, ⊎_elim}
use Rattle.std.proofs.lemmas.List.{get_or_default}
use Rattle.std.proofs.lemmas.Bool.{cases_lt}
use Rattle.prta_sheet.specs.Sheet.{Task}
use Rattle.prta_backlog.specs.Level.{Level, sheet_level}
use Rattle.prta_backlog.specs.Pass.{level_of}
use Rattle.prta_certificate.proofs.SheetLevels.{level_below}
use Rattle.prta_tail.specs.declared.ratio.Ratio.{Ratio}
use Rattle.prta_tail.specs.Ratios.{ratio, ratios}
use Rattle.prta_tail.specs.Walk.{ratio_passes}
use Rattle.prta_tail.proofs.WalkSteps.{find_here, find_none, none_found}
use Rattle.prta_tail.proofs.walking.find_ratio.Goals as goal

ten : length ratios ≡ 10
ten = refl

-- the test is that of the level in the sheet's order
tested : (tasks : List Task) (level other : Level) (r : Ratio) (b : Bool) → b ≡ ratio_passes tasks level r → level ≡ other → b ≡ ratio_passes tasks other r
tested tasks level other r b is same = is ∙ ap (λ (l : Level). ratio_passes tasks l r) same

-- at the ratio of a place
at_place : (tasks : List Task) (level other : Level) (r listed : Ratio) (b : Bool) → b ≡ ratio_passes tasks level r → level ≡ other → r ≡ listed → b ≡ ratio_passes tasks other listed
at_place tasks level other r listed b is same e = tested tasks level other r b is same ∙ ap (ratio_passes tasks other) e

pub returns-then-walk_passes-clause-first : goal.returns-then-walk_passes-clause-first
returns-then-walk_passes-clause-first c =
    ap Some c.ratio_at-ratio.ensures
    ∙ sym (find_here (ratio_passes c.args.sheet.now.tasks (sheet_level c.args.task)) ratios c.loop-i.i (ratio 0 0) (omega (arith, c.loop-i-test.true, ten)) c.loop-i.invariant (sym (at_place c.args.sheet.now.tasks (level_of c.below-higher.result c.args.task) (sheet_level c.args.task) c.ratio_at-ratio.result (get_or ratios c.loop-i.i (ratio 0 0)) c.walk_passes.result c.walk_passes.ensures (level_below c.below-higher.result c.args.task c.below-higher.ensures.members) c.ratio_at-ratio.ensures) ∙ c.if-walk_passes.true))

pub returns-then-walk_passes-clause-passes : goal.returns-then-walk_passes-clause-passes
returns-then-walk_passes-clause-passes c =
    let low : c.loop-i.i < length ratios = omega (arith, c.loop-i-test.true, ten) in
    record {
      listed = (c.loop-i.i, low, get_or_default ratios c.loop-i.i c.ratio_at-ratio.result (ratio 0 0) low ∙ sym c.ratio_at-ratio.ensures);
      passes = sym (tested c.args.sheet.now.tasks (level_of c.below-higher.result c.args.task) (sheet_level c.args.task) c.ratio_at-ratio.result c.walk_passes.result c.walk_passes.ensures (level_below c.below-higher.result c.args.task c.below-higher.ensures.members)) ∙ c.if-walk_passes.true;
    }

pub returns-then-walk_passes-clause-none : goal.returns-then-walk_passes-clause-none
returns-then-walk_passes-clause-none c =
    none_found (ratio_passes c.args.sheet.now.tasks (sheet_level c.args.task)) (Some c.ratio_at-ratio.result) ratios (returns-then-walk_passes-clause-first c)

pub loop-i-preserved : goal.loop-i-preserved
loop-i-preserved c k low = ⊎_elim
    (λ (l : k < c.loop-i.i). c.loop-i.invariant k l)
    (λ (l : c.loop-i.i ≤ k).
    let e : k ≡ c.loop-i.i = omega arith in
    ap (λ j. ratio_passes c.args.sheet.now.tasks (sheet_level c.args.task) (get_or ratios j (ratio 0 0))) e ∙ sym (at_place c.args.sheet.now.tasks (level_of c.below-higher.result c.args.task) (sheet_level c.args.task) c.ratio_at-ratio.result (get_or ratios c.loop-i.i (ratio 0 0)) c.walk_passes.result c.walk_passes.ensures (level_below c.below-higher.result c.args.task c.below-higher.ensures.members) c.ratio_at-ratio.ensures) ∙ c.if-walk_passes.false)
    (cases_lt k c.loop-i.i)

pub returns-clause-first : goal.returns-clause-first
returns-clause-first c =
    sym (find_none (ratio_passes c.args.sheet.now.tasks (sheet_level c.args.task)) ratios (ratio 0 0) (λ k l. c.loop-i.invariant k (omega (arith, l, c.loop-i-test.false, ten))))

pub returns-clause-none : goal.returns-clause-none
returns-clause-none c = none_found (ratio_passes c.args.sheet.now.tasks (sheet_level c.args.task)) None ratios (returns-clause-first c)
