-- Each step keeps the pass in the run; from the last one on nothing happens up to the end.
use Rattle.std.proofs.Common.{◌≡◌, ℕ, ◌-◌, ◌≤◌, Bool, Option, Some, None, List, length, refl, ap, sym, ◌∙◌, subst, arith, rules}
use Rattle.std.specs.Prelude.{unwrap_or}
use Rattle.prta_sheet.specs.Sheet.{Sheet, hyperperiod}
use Rattle.prta_shift.specs.Shift.{shifted}
use Rattle.prta_jobs.specs.Instant.{IsOnSheet, InstantParts}
use Rattle.prta_backlog.specs.Level.{Level, has_task}
use Rattle.prta_backlog.specs.LevelRun.{image}
use Rattle.prta_backlog.specs.Pass.{PassState, level_of, pass_level, after_last}
use Rattle.prta_backlog.proofs.Chances.{size_image}
use Rattle.prta_backlog.proofs.Images.{InImage, image_start, image_step, image_end, same_level, least_same}
use Rattle.prta_backlog.proofs.imaging.image.Goals as goal

since_low : (last : Option ℕ) → unwrap_or last 0 ≤ after_last last
since_low None = omega arith
since_low (Some t) = omega arith

on_sheet : (sheet : Sheet) (start : List ℕ) (higher : List Bool) (task end : ℕ) (pass : PassState) (cells : List ℕ) → InImage sheet start higher task end pass cells →
    IsOnSheet sheet.tasks (has_task (level_of higher task)) → IsOnSheet sheet.tasks (has_task (pass_level pass))
on_sheet sheet start higher task end pass cells is h = subst (λ (l : Level). IsOnSheet sheet.tasks (has_task l)) (sym (same_level sheet start higher task end pass cells is)) h

pub loop-notes-init : goal.loop-notes-init
loop-notes-init g c = (
  subst (λ (p : PassState). InImage c.args.sheet.now (g.C.Curve.cells c.args.bench.now.main) c.args.higher c.args.task c.whole_hyperperiod-end.result p (g.C.Curve.cells c.args.bench.now.main))
      (sym c.plain-pass.ensures) (image_start c.args.sheet.now (g.C.Curve.cells c.args.bench.now.main) c.args.higher c.args.task c.whole_hyperperiod-end.result),
  refl,
)

pub next-requires-clause-on_sheet : goal.next-requires-clause-on_sheet
next-requires-clause-on_sheet g c = on_sheet _ _ _ _ _ _ _ c.loop-notes.invariant.0 c.requires.on_sheet

pub next-requires-clause-before : goal.next-requires-clause-before
next-requires-clause-before g c = omega (arith, c.loop-notes.invariant.0.within, c.whole_hyperperiod-end.ensures.short)

pub step-requires-clause-on_sheet : goal.step-requires-clause-on_sheet
step-requires-clause-on_sheet g c = on_sheet _ _ _ _ _ _ _ c.loop-notes.invariant.0 c.requires.on_sheet

pub step-requires-clause-apart : goal.step-requires-clause-apart
step-requires-clause-apart g c = ap (λ (l : Level). l.higher l.own) (same_level _ _ _ _ _ _ _ c.loop-notes.invariant.0) ∙ c.requires.apart

pub loop-notes-preserved : goal.loop-notes-preserved
loop-notes-preserved g c =
    let tested : c.next-in-loop-notes.inside.at ≡ c.next.result.at = ap (λ (i : InstantParts). i.at) c.next-in-loop-notes.view_is in
    let same : c.next.result.at ≡ c.step.result.at = least_same _ _ _ _ _ c.next.ensures.instant.time c.step.ensures.instant.time in (
      image_step _ _ _ _ _ _ _ _ _ c.step.result.at c.loop-notes.invariant.0 (on_sheet _ _ _ _ _ _ _ c.loop-notes.invariant.0 c.requires.on_sheet) c.step.ensures.instant.time
          (omega (arith, c.loop-notes-test.true)) c.step.ensures.pass c.step.ensures.list,
      search rules,
    )

pub overflow_sub-end : goal.overflow_sub-end
overflow_sub-end g c = omega (arith, c.since.ensures, since_low c.loop-notes.pass.last, c.loop-notes.invariant.0.within)

pub returns-clause-image : goal.returns-clause-image
returns-clause-image g c =
    c.shift.ensures.cells
    ∙ ap (λ n. shifted (c.whole_hyperperiod-end.result - n) (g.C.Curve.cells c.loop-notes.bench.main)) c.since.ensures
    ∙ image_end _ _ _ _ _ _ _ c.next.result.at c.loop-notes.invariant.0 c.next.ensures.instant.time (omega (arith, c.loop-notes-test.false, ap (λ (i : InstantParts). i.at) c.next-in-loop-notes.view_is))
    ∙ ap (λ n. image c.args.sheet.now.tasks (level_of c.args.higher c.args.task) n (g.C.Curve.cells c.args.bench.now.main)) c.whole_hyperperiod-end.ensures.hyperperiod

pub returns-clause-cap : goal.returns-clause-cap
returns-clause-cap g c = ap length (returns-clause-image g c) ∙ size_image c.args.sheet.now.tasks (level_of c.args.higher c.args.task) (hyperperiod c.args.sheet.now.tasks) (g.C.Curve.cells c.args.bench.now.main)
