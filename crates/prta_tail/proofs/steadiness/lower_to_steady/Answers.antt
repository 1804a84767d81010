-- Each instant is the next one of the level run; where it releases an own job, that is the job that comes next.
use Rattle.std.proofs.Common.{◌≡◌, ℕ, ◌+◌, ◌-◌, ◌/◌, ◌<◌, min, map, length, get_or, set, refl, ap, sym, ◌∙◌, subst, arith, rules}
use Rattle.std.specs.List.{range_with_len}
use Rattle.std.proofs.lemmas.List.{length-set}
use Rattle.prta_mass.specs.Unit.{unit}
use Rattle.prta_sheet.specs.Sheet.{task_at, hyperperiod}
use Rattle.prta_sheet.specs.Job.{nth_job, is_release}
use Rattle.prta_backlog.specs.Level.{Level}
use Rattle.prta_backlog.specs.Pass.{PassState, level_of, after_last}
use Rattle.prta_certificate.specs.Certificate.{steady_number}
use Rattle.prta_certificate.proofs.SheetLevels.{level_below, level_on_sheet}
use Rattle.prta_certificate.proofs.FirstJobs.{early_offset, is_analysed, delays_few}
use Rattle.prta_certificate.proofs.SteadyPass.{Awaiting, own_flag, own_release, nearer, number_is, awaits_same, awaits_more}
use Rattle.prta_tail.proofs.Lowering.{Lowered, lowered_more, lowered_all}
use Rattle.prta_tail.proofs.steadiness.lower_to_steady.Goals as goal

pub respond-met-requires-clause-number : goal.respond-met-requires-clause-number
respond-met-requires-clause-number g c =
    is_analysed _ _ c.tasks-tasks.ensures.accepted c.requires.task _ (omega (arith, c.loop-number-test.true, c.loop-number.invariant.lowered.size, c.requires.places))

pub respond-met-requires-clause-room : goal.respond-met-requires-clause-room
respond-met-requires-clause-room g c =
    delays_few c.args.sheet.now (level_of c.below-higher.result c.args.task) c.loop-number.number c.tasks-tasks.ensures.accepted c.requires.task
    (omega (arith, c.loop-number-test.true, c.loop-number.invariant.lowered.size, c.requires.places))

pub loop-number-smaller-then-holds : goal.loop-number-smaller-then-holds
loop-number-smaller-then-holds g c =
    nearer _ _ _ _ _ _ _ c.loop-number.invariant.awaiting _ c.step-instant.ensures.instant.time (early_offset _ _ c.tasks-tasks.ensures.accepted c.requires.task)
    (omega (arith, c.loop-number-test.true, c.loop-number.invariant.lowered.size, c.requires.places)) _ c.step-instant.ensures.pass

pub loop-number-smaller : goal.loop-number-smaller
loop-number-smaller g c =
    nearer _ _ _ _ _ _ _ c.loop-number.invariant.awaiting _ c.step-instant.ensures.instant.time (early_offset _ _ c.tasks-tasks.ensures.accepted c.requires.task)
    (omega (arith, c.loop-number-test.true, c.loop-number.invariant.lowered.size, c.requires.places)) _ c.step-instant.ensures.pass

pub loop-number-preserved-then-holds : goal.loop-number-preserved-then-holds
loop-number-preserved-then-holds g c =
    let flag : c.holds.result ≡ is_release (task_at c.args.sheet.now.tasks c.args.task) c.step-instant.result.at =
    c.holds.ensures.held ∙ own_flag _ _ _ _ _ _ _ c.loop-number.invariant.awaiting _ _ c.instant.view_is c.step-instant.ensures.instant in
    let early : (task_at c.args.sheet.now.tasks c.args.task).offset < (task_at c.args.sheet.now.tasks c.args.task).period = early_offset _ _ c.tasks-tasks.ensures.accepted c.requires.task in
    let few : c.loop-number.number < hyperperiod c.args.sheet.now.tasks / (task_at c.args.sheet.now.tasks c.args.task).period =
    omega (arith, c.loop-number-test.true, c.loop-number.invariant.lowered.size, c.requires.places) in
    let stepped : Awaiting c.args.sheet.now (g.C.Curve.cells c.args.bench.now.main) c.below-higher.result c.args.task c.step-instant.new.self (g.C.Curve.cells c.step-instant.new.bench.main) (c.loop-number.number + 1) =
    awaits_more _ _ _ _ _ _ _ c.loop-number.invariant.awaiting _ c.step-instant.ensures.instant.time early few _ c.step-instant.ensures.pass _ c.step-instant.ensures.list
    (level_on_sheet _ _ c.below-higher.ensures.members _ c.requires.task) (sym flag ∙ c.if-holds.true) in
    let release : c.step-instant.result.at ≡ (nth_job c.args.sheet.now.tasks c.args.task c.loop-number.number).release =
    own_release _ _ _ _ _ _ _ c.loop-number.invariant.awaiting _ c.step-instant.ensures.instant.time early few (sym flag ∙ c.if-holds.true) in
    let after : after_last c.step-instant.new.self.last ≡ (nth_job c.args.sheet.now.tasks c.args.task c.loop-number.number).release + 1 =
    omega (arith, release, ap (λ (p : PassState). after_last p.last) c.step-instant.ensures.pass) in
    let main : g.C.Curve.cells c.respond-met.new.bench.main ≡ g.C.Curve.cells c.step-instant.new.bench.main = rw c.respond-met.ensures.curves refl in
    let spare_met : g.C.Curve.cells c.respond-met.new.bench.spare ≡ g.C.Curve.cells c.step-instant.new.bench.spare = rw c.respond-met.ensures.curves refl in
    let spare_step : g.C.Curve.cells c.step-instant.new.bench.spare ≡ g.C.Curve.cells c.loop-number.bench.spare = rw c.step-instant.ensures.others refl in
    let steadies : ℕ → ℕ = λ k. steady_number c.args.sheet.now.tasks (level_of c.below-higher.result c.args.task) (g.C.Curve.cells c.args.bench.now.main) (nth_job c.args.sheet.now.tasks c.args.task k) in
    let number : unit - c.respond-met.result ≡ steadies c.loop-number.number = number_is _ _ _ _ _ _ _ stepped c.loop-number.number _ after c.respond-met.ensures.cell in
    let more : Lowered steadies c.args.found.now (set c.loop-number.found c.loop-number.number c.min.result) (c.loop-number.number + 1) =
    lowered_more steadies c.args.found.now c.loop-number.found c.loop-number.number c.loop-number.invariant.lowered (omega (arith, c.loop-number-test.true)) c.min.result (search rules) in
    record {
      awaiting = subst (λ cells. Awaiting c.args.sheet.now (g.C.Curve.cells c.args.bench.now.main) c.below-higher.result c.args.task c.step-instant.new.self cells (c.loop-number.number + 1)) (sym main) stepped;
      within = omega (arith, c.loop-number-test.true, length-set c.loop-number.found c.loop-number.number c.min.result);
      lowered = more;
      spare = spare_met ∙ spare_step ∙ c.loop-number.invariant.spare;
      fits = c.respond-met.ensures.fits;
    }

pub loop-number-preserved : goal.loop-number-preserved
loop-number-preserved g c =
    let flag : c.holds.result ≡ is_release (task_at c.args.sheet.now.tasks c.args.task) c.step-instant.result.at =
    c.holds.ensures.held ∙ own_flag _ _ _ _ _ _ _ c.loop-number.invariant.awaiting _ _ c.instant.view_is c.step-instant.ensures.instant in
    let spare_step : g.C.Curve.cells c.step-instant.new.bench.spare ≡ g.C.Curve.cells c.loop-number.bench.spare = rw c.step-instant.ensures.others refl in
    record {
      awaiting = awaits_same _ _ _ _ _ _ _ c.loop-number.invariant.awaiting _ c.step-instant.ensures.instant.time (early_offset _ _ c.tasks-tasks.ensures.accepted c.requires.task)
          (omega (arith, c.loop-number-test.true, c.loop-number.invariant.lowered.size, c.requires.places)) _ c.step-instant.ensures.pass _ c.step-instant.ensures.list
          (level_on_sheet _ _ c.below-higher.ensures.members _ c.requires.task) (sym flag ∙ c.if-holds.false);
      within = c.loop-number.invariant.within;
      lowered = c.loop-number.invariant.lowered;
      spare = spare_step ∙ c.loop-number.invariant.spare;
      fits = search rules;
    }

pub returns-clause-numbers : goal.returns-clause-numbers
returns-clause-numbers g c =
    lowered_all _ _ _ _ c.loop-number.invariant.lowered (omega (arith, c.loop-number-test.false))
    ∙ ap (λ (level : Level). map (λ k. min (get_or c.args.found.now k 0) (steady_number c.args.sheet.now.tasks level (g.C.Curve.cells c.args.bench.now.main) (nth_job c.args.sheet.now.tasks c.args.task k))) (range_with_len 0 (length c.args.found.now)))
    (level_below c.below-higher.result c.args.task c.below-higher.ensures.members)
