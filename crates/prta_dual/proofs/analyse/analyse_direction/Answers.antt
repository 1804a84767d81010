-- Each instant is the next one of the level run; where it releases an own job, that is the job that comes next.
use Rattle.std.proofs.Common.{◌≡◌, ◌+◌, ◌-◌, ◌<◌, ◌≤◌, nat_eq, length, ◌^◌, refl, ap, sym, ◌∙◌, subst, arith, rules}
use Rattle.std.proofs.lemmas.List.Sums.{length-filter, count_by-le-length}
use Rattle.std.proofs.Math.ListN.{set}
use Rattle.prta_mass.specs.Unit.{unit}
use Rattle.prta_sheet.specs.Sheet.{task_at}
use Rattle.prta_sheet.specs.Job.{Job, nth_job, is_release, analysed_jobs}
use Rattle.prta_sheet.specs.Counts.{job_count}
use Rattle.prta_response.specs.Response.{number_of}
use Rattle.prta_backlog.specs.Pass.{PassState, level_of, after_last}
use Rattle.prta_dual.specs.Entries.{entries_before, entries_in}
use Rattle.prta_dual.specs.Direction.{with_number, bounds_at}
use Rattle.prta_dual.proofs.Passing.{HaveNoted, Follows, own_flag, entries_fit, stands_at_end, nearer, own_number, follows_other, follows_own, noted_other, noted_own, delays_fit}
use Rattle.prta_dual.proofs.Writing.{AreWritten, one_written, are_all_written}
use Rattle.prta_dual.proofs.analyse.analyse_direction.Given as given
use Rattle.prta_dual.proofs.analyse.analyse_direction.Goals as goal

pub step-instant-requires-clause-room : goal.step-instant-requires-clause-room
step-instant-requires-clause-room g c =
    entries_fit _ _ _ _ c.requires.on_sheet c.tasks-tasks.ensures.accepted _ _ _ c.loop-number.invariant.follows (omega (arith, c.loop-number-test.true, c.job_count-count.ensures))
    _ _ _ _ c.loop-number.invariant.notes c.requires.room

pub overflow_cast-number : goal.overflow_cast-number
overflow_cast-number g c =
    let fewer : length (analysed_jobs c.args.sheet.now) ≤ 2 ^ 31 = omega (arith, c.tasks-tasks.ensures.accepted.jobs) in
    omega (
      arith,
      c.loop-number-test.true,
      c.job_count-count.ensures,
      length-filter (λ (job : Job). nat_eq job.task c.args.task) (analysed_jobs c.args.sheet.now),
      count_by-le-length (λ (job : Job). nat_eq job.task c.args.task) (analysed_jobs c.args.sheet.now),
      fewer,
    )

pub respond-met-requires-clause-room : goal.respond-met-requires-clause-room
respond-met-requires-clause-room g c =
    let flag : c.holds.result ≡ is_release (task_at c.args.sheet.now.tasks c.args.task) c.step-instant.result.at =
    c.holds.ensures.held ∙ own_flag _ _ _ _ c.requires.on_sheet c.tasks-tasks.ensures.accepted _ _ _ c.loop-number.invariant.follows _ _ c.instant.view_is c.step-instant.ensures.instant in
    delays_fit _ _ _ _ c.requires.on_sheet c.tasks-tasks.ensures.accepted _ _ _ _ c.loop-number.invariant.follows c.step-instant.ensures.instant.time
    (omega (arith, c.loop-number-test.true, c.job_count-count.ensures))
    _ _ _ _ _ _ c.loop-number.invariant.notes c.step-instant.ensures.noted c.step-instant.ensures.room (sym flag ∙ c.if-holds.true) (omega (arith, c.requires.room))

pub loop-number-smaller-then-holds : goal.loop-number-smaller-then-holds
loop-number-smaller-then-holds g c =
    nearer _ _ _ _ c.requires.on_sheet c.tasks-tasks.ensures.accepted _ _ _ _ c.loop-number.invariant.follows c.step-instant.ensures.instant.time
    (omega (arith, c.loop-number-test.true, c.job_count-count.ensures)) _ c.step-instant.ensures.pass

pub loop-number-smaller : goal.loop-number-smaller
loop-number-smaller g c =
    nearer _ _ _ _ c.requires.on_sheet c.tasks-tasks.ensures.accepted _ _ _ _ c.loop-number.invariant.follows c.step-instant.ensures.instant.time
    (omega (arith, c.loop-number-test.true, c.job_count-count.ensures)) _ c.step-instant.ensures.pass

pub loop-number-preserved-then-holds : goal.loop-number-preserved-then-holds
loop-number-preserved-then-holds g c =
    let flag : c.holds.result ≡ is_release (task_at c.args.sheet.now.tasks c.args.task) c.step-instant.result.at =
    c.holds.ensures.held ∙ own_flag _ _ _ _ c.requires.on_sheet c.tasks-tasks.ensures.accepted _ _ _ c.loop-number.invariant.follows _ _ c.instant.view_is c.step-instant.ensures.instant in
    let counted : c.loop-number.number < job_count c.args.sheet.now c.args.task = omega (arith, c.loop-number-test.true, c.job_count-count.ensures) in
    let after : after_last c.step-instant.new.self.last ≡ c.step-instant.result.at + 1 = ap (λ (p : PassState). after_last p.last) c.step-instant.ensures.pass in
    let main : g.C.Curve.cells c.respond-met.new.bench.main ≡ g.C.Curve.cells c.step-instant.new.bench.main = rw c.respond-met.ensures.curves refl in
    let number : unit - c.respond-met.result ≡ number_of c.args.dir c.args.sheet.now (level_of c.args.higher c.args.task) (nth_job c.args.sheet.now.tasks c.args.task c.loop-number.number) =
    own_number _ _ _ _ c.requires.on_sheet c.tasks-tasks.ensures.accepted _ _ _ _ c.loop-number.invariant.follows c.step-instant.ensures.instant.time counted (sym flag ∙ c.if-holds.true) _ _
    c.step-instant.ensures.list c.respond-met.ensures.cell in
    let found : c.with_number.result ≡ with_number c.args.dir (unit - c.respond-met.result) (bounds_at c.loop-number.found c.loop-number.number) = c.with_number.ensures in
    record {
      follows = follows_own _ _ _ _ c.requires.on_sheet c.tasks-tasks.ensures.accepted _ _ _ _ c.loop-number.invariant.follows c.step-instant.ensures.instant.time counted _ _
          (sym flag ∙ c.if-holds.true) c.step-instant.ensures.pass (main ∙ c.step-instant.ensures.list);
      notes = subst (λ t. HaveNoted (entries_before c.args.dir c.args.sheet.now (level_of c.args.higher c.args.task) t) (g.N.Notes.noted c.args.notes.now) (g.N.Notes.room c.args.notes.now)
          (g.N.Notes.noted c.respond-met.new.notes) (g.N.Notes.room c.respond-met.new.notes)) (sym after)
          (noted_own _ _ _ _ c.requires.on_sheet c.tasks-tasks.ensures.accepted _ _ _ _ c.loop-number.invariant.follows c.step-instant.ensures.instant.time counted
          _ _ _ _ _ _ c.loop-number.invariant.notes c.step-instant.ensures.noted c.step-instant.ensures.room (sym flag ∙ c.if-holds.true)
          _ c.step-instant.ensures.list _ _ c.respond-met.ensures.noted c.respond-met.ensures.room);
      within = omega (arith, c.loop-number-test.true);
      written = subst (λ bounds. AreWritten c.args.dir c.args.sheet.now (level_of c.args.higher c.args.task) c.args.found.now (c.loop-number.number + 1) (set c.loop-number.found c.loop-number.number bounds)) (sym found)
          (one_written _ _ _ _ _ _ _ c.loop-number.invariant.written (omega (arith, counted, c.loop-number.auto.found, c.requires.places)) number);
      others = search rules;
      fits = c.respond-met.ensures.fits;
    }

pub loop-number-preserved : goal.loop-number-preserved
loop-number-preserved g c =
    let flag : c.holds.result ≡ is_release (task_at c.args.sheet.now.tasks c.args.task) c.step-instant.result.at =
    c.holds.ensures.held ∙ own_flag _ _ _ _ c.requires.on_sheet c.tasks-tasks.ensures.accepted _ _ _ c.loop-number.invariant.follows _ _ c.instant.view_is c.step-instant.ensures.instant in
    let counted : c.loop-number.number < job_count c.args.sheet.now c.args.task = omega (arith, c.loop-number-test.true, c.job_count-count.ensures) in
    let after : after_last c.step-instant.new.self.last ≡ c.step-instant.result.at + 1 = ap (λ (p : PassState). after_last p.last) c.step-instant.ensures.pass in
    record {
      follows = follows_other _ _ _ _ c.requires.on_sheet c.tasks-tasks.ensures.accepted _ _ _ _ c.loop-number.invariant.follows c.step-instant.ensures.instant.time counted _ _
          (sym flag ∙ c.if-holds.false) c.step-instant.ensures.pass c.step-instant.ensures.list;
      notes = subst (λ t. HaveNoted (entries_before c.args.dir c.args.sheet.now (level_of c.args.higher c.args.task) t) (g.N.Notes.noted c.args.notes.now) (g.N.Notes.room c.args.notes.now)
          (g.N.Notes.noted c.step-instant.new.notes) (g.N.Notes.room c.step-instant.new.notes)) (sym after)
          (noted_other _ _ _ _ c.requires.on_sheet c.tasks-tasks.ensures.accepted _ _ _ _ c.loop-number.invariant.follows c.step-instant.ensures.instant.time counted
          _ _ _ _ _ _ c.loop-number.invariant.notes c.step-instant.ensures.noted c.step-instant.ensures.room (sym flag ∙ c.if-holds.false));
      within = c.loop-number.invariant.within;
      written = c.loop-number.invariant.written;
      others = search rules;
      fits = search rules;
    }

-- all numbers, up to the end
ended : (g : given.Over) (c : goal.After-loop-number g) → c.loop-number.number ≡ job_count c.args.sheet.now c.args.task
ended g c = omega (arith, c.loop-number.invariant.within, c.loop-number-test.false, c.job_count-count.ensures)

pub returns-clause-numbers : goal.returns-clause-numbers
returns-clause-numbers g c =
    are_all_written _ _ _ _ _ (subst (λ n. AreWritten c.args.dir c.args.sheet.now (level_of c.args.higher c.args.task) c.args.found.now n c.loop-number.found) (ended g c) c.loop-number.invariant.written)
    c.requires.places

noted_all : (g : given.Over) (c : goal.After-loop-number g) → HaveNoted (entries_in c.args.dir c.args.sheet.now (level_of c.args.higher c.args.task))
    (g.N.Notes.noted c.args.notes.now) (g.N.Notes.room c.args.notes.now) (g.N.Notes.noted c.loop-number.notes) (g.N.Notes.room c.loop-number.notes)
noted_all g c =
    let last : Follows c.args.dir c.args.sheet.now c.args.higher c.args.task c.loop-number.pass (g.C.Curve.cells c.loop-number.bench.main) (job_count c.args.sheet.now c.args.task) =
    subst (Follows c.args.dir c.args.sheet.now c.args.higher c.args.task c.loop-number.pass (g.C.Curve.cells c.loop-number.bench.main)) (ended g c) c.loop-number.invariant.follows in
    subst (λ t. HaveNoted (entries_before c.args.dir c.args.sheet.now (level_of c.args.higher c.args.task) t) (g.N.Notes.noted c.args.notes.now) (g.N.Notes.room c.args.notes.now)
    (g.N.Notes.noted c.loop-number.notes) (g.N.Notes.room c.loop-number.notes)) (stands_at_end _ _ _ _ c.requires.on_sheet c.tasks-tasks.ensures.accepted _ _ last) c.loop-number.invariant.notes

pub returns-clause-noted : goal.returns-clause-noted
returns-clause-noted g c = (noted_all g c).noted

pub returns-clause-room : goal.returns-clause-room
returns-clause-room g c = (noted_all g c).room
