-- Each instant is the next one of the level run; where it releases an own job, that is the job that comes next.
use Rattle.std.proofs.Common.{rules, ◌≡◌, ◌+◌, ◌-◌, ◌<◌, ◌≤◌, true, false, not, cond, Some, Fits, w32, nat_eq, length, option_map, ◌^◌, refl, ap, ap₂, sym, ◌∙◌, arith, ℕ}
use Rattle.std.proofs.lemmas.List.{get_or_read}
use Rattle.std.proofs.lemmas.List.Sums.{length-filter, count_by-le-length}
use Rattle.prta_mass.specs.Unit.{unit}
use Rattle.prta_mass.specs.Passing.{passes}
use Rattle.prta_sheet.specs.Sheet.{Task, Sheet, task_at}
use Rattle.prta_sheet.specs.Job.{Job, nth_job, is_release, analysed_jobs}
use Rattle.prta_sheet.specs.Counts.{job_count}
use Rattle.prta_sheet.specs.Accepted.{IsAccepted}
use Rattle.prta_response.specs.Response.{number_of}
use Rattle.prta_backlog.specs.Level.{Level}
use Rattle.prta_backlog.specs.Pass.{level_of}
use Rattle.prta_dual.specs.Failing.{fails, failing_number, failing_at}
use Rattle.prta_dual.proofs.Finding.{found_next}
use Rattle.prta_dual.proofs.FirstFailing.{failing_since}
use Rattle.prta_dual.proofs.RoomFits.{delays_few}
use Rattle.prta_dual.proofs.Passing.{own_low, own_flag, nearer, own_number, follows_other, follows_own}
use Rattle.prta_dual.proofs.failing.first_failing_below.Given as given
use Rattle.prta_dual.proofs.failing.first_failing_below.Goals as goal
use Rattle.prta_dual.proofs.failing.first_failing_below.Goals.{After-step-instant, After-passes}

-- a number of an analysed job fits 32 bits
few : (sheet : Sheet) (task number count : ℕ) → IsAccepted sheet → count ≡ job_count sheet task → number < count → Fits w32 number
few sheet task number count is e low =
    let all : length (analysed_jobs sheet) ≤ 2 ^ 31 = omega (arith, is.jobs) in
    let own : ℕ = job_count sheet task in
    record {
      fits = omega (arith, low, e, length-filter (λ (job : Job). nat_eq job.task task) (analysed_jobs sheet), count_by-le-length (λ (job : Job). nat_eq job.task task) (analysed_jobs sheet), all);
    }

pub overflow_cast-number : goal.overflow_cast-number
overflow_cast-number g c = few c.args.sheet.now c.args.task c.loop-number.number c.job_count-count.result c.tasks-tasks.ensures.accepted c.job_count-count.ensures c.loop-number-test.true

pub overflow_cast-result : goal.overflow_cast-result
overflow_cast-result g c = few c.args.sheet.now c.args.task c.loop-number.number c.job_count-count.result c.tasks-tasks.ensures.accepted c.job_count-count.ensures c.loop-number-test.true

pub respond-met-requires-clause-room : goal.respond-met-requires-clause-room
respond-met-requires-clause-room g c =
    delays_few c.args.sheet.now c.tasks-tasks.ensures.accepted (level_of c.args.higher c.args.task) c.loop-number.number
    (own_low c.args.sheet.now c.args.higher c.args.task c.requires.on_sheet) (omega (arith, c.loop-number-test.true, c.job_count-count.ensures))

counted : (g : given.Over) (c : After-step-instant g) → c.loop-number.number < job_count c.args.sheet.now c.args.task
counted g c = omega (arith, c.loop-number-test.true, c.job_count-count.ensures)

-- whether the instant releases an own job
flag_is : (g : given.Over) (c : After-passes g) → is_release (task_at c.args.sheet.now.tasks c.args.task) c.step-instant.result.at ≡ true
flag_is g c =
    sym
    (c.holds.ensures.held
    ∙ own_flag _ _ _ _ c.requires.on_sheet c.tasks-tasks.ensures.accepted _ _ _ c.loop-number.invariant.follows _ _ c.instant.view_is c.step-instant.ensures.instant)
    ∙ c.if-holds.true

-- what the response run leaves to the unit is the job's number
number_is : (g : given.Over) (c : After-passes g) →
    unit - c.respond-met.result ≡ number_of c.args.dir c.args.sheet.now (level_of c.args.higher c.args.task) (nth_job c.args.sheet.now.tasks c.args.task c.loop-number.number)
number_is g c =
    own_number _ _ _ _ c.requires.on_sheet c.tasks-tasks.ensures.accepted _ _ _ _ c.loop-number.invariant.follows c.step-instant.ensures.instant.time
    (omega (arith, c.loop-number-test.true, c.job_count-count.ensures)) (flag_is g c) _ _ c.step-instant.ensures.list c.respond-met.ensures.cell

-- the test of the number is that of the definition
test_is : (g : given.Over) (c : After-passes g) → fails c.args.dir c.args.sheet.now (level_of c.args.higher c.args.task) c.loop-number.number ≡ not c.passes.result
test_is g c =
    let sheet : Sheet = c.args.sheet.now in
    let low : c.args.task < length c.tasks-tasks.result.now =
    omega (arith, own_low sheet c.args.higher c.args.task c.requires.on_sheet, ap length c.tasks-tasks.ensures.tasks) in
    let task : c.index-tasks-task.result ≡ task_at sheet.tasks c.args.task =
    get_or_read c.tasks-tasks.result.now c.args.task c.index-tasks-task.result low c.index-tasks-task.is _ ∙ ap (λ all. task_at all c.args.task) c.tasks-tasks.ensures.tasks in
    let allow : c.allow-allow.result ≡ (task_at sheet.tasks c.args.task).allow = c.allow-allow.ensures ∙ ap (λ (t : Task). t.allow) task in
    sym (ap not c.passes.ensures ∙ ap₂ (λ (n : ℕ) (p : ℕ × ℕ). not (passes n p.0 p.1)) (number_is g c) allow)

pub returns-then-not-passes-clause-first : goal.returns-then-not-passes-clause-first
returns-then-not-passes-clause-first g c =
    let at = (goal.at.returns-then-not-passes-clause-first g c).After-passes in
    let sheet : Sheet = c.args.sheet.now in
    let level : Level = level_of c.args.higher c.args.task in
    let n : ℕ = c.loop-number.number in
    let fails_it : fails c.args.dir sheet level n ≡ true = test_is g at ∙ ap not c.if-not-passes.true in
    let here : failing_number c.args.dir sheet level ≡ Some n =
    c.loop-number.invariant.passing
    ∙ found_next (fails c.args.dir sheet level) n (job_count sheet c.args.task) (omega (arith, c.loop-number-test.true, c.job_count-count.ensures))
    ∙ ap (λ b. cond b (Some n) (failing_since c.args.dir sheet level (n + 1))) fails_it in
    ap (λ bound. Some (record { task = c.args.task; number = n; bound = bound })) (number_is g at) ∙ sym (ap (option_map (failing_at c.args.dir sheet level)) here)

pub loop-number-smaller-then-holds : goal.loop-number-smaller-then-holds
loop-number-smaller-then-holds g c =
    nearer _ _ _ _ c.requires.on_sheet c.tasks-tasks.ensures.accepted _ _ _ _ c.loop-number.invariant.follows c.step-instant.ensures.instant.time
    (omega (arith, c.loop-number-test.true, c.job_count-count.ensures)) _ c.step-instant.ensures.pass

pub loop-number-smaller : goal.loop-number-smaller
loop-number-smaller g c =
    nearer _ _ _ _ c.requires.on_sheet c.tasks-tasks.ensures.accepted _ _ _ _ c.loop-number.invariant.follows c.step-instant.ensures.instant.time
    (omega (arith, c.loop-number-test.true, c.job_count-count.ensures)) _ c.step-instant.ensures.pass

pub loop-number-preserved-then-holds : goal.loop-number-preserved-then-holds
loop-number-preserved-then-holds g c =
    let at = (goal.at.loop-number-preserved-then-holds g c).After-passes in
    let sheet : Sheet = c.args.sheet.now in
    let level : Level = level_of c.args.higher c.args.task in
    let n : ℕ = c.loop-number.number in
    let low : n < job_count sheet c.args.task = omega (arith, c.loop-number-test.true, c.job_count-count.ensures) in
    let main : g.C.Curve.cells c.respond-met.new.bench.main ≡ g.C.Curve.cells c.step-instant.new.bench.main = rw c.respond-met.ensures.curves refl in
    let passes_it : fails c.args.dir sheet level n ≡ false = test_is g at ∙ ap not c.if-not-passes.false in
    record {
      follows = follows_own _ _ _ _ c.requires.on_sheet c.tasks-tasks.ensures.accepted _ _ _ _ c.loop-number.invariant.follows c.step-instant.ensures.instant.time low _ _
          (flag_is g at) c.step-instant.ensures.pass (main ∙ c.step-instant.ensures.list);
      within = omega (arith, c.loop-number-test.true);
      passing = c.loop-number.invariant.passing
          ∙ found_next (fails c.args.dir sheet level) n (job_count sheet c.args.task) low
          ∙ ap (λ b. cond b (Some n) (failing_since c.args.dir sheet level (n + 1))) passes_it;
      others = search rules;
      fits = c.respond-met.ensures.fits;
    }

pub loop-number-preserved : goal.loop-number-preserved
loop-number-preserved g c =
    let flag : c.holds.result ≡ is_release (task_at c.args.sheet.now.tasks c.args.task) c.step-instant.result.at =
    c.holds.ensures.held ∙ own_flag _ _ _ _ c.requires.on_sheet c.tasks-tasks.ensures.accepted _ _ _ c.loop-number.invariant.follows _ _ c.instant.view_is c.step-instant.ensures.instant in
    let low : c.loop-number.number < job_count c.args.sheet.now c.args.task = omega (arith, c.loop-number-test.true, c.job_count-count.ensures) in
    record {
      follows = follows_other _ _ _ _ c.requires.on_sheet c.tasks-tasks.ensures.accepted _ _ _ _ c.loop-number.invariant.follows c.step-instant.ensures.instant.time low _ _
          (sym flag ∙ c.if-holds.false) c.step-instant.ensures.pass c.step-instant.ensures.list;
      within = c.loop-number.invariant.within;
      passing = c.loop-number.invariant.passing;
      others = search rules;
      fits = search rules;
    }
