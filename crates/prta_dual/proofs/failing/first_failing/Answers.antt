use Rattle.std.proofs.Common.{rules, ◌≡◌, ℕ, ◌<◌, Bool, true, false, is_some, Option, Some, None, option_map, length, refl, ap, sym, ◌∙◌, arith}
use Rattle.std.proofs.Math.Path.{fun_ext}
use Rattle.prta_mass.specs.declared.direction.Dir.TheVariants.{Up}
use Rattle.prta_sheet.specs.Sheet.{Sheet}
use Rattle.prta_backlog.specs.Level.{Level, sheet_level}
use Rattle.prta_backlog.specs.Pass.{level_of}
use Rattle.prta_dual.specs.declared.failing.Failing.{Failing}
use Rattle.prta_dual.specs.Failing.{failing_number, failing_at, failing, found_job}
use Rattle.prta_dual.proofs.FirstFailing.{found_below, none_here, first_here}
use Rattle.prta_dual.proofs.failing.first_failing.Given as given
use Rattle.prta_dual.proofs.failing.first_failing.Goals as goal
use Rattle.prta_dual.proofs.failing.first_failing.Goals.{After-first_failing_below-found}

-- the tasks before one are those below its number
found_is : (g : given.Over) (c : After-first_failing_below-found g) → c.first_failing_below-found.result ≡ found_below c.args.sheet.now c.loop-task.task
found_is g c =
    let level : level_of c.below.result c.loop-task.task ≡ sheet_level c.loop-task.task =
    ap (λ (higher : ℕ → Bool). record { higher = higher; own = c.loop-task.task }) (fun_ext c.below.ensures.members) in
    c.first_failing_below-found.ensures.first ∙ ap (λ (l : Level). option_map (failing_at Up c.args.sheet.now l) (failing_number Up c.args.sheet.now l)) level

listed : (g : given.Over) (c : After-first_failing_below-found g) → c.loop-task.task < length c.args.sheet.now.tasks
listed g c = omega (arith, c.loop-task-test.true, ap length c.tasks-task-end.ensures.tasks, c.loop-task.auto.task-end)

pub returns-then-is_some-clause-first : goal.returns-then-is_some-clause-first
returns-then-is_some-clause-first g c =
    let at = (goal.at.returns-then-is_some-clause-first g c).After-first_failing_below-found in
    of_found c.first_failing_below-found.result refl (sym c.is_some.ensures ∙ c.if-is_some.true) (found_is g at)
  where
    sheet : Sheet
    sheet = c.args.sheet.now

    of_found : (found : Option Failing) → c.first_failing_below-found.result ≡ found → is_some found ≡ true → c.first_failing_below-found.result ≡ found_below sheet c.loop-task.task →
        option_map (found_job sheet) c.first_failing_below-found.result ≡ failing sheet
    of_found None e some is = cc
    of_found (Some found) e some is =
        ap (option_map (found_job sheet)) e
        ∙ first_here c.own_jobs_in_turn.ensures sheet c.loop-task.task c.tasks-task-end.ensures.accepted (listed g (goal.at.returns-then-is_some-clause-first g c).After-first_failing_below-found)
        found c.loop-task.invariant.rest (sym is ∙ e)

pub loop-task-preserved : goal.loop-task-preserved
loop-task-preserved g c =
    let at = (goal.at.loop-task-preserved g c).After-first_failing_below-found in
    record {
      rest = c.loop-task.invariant.rest
          ∙ none_here c.own_jobs_in_turn.ensures c.args.sheet.now c.loop-task.task c.tasks-task-end.ensures.accepted (listed g at)
          (sym (found_is g at) ∙ of_none c.first_failing_below-found.result (sym c.is_some.ensures ∙ c.if-is_some.false));
      others = search rules;
      fits = c.first_failing_below-found.ensures.fits;
    }
  where
    of_none : (found : Option Failing) → is_some found ≡ false → found ≡ None
    of_none None e = refl
    of_none (Some found) e = cc
