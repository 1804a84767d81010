use Rattle.std.proofs.Common.{◌≡◌, ℕ, Bool, true, false, not, ◌&&◌, Option, Some, None, is_some, is_none, refl, ap, sym, ◌∙◌}
use Rattle.std.proofs.Math.Path.{fun_ext}
use Rattle.prta_jobs.specs.TaskSet.{holds}
use Rattle.prta_audsley.specs.Passing.{task_passes}
use Rattle.prta_audsley.specs.Verdict.{other_tasks}
use Rattle.prta_audsley.proofs.Numbers.{passes_is}
use Rattle.prta_audsley.proofs.placing.passes_lowest.Goals as goal

none_is : {A : Type 0} (found : Option A) (b : Bool) → is_some found ≡ not b → b ≡ is_none found
none_is None true e = refl
none_is None false e = cc
none_is (Some x) true e = cc
none_is (Some x) false e = refl

pub returns-clause-passes : goal.returns-clause-passes
returns-clause-passes g c =
    let test : Bool = task_passes c.args.dir c.args.sheet.now (other_tasks c.args.unplaced c.args.task) c.args.task in
    let held : holds c.args.unplaced c.args.task ≡ true = sym c.holds.ensures.held ∙ c.if-not-holds.false in
    none_is c.first_failing_below.result c.is_none.result c.is_none.ensures
    ∙ ap is_none c.first_failing_below.ensures.first
    ∙ passes_is c.args.dir c.args.sheet.now (holds c.without-others.result) c.args.task
    ∙ ap (λ (others : ℕ → Bool). task_passes c.args.dir c.args.sheet.now others c.args.task) (fun_ext c.without-others.ensures.members)
    ∙ ap (λ b. b && test) (sym held)
