-- What the two greedies end with is the verdict.
use Rattle.std.proofs.Common.{◌≡◌, ℕ, Bool, List, length, ap, ap₂, sym, ◌∙◌}
use Rattle.prta_mass.specs.declared.direction.Dir.TheVariants.{Up, Down}
use Rattle.prta_sheet.specs.Sheet.{Sheet}
use Rattle.prta_jobs.specs.TaskSet.{holds}
use Rattle.prta_audsley.specs.Greedy.{Through, Stuck}
use Rattle.prta_audsley.specs.Verdict.{greedy_by, verdict_of, verdict}
use Rattle.prta_audsley.specs.Placing.{tasks_in, IsSetOf}
use Rattle.prta_audsley.specs.declared.assigned.Assigned.TheVariants.{Undecided, Impossible}
use Rattle.prta_audsley.proofs.LowestPlaces.{same_set}
use Rattle.prta_audsley.proofs.assigning.decide.Goals as goal

undecided : (sheet : Sheet) (set : List Bool) (order : List ℕ) → IsSetOf (length sheet.tasks) set → Stuck (tasks_in (length sheet.tasks) (holds set)) ≡ greedy_by Up sheet → Through order ≡ greedy_by Down sheet → Undecided set ≡ verdict sheet
undecided sheet set order is up down = ap Undecided (sym (same_set (length sheet.tasks) set is)) ∙ ap₂ verdict_of up down

impossible : (sheet : Sheet) (left set : List Bool) → IsSetOf (length sheet.tasks) set → Stuck (tasks_in (length sheet.tasks) (holds left)) ≡ greedy_by Up sheet → Stuck (tasks_in (length sheet.tasks) (holds set)) ≡ greedy_by Down sheet → Impossible set ≡ verdict sheet
impossible sheet left set is up down = ap Impossible (sym (same_set (length sheet.tasks) set is)) ∙ ap₂ verdict_of up down

pub returns-in-None-place_all-clause-verdict : goal.returns-in-None-place_all-clause-verdict
returns-in-None-place_all-clause-verdict g c =
    undecided c.args.sheet.now c.in-Some.unplaced _ c.in-Some.ensures.set c.in-Some.ensures.outcome c.in-None-place_all.ensures.outcome

pub returns-clause-verdict : goal.returns-clause-verdict
returns-clause-verdict g c =
    impossible c.args.sheet.now c.in-Some.unplaced c.in-Some-place_all.below c.in-Some-place_all.ensures.set c.in-Some.ensures.outcome c.in-Some-place_all.ensures.outcome
