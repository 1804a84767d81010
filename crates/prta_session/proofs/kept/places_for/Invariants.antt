-- places for the tasks so far
use Rattle.prta_session.specs.Kept.{HavePlaces}
use Rattle.prta_session.proofs.kept.places_for.Given as goal

abbrev pub invariant-loop-task : goal.invariant-loop-task
invariant-loop-task l = HavePlaces l.sheet l.found.items l.task
