use Rattle.prta_report.proofs.RunsInTurn.{runs_are_longest}
use Rattle.prta_report.proofs.model.runs_are_longest.Goals as goal

pub returns : goal.returns
returns c = runs_are_longest
