use Rattle.prta_backlog.specs.Pass.{level_of}
use Rattle.prta_tail.proofs.WalkSteps.{ends_low_at, ends_high}
use Rattle.prta_tail.proofs.walking.ends_low.Goals as goal

pub returns-in-Some : goal.returns-in-Some
returns-in-Some c = ends_low_at c.args.sheet.now.tasks (level_of c.args.higher c.args.task) c.args.ratio c.in-Some.number c.in-Some.ensures

pub returns-in-None : goal.returns-in-None
returns-in-None c = ends_high c.args.sheet.now.tasks (level_of c.args.higher c.args.task) c.args.ratio c.in-None.ensures
