-- A release keeps what is known of the walk.
use Rattle.std.proofs.Common.{subst}
use Rattle.prta_tail.specs.Walk.{IsWalk}
use Rattle.prta_tail.proofs.WalkSteps.{released_high}
use Rattle.prta_tail.proofs.walking.release.Goals as goal

pub returns-in-Some : goal.returns-in-Some
returns-in-Some c walk is = c.release_from.ensures walk (subst (IsWalk walk) c.in-Some.is is)

pub returns-in-None : goal.returns-in-None
returns-in-None c walk is = released_high c.args.ratio c.args.table.now walk (subst (IsWalk walk) c.in-None.is is)
