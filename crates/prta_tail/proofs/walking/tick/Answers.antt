-- A tick keeps what is known of the walk.
use Rattle.std.proofs.Common.{sym, subst}
use Rattle.prta_tail.specs.Walk.{StandsAt, IsWalk, after_tick}
use Rattle.prta_tail.proofs.Proper.{proper}
use Rattle.prta_tail.proofs.WalkSteps.{ticked, ticked_high}
use Rattle.prta_tail.proofs.walking.tick.Goals as goal

pub returns-in-Some : goal.returns-in-Some
returns-in-Some c walk is =
    let stands : StandsAt walk c.in-Some.number = subst (IsWalk walk) c.in-Some.is is in
    subst (StandsAt (after_tick c.args.ratio walk)) (sym c.scaled.ensures) (ticked c.args.ratio (proper c.args.ratio c.requires.listed) walk c.in-Some.number stands)

pub returns-in-None : goal.returns-in-None
returns-in-None c walk is = ticked_high c.args.ratio walk (subst (IsWalk walk) c.in-None.is is)
