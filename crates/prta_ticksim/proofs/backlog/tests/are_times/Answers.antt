use Rattle.std.proofs.Common.{ℕ, ◌≤◌, List, All, length, subst, arith}
use Rattle.std.proofs.lemmas.List.{take_all}
use Rattle.std.proofs.lemmas.List.Elements.{All-more}
use Rattle.prta_ticksim.specs.Times.{IsTime}
use Rattle.prta_ticksim.proofs.backlog.tests.are_times.Goals as goal

pub loop-time-preserved : goal.loop-time-preserved
loop-time-preserved c = All-more IsTime c.args.times.now c.loop-time.time-index 0 c.loop-time-test.true c.loop-time.invariant (omega arith, omega arith)

pub returns : goal.returns
returns c = λ answer.
    let past : length c.args.times.now ≤ c.loop-time.time-index = omega arith in
    let AreTimes : List ℕ → Type 0 = All IsTime in
    subst AreTimes (take_all c.loop-time.time-index c.args.times.now past) c.loop-time.invariant
