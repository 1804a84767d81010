use Rattle.std.proofs.Common.{◌≢◌, ◌-◌, ◌<◌, length, arith}
use Rattle.prta_stair.specs.Steps.{place}
use Rattle.prta_stair.proofs.Putting.{put_behind, put_over_last, strictly, behind}
use Rattle.prta_stair.proofs.setting.put.Goals as goal
use Rattle.prta_stair.proofs.setting.put.Goals.{else-count-gt0-via-then-count-gt0+else-to-count, else-count-gt0-via-else-count-gt0}

pub returns-then-to-count-clause-put : goal.returns-then-to-count-clause-put
returns-then-to-count-clause-put c =
    put_over_last (length c.args.to.now) c.args.to.now c.args.count c.args.at c.args.value c.if-count-gt0.true c.requires.count c.requires.steps c.requires.room c.requires.low c.requires.before c.if-to-count.true

pub bounds-to-count-2 : goal.bounds-to-count-2
bounds-to-count-2 c =
    let other : 0 < c.args.count → place c.args.to.now (c.args.count - 1) ≢ c.args.at = λ some. elim c.else-count-gt0.branch [
      | else-count-gt0-via-then-count-gt0+else-to-count w ↦ w.if-to-count.false
      | else-count-gt0-via-else-count-gt0 w ↦ absurd (omega (arith, some, w.if-count-gt0.false))
    ] in
    omega (arith, behind (length c.args.to.now) c.args.to.now c.args.count c.args.at c.args.value c.requires.count c.requires.steps c.requires.room c.requires.low c.requires.before other, c.requires.room)

pub returns-clause-room : goal.returns-clause-room
returns-clause-room c =
    let other : 0 < c.args.count → place c.args.to.now (c.args.count - 1) ≢ c.args.at = λ some. elim c.else-count-gt0.branch [
      | else-count-gt0-via-then-count-gt0+else-to-count w ↦ w.if-to-count.false
      | else-count-gt0-via-else-count-gt0 w ↦ absurd (omega (arith, some, w.if-count-gt0.false))
    ] in
    omega (arith, behind (length c.args.to.now) c.args.to.now c.args.count c.args.at c.args.value c.requires.count c.requires.steps c.requires.room c.requires.low c.requires.before other, c.requires.room)

pub returns-clause-put : goal.returns-clause-put
returns-clause-put c =
    let other : 0 < c.args.count → place c.args.to.now (c.args.count - 1) ≢ c.args.at = λ some. elim c.else-count-gt0.branch [
      | else-count-gt0-via-then-count-gt0+else-to-count w ↦ w.if-to-count.false
      | else-count-gt0-via-else-count-gt0 w ↦ absurd (omega (arith, some, w.if-count-gt0.false))
    ] in
    put_behind (length c.args.to.now) c.args.to.now c.args.count c.args.at c.args.value c.requires.count c.requires.steps c.requires.room c.requires.low
    (omega (arith, behind (length c.args.to.now) c.args.to.now c.args.count c.args.at c.args.value c.requires.count c.requires.steps c.requires.room c.requires.low c.requires.before other, c.requires.room))
    c.requires.some (strictly (length c.args.to.now) c.args.to.now c.args.count c.args.at c.args.value c.requires.count c.requires.steps c.requires.room c.requires.low c.requires.before other)
