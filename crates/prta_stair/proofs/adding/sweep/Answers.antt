use Rattle.std.proofs.Common.{ℕ, ◌+◌, arith, length, get_or, refl}
use Rattle.prta_stair.proofs.Marks.{first_more, first_mono}
use Rattle.prta_stair.proofs.Sweeps.{swept_none, swept_on, swept_same, swept_more, swept_all, swept_rests}
use Rattle.prta_stair.proofs.adding.sweep.Goals as goal
use Rattle.prta_stair.proofs.adding.sweep.Goals.{then-last-cell, else-last-cell}

pub loop-j-init : goal.loop-j-init
loop-j-init c = swept_none c.args.dir c.args.divisor.total c.args.marks.now c.args.first c.args.divisor.some c.args.to.now

pub loop-j-preserved-then-marks-j-eq0 : goal.loop-j-preserved-then-marks-j-eq0
loop-j-preserved-then-marks-j-eq0 c =
    swept_on c.args.dir c.args.divisor.total c.args.marks.now c.args.first c.args.divisor.some c.loop-j.j c.loop-j.sum c.loop-j.count c.loop-j.last c.loop-j.rounded c.loop-j.to c.loop-j.invariant c.loop-j-test.true c.if-marks-j-eq0.true

pub rounded_quotient-cell-requires : goal.rounded_quotient-cell-requires
rounded_quotient-cell-requires c =
    let marks = c.args.marks.now in
    let j = c.loop-j.j in
    omega (arith, c.loop-j.invariant.sum_is, first_more marks j c.loop-j-test.true, first_mono marks (j + 1) (length marks) (omega arith), c.requires.low)

pub loop-j-preserved : goal.loop-j-preserved
loop-j-preserved c =
    let dir = c.args.dir in
    let w = c.args.divisor.total in
    let marks = c.args.marks.now in
    let first = c.args.first in
    let j = c.loop-j.j in
    let cell = c.rounded_quotient-cell.result.0 in
    let rest = c.rounded_quotient-cell.result.1 in
    let more : ℕ = c.loop-j.sum + get_or marks j 0 in
    elim c.if-last-cell.branch [
      | then-last-cell w2 ↦
          let a = swept_more dir w marks first c.args.divisor.some j c.loop-j.sum c.loop-j.count c.loop-j.last c.loop-j.rounded c.loop-j.to c.loop-j.invariant c.loop-j-test.true more cell rest refl
          c.rounded_quotient-cell.ensures.cell c.rounded_quotient-cell.ensures.rest c.requires.low (omega (arith, c.loop-j.invariant.few, c.requires.inside, c.loop-j.auto.to, c.loop-j-test.true)) w2.if-last-cell.true in
          rw (w2.to-is, w2.count-is, w2.last-is) a
      | else-last-cell w2 ↦
          let a = swept_same dir w marks first c.args.divisor.some j c.loop-j.sum c.loop-j.count c.loop-j.last c.loop-j.rounded c.loop-j.to c.loop-j.invariant c.loop-j-test.true more cell rest refl
          c.rounded_quotient-cell.ensures.cell c.rounded_quotient-cell.ensures.rest w2.if-last-cell.false in
          rw (w2.to-is, w2.count-is, w2.last-is) a
    ]

pub returns-clause-made : goal.returns-clause-made
returns-clause-made c =
    swept_all c.args.dir c.args.divisor.total c.args.marks.now c.args.first c.args.divisor.some (length c.args.to.now) c.loop-j.j c.loop-j.sum c.loop-j.count c.loop-j.last c.loop-j.rounded c.loop-j.to
    (omega arith) c.requires.inside c.loop-j.invariant

pub returns-clause-rounded : goal.returns-clause-rounded
returns-clause-rounded c =
    swept_rests c.args.dir c.args.divisor.total c.args.marks.now c.args.first c.args.divisor.some (length c.args.to.now) c.loop-j.j c.loop-j.sum c.loop-j.count c.loop-j.last c.loop-j.rounded c.loop-j.to
    (omega arith) c.requires.inside c.loop-j.invariant
