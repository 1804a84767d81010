use Rattle.std.proofs.Common.{◌∙◌, sym, arith}
use Rattle.prta_times.proofs.GoodRows.{good_next, counts_next, bad_here, all_good}
use Rattle.prta_times.proofs.rows.counts_of.Goals as goal

pub returns-in-None-clause-refused : goal.returns-in-None-clause-refused
returns-in-None-clause-refused c = λ other.
    bad_here c.args.rows.now c.loop-i.i c.index-rows-i.result c.loop-i-test.true c.index-rows-i.is (sym c.in-None.is ∙ c.in_ok-count.ensures) c.loop-i.invariant.good

pub loop-i-preserved : goal.loop-i-preserved
loop-i-preserved c =
    let rows = c.args.rows.now in
    let i = c.loop-i.i in
    let row = c.index-rows-i.result in
    let e = sym c.in-Some.is ∙ c.in_ok-count.ensures in
    record {
      counts = c.in_ok-push-in-Some.ensures.items ∙ counts_next rows i row c.loop-i-test.true c.index-rows-i.is c.loop-i.counts.items c.in-Some.count e c.loop-i.invariant.counts;
      good = good_next rows i row c.loop-i-test.true c.index-rows-i.is c.in-Some.count e c.loop-i.invariant.good;
    }

pub returns-clause-accepted : goal.returns-clause-accepted
returns-clause-accepted c = λ ok. all_good c.args.rows.now (λ k low. c.loop-i.invariant.good k (omega arith))
