use Rattle.std.proofs.Common.{◌≡◌, ◌+◌, ◌∙◌, ap, arith, length, take}
use Rattle.prta_times.specs.Counts.{counted}
use Rattle.prta_times.specs.Parts.{with_count}
use Rattle.prta_times.proofs.Counting.{counted_next, too_long}
use Rattle.prta_times.proofs.tallies.tally_of.Goals as goal

pub returns-then-len-most : goal.returns-then-len-most
returns-then-len-most c =
    let name = c.args.name.now in
    let counts = c.args.counts.now in
    let i = c.loop-count.count-index in
    let next : c.add_count.new.tally ≡ counted name (take (i + 1) counts) =
    c.in_ok-add_count.ensures.added ∙ ap (λ table. with_count name table c.count-item.result) c.loop-count.invariant.times ∙ counted_next name counts i c.count-item.result c.loop-count-test.true c.count-item.is in
    too_long name counts i c.count-item.result c.loop-count-test.true c.count-item.is c.args.most (omega (arith, c.if-len-most.true, c.len.ensures, ap length next))

pub loop-count-preserved : goal.loop-count-preserved
loop-count-preserved c =
    let name = c.args.name.now in
    let counts = c.args.counts.now in
    let i = c.loop-count.count-index in
    record {
      times = c.in_ok-add_count.ensures.added ∙ ap (λ table. with_count name table c.count-item.result) c.loop-count.invariant.times ∙ counted_next name counts i c.count-item.result c.loop-count-test.true c.count-item.is;
      few = omega (arith, c.if-len-most.false, c.len.ensures);
      fits = omega (arith, c.in_ok-add_count.ensures.grows, c.loop-count.invariant.fits);
    }
