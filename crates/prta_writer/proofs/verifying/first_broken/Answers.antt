use Rattle.std.proofs.Common.{◌≡◌, ◌<◌, length, ap, sym, ◌∙◌, arith}
use Rattle.prta_report.specs.Certificates.{stated_at, broken_in}
use Rattle.prta_writer.proofs.Stated.{whole_here, broken_here, stated_read}
use Rattle.prta_writer.proofs.verifying.first_broken.Given as given
use Rattle.prta_writer.proofs.verifying.first_broken.Goals as goal
use Rattle.prta_writer.proofs.verifying.first_broken.Goals.{After-broken_at}

low : (g : given.Over) (c : After-broken_at g) → c.loop-i.i < length c.args.sheet.now.tasks
low g c = omega (arith, c.loop-i-test.true, c.requires.stated.count)

-- what was tested is the level that is stated of the task
tested : (g : given.Over) (c : After-broken_at g) → c.broken_at.result ≡ broken_in c.args.sheet.now c.loop-i.i (stated_at c.args.levels.now c.loop-i.i)
tested g c = c.broken_at.ensures.broken ∙ ap (broken_in c.args.sheet.now c.loop-i.i) (stated_read c.args.levels.now c.loop-i.i c.index-levels-i.result c.loop-i-test.true c.index-levels-i.is)

pub returns-in-Some-clause-first : goal.returns-in-Some-clause-first
returns-in-Some-clause-first g c =
    let at = (goal.at.returns-in-Some-clause-first g c).After-broken_at in
    sym (c.loop-i.invariant.rest ∙ broken_here c.args.sheet.now c.args.levels.now c.loop-i.i (low g at) c.broken_at.result (tested g at) c.in-Some.at c.in-Some.is)

pub loop-i-preserved : goal.loop-i-preserved
loop-i-preserved g c =
    let at = (goal.at.loop-i-preserved g c).After-broken_at in
    record {
      rest = c.loop-i.invariant.rest ∙ whole_here c.args.sheet.now c.args.levels.now c.loop-i.i (low g at) c.broken_at.result (tested g at) c.in_default.is;
      fits = c.broken_at.ensures.fits;
    }
