use Rattle.std.proofs.Common.{ap, ◌∙◌, append_assoc}
use Rattle.prta_report.specs.Page.{PageParts}
use Rattle.prta_report.specs.Text.{sums_line}
use Rattle.prta_report.proofs.bench.sums_line.Goals as goal

pub returns-clause-written : goal.returns-clause-written
unfolding sums_line
returns-clause-written c =
    let written = λ (page : PageParts). page.written in
    ap written c.push-3.ensures
    ∙ rw (c.push_sum-2.ensures.written, ap written c.push-2.ensures, c.push_sum.ensures.written, ap written c.push.ensures) (simp append_assoc)
