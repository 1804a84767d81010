use Rattle.std.proofs.Common.{ap, ◌∙◌, append_assoc}
use Rattle.prta_report.specs.Page.{PageParts}
use Rattle.prta_report.specs.Text.{size_line}
use Rattle.prta_report.proofs.bench.size_line.Goals as goal

pub returns-clause-written : goal.returns-clause-written
unfolding size_line
returns-clause-written c =
    let written = λ (page : PageParts). page.written in
    ap written c.push-5.ensures
    ∙ rw (c.push_number-3.ensures.written, ap written c.push-4.ensures, c.push_sum.ensures.written, ap written c.push-3.ensures, c.push_number-2.ensures.written, ap written c.push-2.ensures, c.push_number.ensures.written, ap written c.push.ensures) (simp append_assoc)
