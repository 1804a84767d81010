use Rattle.std.proofs.Common.{ap, ◌∙◌, append_assoc}
use Rattle.prta_report.specs.Page.{PageParts}
use Rattle.prta_report.specs.Text.{count_line}
use Rattle.prta_report.proofs.analysis.push_count.Goals as goal

pub returns-clause-written : goal.returns-clause-written
unfolding count_line
returns-clause-written c =
    let written = λ (page : PageParts). page.written in
    ap written c.push-3.ensures
    ∙ rw (c.push_number-2.ensures.written, ap written c.push-2.ensures, c.push_number.ensures.written, ap written c.push.ensures) (simp append_assoc)
