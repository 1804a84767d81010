use Rattle.std.proofs.Common.{ap, ◌∙◌, append_assoc}
use Rattle.prta_report.specs.Page.{PageParts}
use Rattle.prta_report.specs.Text.{certified_line}
use Rattle.prta_report.proofs.certificate.push_certified.Goals as goal

pub returns-clause-written : goal.returns-clause-written
unfolding certified_line
returns-clause-written c =
    let written = λ (page : PageParts). page.written in
    ap written c.push-3.ensures ∙ rw (ap written c.push-2.ensures, ap written c.push.ensures, c.as_bytes.ensures.value) (simp append_assoc)
