use Rattle.std.proofs.Common.{rules, ◌≡◌, ℕ, ◌++◌, Some, None, option_map, List, codes, ap, sym, ◌∙◌, subst}
use Rattle.prta_sheet.specs.Sheet.{Sheet}
use Rattle.prta_certfile.specs.declared.level.CertLevel.{CertLevel}
use Rattle.prta_report.specs.Page.{PageParts}
use Rattle.prta_report.specs.Text.{broken_line}
use Rattle.prta_report.specs.Certificates.{name_of, stated_at, broken_in, broken_task, steady_text, verify_text}
use Rattle.prta_writer.specs.Verifying.{task_of}
use Rattle.prta_writer.specs.Writing.{Took, TookPart}
use Rattle.prta_writer.proofs.Stated.{text_of_broken, text_of_whole}
use Rattle.prta_writer.proofs.verifying.put_verify.Given as given
use Rattle.prta_writer.proofs.verifying.put_verify.Goals as goal
use Rattle.prta_writer.proofs.verifying.put_verify.Goals.{After-put_all, After-put_levels}

-- what was put is the text, where a list is broken
text_is : (g : given.Over) (c : After-put_all g) → c.bytes.result.now ≡ verify_text c.args.sheet.now c.args.certificate.now
text_is g c =
    let sheet : Sheet = c.args.sheet.now in
    let levels : List CertLevel = c.args.certificate.now in
    let i : ℕ = c.in-Some.broken.task in
    let head : c.push.new.self.written ≡ codes "prta verify 1\n" = ap (λ (p : PageParts). p.written) c.push.ensures ∙ ap (λ (p : PageParts). p.written ++ codes "prta verify 1\n") c.clear.ensures in
    let first : Some i ≡ broken_task sheet levels = sym (ap (option_map task_of) c.in-Some.is) ∙ c.first_broken.ensures.first ∙ ap (broken_task sheet) c.levels-levels.ensures in
    let there : broken_in sheet i (stated_at levels i) ≡ Some c.in-Some.broken.at = ap (λ all. broken_in sheet i (stated_at all i)) (sym c.levels-levels.ensures) ∙ c.in-Some.ensures.at in
    c.bytes.ensures ∙ c.broken_line.ensures.written ∙ ap (λ t. t ++ broken_line (name_of sheet i) c.in-Some.broken.at) head ∙ text_of_broken sheet levels i c.in-Some.broken.at first there

pub returns-in_err-put_all-clause-part : goal.returns-in_err-put_all-clause-part
returns-in_err-put_all-clause-part g c =
    let part : TookPart (g.O.Sink.taken c.args.out.now) (g.O.Sink.taken c.put_all.new.sink) (verify_text c.args.sheet.now c.args.certificate.now) =
    subst (TookPart (g.O.Sink.taken c.args.out.now) (g.O.Sink.taken c.put_all.new.sink)) (text_is g (goal.at.returns-in_err-put_all-clause-part g c).After-put_all) c.in_err-put_all.ensures.part in
    search (rules, part)

-- and where none is
steady_is : (g : given.Over) (c : After-put_levels g) → c.push.new.self.written ++ steady_text c.args.sheet.now c.levels-levels.result.now ≡ verify_text c.args.sheet.now c.args.certificate.now
steady_is g c =
    let sheet : Sheet = c.args.sheet.now in
    let levels : List CertLevel = c.args.certificate.now in
    let head : c.push.new.self.written ≡ codes "prta verify 1\n" = ap (λ (p : PageParts). p.written) c.push.ensures ∙ ap (λ (p : PageParts). p.written ++ codes "prta verify 1\n") c.clear.ensures in
    let none : None ≡ broken_task sheet levels = sym (ap (option_map task_of) c.in_default.is) ∙ c.first_broken.ensures.first ∙ ap (broken_task sheet) c.levels-levels.ensures in
    ap (λ t. t ++ steady_text sheet c.levels-levels.result.now) head ∙ ap (λ all. codes "prta verify 1\n" ++ steady_text sheet all) c.levels-levels.ensures ∙ text_of_whole sheet levels none

pub returns-in_err-put_levels-clause-part : goal.returns-in_err-put_levels-clause-part
returns-in_err-put_levels-clause-part g c =
    let part : TookPart (g.O.Sink.taken c.args.out.now) (g.O.Sink.taken c.put_levels.new.out) (verify_text c.args.sheet.now c.args.certificate.now) =
    subst (TookPart (g.O.Sink.taken c.args.out.now) (g.O.Sink.taken c.put_levels.new.out)) (steady_is g (goal.at.returns-in_err-put_levels-clause-part g c).After-put_levels) c.in_err-put_levels.ensures.part in
    search (rules, part)

pub returns-in-Some-clause-text : goal.returns-in-Some-clause-text
returns-in-Some-clause-text g c =
    subst (Took (g.O.Sink.taken c.args.out.now) (g.O.Sink.taken c.put_all.new.sink)) (text_is g (goal.at.returns-in-Some-clause-text g c).After-put_all) c.in_ok-put_all.ensures.whole

pub returns-clause-text : goal.returns-clause-text
returns-clause-text g c =
    subst (Took (g.O.Sink.taken c.args.out.now) (g.O.Sink.taken c.put_levels.new.out)) (steady_is g (goal.at.returns-clause-text g c).After-put_levels) c.in_ok-put_levels.ensures.text
