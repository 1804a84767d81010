use Rattle.std.proofs.Common.{◌≡◌, true, false, is_none, sym, ◌∙◌, subst}
use Rattle.prta_report.specs.Certificates.{verify_text, broken_task}
use Rattle.prta_cli.specs.Ending.{EndsBy}
use Rattle.prta_cli.specs.declared.ending.Ending.TheVariants.{Done, No}
use Rattle.prta_cli.proofs.Refusals.{ends_done, ends_no, yes_is, no_is}
use Rattle.prta_cli.proofs.commands.verify_levels.Goals as goal

pub returns-in-Ok-true-clause-ends : goal.returns-in-Ok-true-clause-ends
returns-in-Ok-true-clause-ends g c =
    let a = g.O.Sink.taken c.args.out.now in
    let b = g.O.Sink.taken c.write_verify.new.out in
    let yes : true ≡ is_none (broken_task c.args.sheet.now c.args.certificate.now) = sym c.in-Ok-true.field-0-test ∙ c.in-Ok-true.ensures.yes in
    subst (λ answer. EndsBy Done answer a b) (sym (yes_is (broken_task c.args.sheet.now c.args.certificate.now) (verify_text c.args.sheet.now c.args.certificate.now) yes)) (ends_done a b (verify_text c.args.sheet.now c.args.certificate.now) c.in-Ok-true.ensures.text)

pub returns-in-Ok-false-clause-ends : goal.returns-in-Ok-false-clause-ends
returns-in-Ok-false-clause-ends g c =
    let a = g.O.Sink.taken c.args.out.now in
    let b = g.O.Sink.taken c.write_verify.new.out in
    let none : false ≡ is_none (broken_task c.args.sheet.now c.args.certificate.now) = sym c.in-Ok-false.field-0-test ∙ c.in-Ok-false.ensures.yes in
    subst (λ answer. EndsBy No answer a b) (sym (no_is (broken_task c.args.sheet.now c.args.certificate.now) (verify_text c.args.sheet.now c.args.certificate.now) none)) (ends_no a b (verify_text c.args.sheet.now c.args.certificate.now) c.in-Ok-false.ensures.text)
