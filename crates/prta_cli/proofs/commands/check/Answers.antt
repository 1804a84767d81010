use Rattle.std.proofs.Common.{◌≡◌, true, false, is_none, sym, ◌∙◌, subst}
use Rattle.prta_dual.specs.Failing.{failing_job}
use Rattle.prta_report.specs.Analysis.{check_text}
use Rattle.prta_cli.specs.Ending.{EndsBy}
use Rattle.prta_cli.specs.declared.ending.Ending.TheVariants.{Done, No}
use Rattle.prta_cli.proofs.Refusals.{ends_done, ends_no, yes_is, no_is}
use Rattle.prta_cli.proofs.commands.check.Goals as goal

pub returns-in-Ok-true-clause-ends : goal.returns-in-Ok-true-clause-ends
returns-in-Ok-true-clause-ends g c =
    let a = g.O.Sink.taken c.args.out.now in
    let b = g.O.Sink.taken c.write_check.new.out in
    let yes : true ≡ is_none (failing_job c.args.sheet.now) = sym c.in-Ok-true.field-0-test ∙ c.in-Ok-true.ensures.yes in
    subst (λ answer. EndsBy Done answer a b) (sym (yes_is (failing_job c.args.sheet.now) (check_text c.args.sheet.now) yes)) (ends_done a b (check_text c.args.sheet.now) c.in-Ok-true.ensures.text)

pub returns-in-Ok-false-clause-ends : goal.returns-in-Ok-false-clause-ends
returns-in-Ok-false-clause-ends g c =
    let a = g.O.Sink.taken c.args.out.now in
    let b = g.O.Sink.taken c.write_check.new.out in
    let none : false ≡ is_none (failing_job c.args.sheet.now) = sym c.in-Ok-false.field-0-test ∙ c.in-Ok-false.ensures.yes in
    subst (λ answer. EndsBy No answer a b) (sym (no_is (failing_job c.args.sheet.now) (check_text c.args.sheet.now) none)) (ends_no a b (check_text c.args.sheet.now) c.in-Ok-false.ensures.text)
