use Rattle.std.proofs.Common.{◌≡◌, true, false, not, sym, ◌∙◌, subst}
use Rattle.prta_audsley.specs.Verdict.{verdict}
use Rattle.prta_report.specs.Assignment.{assign_text}
use Rattle.prta_writer.specs.Assigning.{is_found}
use Rattle.prta_writer.specs.Writing.{Took, TookPart}
use Rattle.prta_cli.specs.Answer.{assigning}
use Rattle.prta_cli.specs.Ending.{EndsBy}
use Rattle.prta_cli.specs.declared.ending.Ending.TheVariants.{Done, No}
use Rattle.prta_cli.proofs.Refusals.{ends_done, ends_no, ends_cut, found_is, not_found_is, judged_serves}
use Rattle.prta_cli.proofs.commands.assign.Given as given
use Rattle.prta_cli.proofs.commands.assign.Goals as goal
use Rattle.prta_cli.proofs.commands.assign.Goals.{After-put_all}

-- what was put is the text of the verdict
text_is : (g : given.Over) (c : After-put_all g) → c.bytes.result.now ≡ assign_text c.args.sheet.now
text_is g c = c.bytes.ensures ∙ c.in-Ok.ensures.text

pub returns-in-Ok-put_all-clause-ends : goal.returns-in-Ok-put_all-clause-ends
returns-in-Ok-put_all-clause-ends g c =
    let a = g.O.Sink.taken c.args.out.now in
    let b = g.O.Sink.taken c.put_all.new.sink in
    let found : is_found (verdict c.args.sheet.now) ≡ true = sym c.in-Ok.ensures.found ∙ c.if-found.true in
    subst (λ answer. EndsBy Done answer a b) (sym (found_is (is_found (verdict c.args.sheet.now)) (assign_text c.args.sheet.now) found))
    (ends_done a b (assign_text c.args.sheet.now) (subst (Took a b) (text_is g (goal.at.returns-in-Ok-put_all-clause-ends g c).After-put_all) c.in-Ok-put_all.ensures.whole))

pub returns-in-Ok-2-clause-ends : goal.returns-in-Ok-2-clause-ends
returns-in-Ok-2-clause-ends g c =
    let a = g.O.Sink.taken c.args.out.now in
    let b = g.O.Sink.taken c.put_all.new.sink in
    let none : is_found (verdict c.args.sheet.now) ≡ false = sym c.in-Ok.ensures.found ∙ c.if-found.false in
    subst (λ answer. EndsBy No answer a b) (sym (not_found_is (is_found (verdict c.args.sheet.now)) (assign_text c.args.sheet.now) none))
    (ends_no a b (assign_text c.args.sheet.now) (subst (Took a b) (text_is g (goal.at.returns-in-Ok-2-clause-ends g c).After-put_all) c.in-Ok-2.ensures.whole))

pub returns-clause-ends : goal.returns-clause-ends
returns-clause-ends g c =
    let a = g.O.Sink.taken c.args.out.now in
    let b = g.O.Sink.taken c.put_all.new.sink in
    let serves = judged_serves (not (is_found (verdict c.args.sheet.now))) (assign_text c.args.sheet.now) in
    ends_cut a b (assigning c.args.sheet.now) serves.0
    (subst (TookPart a b) (text_is g (goal.at.returns-clause-ends g c).After-put_all ∙ sym serves.1) c.in-Err-put_all.ensures.part)
