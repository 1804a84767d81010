use Rattle.std.proofs.Common.{◌≡◌, true, false, is_some, is_none, sym, ◌∙◌, subst}
use Rattle.prta_dual.specs.Failing.{failing_job}
use Rattle.prta_report.specs.Slacks.{slack_text}
use Rattle.prta_writer.specs.Writing.{Took, TookPart}
use Rattle.prta_cli.specs.Answer.{slacking}
use Rattle.prta_cli.specs.Ending.{EndsBy}
use Rattle.prta_cli.specs.declared.ending.Ending.TheVariants.{Done, No}
use Rattle.prta_cli.proofs.Refusals.{ends_done, ends_no, ends_cut, yes_is, no_is, judged_serves}
use Rattle.prta_cli.proofs.commands.slack.Given as given
use Rattle.prta_cli.proofs.commands.slack.Goals as goal
use Rattle.prta_cli.proofs.commands.slack.Goals.{After-put_all}

-- what was put is the text of the slacks
text_is : (g : given.Over) (c : After-put_all g) → c.bytes.result.now ≡ slack_text c.args.sheet.now
text_is g c = c.bytes.ensures ∙ c.in-Ok.ensures.text

pub returns-in-Ok-put_all-clause-ends : goal.returns-in-Ok-put_all-clause-ends
returns-in-Ok-put_all-clause-ends g c =
    let a = g.O.Sink.taken c.args.out.now in
    let b = g.O.Sink.taken c.put_all.new.sink in
    let passes : true ≡ is_none (failing_job c.args.sheet.now) = sym c.if-passes.true ∙ c.in-Ok.ensures.passes in
    subst (λ answer. EndsBy Done answer a b) (sym (yes_is (failing_job c.args.sheet.now) (slack_text c.args.sheet.now) passes))
    (ends_done a b (slack_text c.args.sheet.now) (subst (Took a b) (text_is g (goal.at.returns-in-Ok-put_all-clause-ends g c).After-put_all) c.in-Ok-put_all.ensures.whole))

pub returns-in-Ok-2-clause-ends : goal.returns-in-Ok-2-clause-ends
returns-in-Ok-2-clause-ends g c =
    let a = g.O.Sink.taken c.args.out.now in
    let b = g.O.Sink.taken c.put_all.new.sink in
    let fails : false ≡ is_none (failing_job c.args.sheet.now) = sym c.if-passes.false ∙ c.in-Ok.ensures.passes in
    subst (λ answer. EndsBy No answer a b) (sym (no_is (failing_job c.args.sheet.now) (slack_text c.args.sheet.now) fails))
    (ends_no a b (slack_text c.args.sheet.now) (subst (Took a b) (text_is g (goal.at.returns-in-Ok-2-clause-ends g c).After-put_all) c.in-Ok-2.ensures.whole))

pub returns-clause-ends : goal.returns-clause-ends
returns-clause-ends g c =
    let a = g.O.Sink.taken c.args.out.now in
    let b = g.O.Sink.taken c.put_all.new.sink in
    let serves = judged_serves (is_some (failing_job c.args.sheet.now)) (slack_text c.args.sheet.now) in
    ends_cut a b (slacking c.args.sheet.now) serves.0
    (subst (TookPart a b) (text_is g (goal.at.returns-clause-ends g c).After-put_all ∙ sym serves.1) c.in-Err-put_all.ensures.part)
