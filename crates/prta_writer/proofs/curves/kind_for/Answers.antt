use Rattle.std.proofs.Common.{◌≡◌, Some, ap, sym, ◌∙◌}
use Rattle.prta_sheet.specs.declared.settings.Settings.{Settings}
use Rattle.prta_writer.specs.Curves.{has_few_points}
use Rattle.prta_writer.proofs.Fitting.{kind_few}
use Rattle.prta_writer.proofs.curves.kind_for.Goals as goal
use Rattle.prta_writer.proofs.curves.kind_for.Goals.{After-has_few_points}

-- the support that the sheet asks for
asked_is : (c : After-has_few_points) → c.args.sheet.now.settings.support ≡ Some c.in-Some.support
asked_is c = sym (ap (λ (s : Settings). s.support) c.settings.ensures.settings) ∙ c.in-Some.is

-- and whether it has few points
few_is : (c : After-has_few_points) → c.has_few_points.result ≡ has_few_points c.in-Some.support c.args.sheet.now.settings.cap
few_is c = c.has_few_points.ensures ∙ ap (has_few_points c.in-Some.support) c.cap.ensures

pub returns-in-Some : goal.returns-in-Some
returns-in-Some c =
    let here = (goal.at.returns-in-Some c).After-has_few_points in
    sym (kind_few c.args.sheet.now.settings.cap c.args.sheet.now.settings.support c.in-Some.support _ (asked_is here) (sym c.if-has_few_points.true ∙ few_is here))

pub returns-in_default : goal.returns-in_default
returns-in_default c =
    let here = (goal.at.returns-in_default c).After-has_few_points in
    sym (kind_few c.args.sheet.now.settings.cap c.args.sheet.now.settings.support c.in-Some.support _ (asked_is here) (sym c.if-has_few_points.false ∙ few_is here))
