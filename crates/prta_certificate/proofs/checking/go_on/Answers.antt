-- The main curve is the image of the kept one, which is as the main curve was.
use Rattle.std.proofs.Common.{◌≡◌, refl, ap₂, sym, ◌∙◌, subst}
use Rattle.prta_mass.specs.Chances.{Dominates}
use Rattle.prta_dist.specs.Curve.{first_break}
use Rattle.prta_backlog.specs.Level.{sheet_level}
use Rattle.prta_certificate.specs.Certificate.{next_image}
use Rattle.prta_certificate.proofs.SheetLevels.{level_below}
use Rattle.prta_certificate.proofs.checking.go_on.Given as given
use Rattle.prta_certificate.proofs.checking.go_on.Goals as goal
use Rattle.prta_certificate.proofs.checking.go_on.Goals.{After-kept_break}

kept_is : (g : given.Over) (c : After-kept_break g) → g.C.Curve.cells c.image.new.bench.kept ≡ g.C.Curve.cells c.args.bench.now.main
kept_is g c = rw c.image.ensures.others c.keep.ensures.kept

main_is : (g : given.Over) (c : After-kept_break g) → g.C.Curve.cells c.image.new.bench.main ≡ next_image c.args.sheet.now.tasks (sheet_level c.args.task) (g.C.Curve.cells c.args.bench.now.main)
main_is g c =
    let same : g.C.Curve.cells c.keep.new.self.main ≡ g.C.Curve.cells c.args.bench.now.main = rw c.keep.ensures.others refl in
    c.image.ensures.image ∙ ap₂ (next_image c.args.sheet.now.tasks) (level_below c.below.result c.args.task c.below.ensures.members) same

pub returns-clause-first : goal.returns-clause-first
returns-clause-first g c =
    let at = (goal.at.returns-clause-first g c).After-kept_break in
    c.kept_break.ensures.first ∙ ap₂ first_break (kept_is g at) (main_is g at)

pub returns-clause-main : goal.returns-clause-main
returns-clause-main g c = main_is g (goal.at.returns-clause-main g c).After-kept_break

pub returns-clause-none : goal.returns-clause-none
returns-clause-none g c =
    let at = (goal.at.returns-clause-none g c).After-kept_break in (
      λ none. subst (λ cells. Dominates cells (next_image c.args.sheet.now.tasks (sheet_level c.args.task) (g.C.Curve.cells c.args.bench.now.main))) (kept_is g at)
          (subst (Dominates (g.C.Curve.cells c.image.new.bench.kept)) (main_is g at) (c.kept_break.ensures.none.0 none)),
      λ dominates. c.kept_break.ensures.none.1
          (subst (Dominates (g.C.Curve.cells c.image.new.bench.kept)) (sym (main_is g at))
          (subst (λ cells. Dominates cells (next_image c.args.sheet.now.tasks (sheet_level c.args.task) (g.C.Curve.cells c.args.bench.now.main))) (sym (kept_is g at)) dominates)),
    )
