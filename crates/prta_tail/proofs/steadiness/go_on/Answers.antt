use Rattle.std.proofs.Common.{ap, ◌∙◌}
use Rattle.prta_backlog.specs.Level.{Level}
use Rattle.prta_certificate.specs.Certificate.{next_image}
use Rattle.prta_certificate.proofs.SheetLevels.{level_below}
use Rattle.prta_tail.proofs.steadiness.go_on.Goals as goal

pub returns-clause-main : goal.returns-clause-main
returns-clause-main g c =
    c.image.ensures.image ∙ ap (λ (level : Level). next_image c.args.sheet.now.tasks level (g.C.Curve.cells c.args.bench.now.main)) (level_below c.below.result c.args.task c.below.ensures.members)
