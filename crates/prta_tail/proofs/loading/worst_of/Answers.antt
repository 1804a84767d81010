use Rattle.std.proofs.Common.{ap, ◌∙◌}
use Rattle.prta_backlog.specs.Greatest.{worst_backlog}
use Rattle.prta_certificate.proofs.SheetLevels.{level_below}
use Rattle.prta_tail.proofs.loading.worst_of.Goals as goal

pub returns : goal.returns
returns c = c.worst_backlog.ensures.worst ∙ ap (worst_backlog c.args.sheet.now.tasks) (level_below c.below.result c.args.task c.below.ensures.members)
