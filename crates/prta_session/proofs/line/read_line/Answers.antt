use Rattle.std.proofs.Common.{◌<◌, length, arith}
use Rattle.prta_session.proofs.Sayings.{part_is_listed}
use Rattle.prta_session.proofs.line.read_line.Goals as goal

pub make_change-requires : goal.make_change-requires
make_change-requires c =
    let at = c.in-Ok-Some-Change-Some-default in
    let low : at.task < length c.args.tasks.now =
    part_is_listed c.args.tasks.now c.args.line.now at.field-0 at.field-0-0 at.field-0-0-0 at.task at.part at.ensures at.field-0-is at.field-0-0-is at.field-0-0-0-is in
    omega (arith, low, c.requires)
