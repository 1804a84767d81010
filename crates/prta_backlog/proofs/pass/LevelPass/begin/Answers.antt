use Rattle.std.proofs.Common.{length, ap, ◌∙◌}
use Rattle.prta_backlog.proofs.Chances.{size_point}
use Rattle.prta_backlog.proofs.pass.LevelPass.begin.Goals as goal

pub returns-clause-cap : goal.returns-clause-cap
returns-clause-cap g c = ap length c.point.ensures.cells ∙ size_point (length (g.C.Curve.cells c.args.bench.now.main)) 0
