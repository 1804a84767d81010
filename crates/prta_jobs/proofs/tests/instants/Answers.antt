use Rattle.std.proofs.Common.{length, ap, ◌∙◌, arith}
use Rattle.std.proofs.lemmas.Bool.{lt-ltb}
use Rattle.prta_jobs.proofs.tests.instants.Goals as goal

pub has_instants-requires-clause-some : goal.has_instants-requires-clause-some
has_instants-requires-clause-some g c = (0, c.below-level.ensures.members 0 ∙ lt-ltb 0 _ (omega (arith, ap length c.tasks.ensures.tasks, c.tasks.ensures.accepted.some)))

pub has_instants-requires-2-clause-some : goal.has_instants-requires-2-clause-some
has_instants-requires-2-clause-some g c = (1, c.with-second.ensures.members 1)
