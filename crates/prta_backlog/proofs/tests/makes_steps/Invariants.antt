-- the pass keeps its level
use Rattle.std.proofs.Common.{◌≡◌, false}
use Rattle.prta_jobs.specs.TaskSet.{holds}
use Rattle.prta_jobs.specs.Instant.{IsOnSheet}
use Rattle.prta_backlog.specs.Level.{has_task}
use Rattle.prta_backlog.specs.Pass.{pass_level}
use Rattle.prta_backlog.proofs.tests.makes_steps.Given as goal

abbrev pub invariant-loop : goal.invariant-loop
invariant-loop g l = IsOnSheet l.sheet.tasks (has_task (pass_level l.pass)) × (holds l.pass.higher l.pass.task ≡ false)
