-- each time so far is in its job's table
use Rattle.std.proofs.Common.{◌≡◌, ℕ, ◌<◌, false}
use Rattle.prta_ticksim.specs.Start.{is_foreign}
use Rattle.prta_ticksim.proofs.TimedJobs.{timed_at}
use Rattle.prta_ticksim.proofs.starting.first_foreign.Given as goal

abbrev pub invariant-loop-i : goal.invariant-loop-i
invariant-loop-i l = (k : ℕ) → k < l.i → is_foreign l.tasks (timed_at l.jobs l.times k) ≡ false
