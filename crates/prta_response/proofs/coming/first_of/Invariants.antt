use Rattle.std.proofs.Common.{◌≡◌, ℕ, ◌<◌, false}
use Rattle.prta_jobs.specs.TaskSet.{holds}
use Rattle.prta_response.proofs.coming.first_of.Given as goal

abbrev pub invariant-loop-i : goal.invariant-loop-i
invariant-loop-i l = (k : ℕ) → k < l.i → holds l.set k ≡ false
