-- none of the jobs so far is released after now and before the event
use Rattle.prta_ticksim.specs.Serving.{IsNextEvent}
use Rattle.prta_ticksim.proofs.serving.next_event.Given as goal

abbrev pub invariant-loop-job : goal.invariant-loop-job
invariant-loop-job l = IsNextEvent l.jobs l.now l.limit l.job-index l.event
