-- the steps of the cells so far, and the last of these
use Rattle.prta_certificate.proofs.Stepping.{Taken}
use Rattle.prta_certificate.proofs.steps.take_steps.Given as goal

abbrev pub invariant-loop-place : goal.invariant-loop-place
invariant-loop-place g l = Taken (g.C.Curve.cells l.bench.main) l.place l.steps l.value
