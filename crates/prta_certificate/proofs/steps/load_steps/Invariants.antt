-- the main curve has the steps so far, and all else stays
use Rattle.std.proofs.Common.{◌≡◌, length, take}
use Rattle.prta_certfile.specs.Steps.{cells_by_steps}
use Rattle.prta_certificate.proofs.steps.load_steps.Given as goal

abbrev pub invariant-loop-place : goal.invariant-loop-place
invariant-loop-place g l = record {
  main : g.C.Curve.cells l.bench.main ≡ cells_by_steps (length (g.C.Curve.cells l.fn.bench.main)) (take l.place-index l.steps);
  others : l.bench ≡ record l.fn.bench { main = l.bench.main };
}
