-- the base list before the place, and its cell before it from there on
use Rattle.std.proofs.Common.{◌≡◌, ◌-◌, length}
use Rattle.prta_tail.specs.Tail.{shrunk}
use Rattle.prta_tail.proofs.Loads.{IsLoaded}
use Rattle.prta_tail.proofs.loading.load_tail.Given as goal

abbrev pub invariant-loop-place : goal.invariant-loop-place
invariant-loop-place g l = record {
  others : l.bench ≡ record l.fn.bench { main = l.bench.main };
  loaded : IsLoaded l.ratio l.worst (length (g.C.Curve.cells l.fn.bench.main)) l.place (g.C.Curve.cells l.bench.main);
  tail_is : l.tail ≡ shrunk l.ratio (l.place - l.worst);
}
