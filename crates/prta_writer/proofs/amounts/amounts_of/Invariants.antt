-- the amounts of the tasks so far
use Rattle.std.proofs.Common.{◌≡◌, ◌≤◌, vec_len}
use Rattle.prta_backlog.specs.Fitting.{FitsCap}
use Rattle.prta_writer.specs.Amounts.{amounts_of, AreSmall}
use Rattle.prta_writer.proofs.amounts.amounts_of.Given as goal

abbrev pub invariant-loop-i : goal.invariant-loop-i
invariant-loop-i g l = record {
  amounts : l.amounts ≡ amounts_of l.sheet l.i;
  small : AreSmall l.i l.amounts;
  fits : FitsCap l.sheet.settings.cap (g.C.Curve.cells l.bench.main) (g.C.Curve.cells l.bench.spare) (g.C.Curve.cells l.bench.kept)
      (vec_len l.bench.cells) (vec_len l.bench.tail) (vec_len l.bench.room);
  entries : l.fn.desk.ledger.room ≤ l.desk.ledger.room;
  jobs : vec_len l.desk.bounds ≡ vec_len l.fn.desk.bounds;
  page : l.desk.page ≡ l.fn.desk.page;
}
