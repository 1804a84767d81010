use Rattle.std.proofs.Common.{ap, arith}
use Rattle.prta_ledger.specs.LedgerState.{LedgerState}
use Rattle.prta_writer.proofs.tests.steps.desk_for.Goals as goal

pub returns-clause-entries : goal.returns-clause-entries
returns-clause-entries c = omega (arith, c.room_for.ensures, ap (λ (l : LedgerState). l.room) c.in_ok-ledger.ensures)

pub returns-clause-jobs : goal.returns-clause-jobs
returns-clause-jobs c = omega (arith, c.in_ok-bounds.ensures.len, c.most_jobs.ensures)
