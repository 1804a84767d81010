use Rattle.std.proofs.Common.{◌≡◌, ℕ, ◌+◌, ◌-◌, ◌≤◌, ◌++◌, false, nat_lt, unwrap_or, [], length, ap, ◌∙◌, arith}
use Rattle.std.proofs.lemmas.Bool.{le-ltb}
use Rattle.prta_sheet.specs.Sheet.{Sheet}
use Rattle.prta_ledger.specs.LedgerState.{LedgerState}
use Rattle.prta_backlog.specs.Level.{sheet_level}
use Rattle.prta_backlog.specs.Room.{room_for}
use Rattle.prta_dual.specs.Entries.{entries}
use Rattle.prta_writer.proofs.rows.analyse.Given as given
use Rattle.prta_writer.proofs.rows.analyse.Goals as goal
use Rattle.prta_writer.proofs.rows.analyse.Goals.{After-analyse_into}

noted : (g : given.Over) (c : After-analyse_into g) → c.analyse_into.new.notes.entries ≡ entries c.args.sheet.now (sheet_level c.args.task)
noted g c =
    let all : c.analyse_into.new.notes.entries ≡ c.clear.new.self.entries ++ entries c.args.sheet.now (sheet_level c.args.task) = ap (λ noted. unwrap_or noted []) c.analyse_into.ensures.noted in
    all ∙ ap (λ (ledger : LedgerState). ledger.entries ++ entries c.args.sheet.now (sheet_level c.args.task)) c.clear.ensures

pub returns-clause-noted : goal.returns-clause-noted
returns-clause-noted g c = noted g (goal.at.returns-clause-noted g c).After-analyse_into

pub returns-clause-room : goal.returns-clause-room
returns-clause-room g c =
    let sheet : Sheet = c.args.sheet.now in
    let more : ℕ = length (entries sheet (sheet_level c.args.task)) in
    let enough : more + 26 ≤ room_for sheet = c.entries_have_room.ensures sheet (sheet_level c.args.task) c.tasks-tasks.ensures.accepted c.requires.task apart in
    omega (arith, c.analyse_into.ensures.room, enough, c.requires.entries, ap (λ (ledger : LedgerState). ledger.room) c.clear.ensures, ap (λ (ledger : LedgerState). length ledger.entries) c.clear.ensures, ap length (noted g (goal.at.returns-clause-room g c).After-analyse_into))
  where
    apart : nat_lt c.args.task c.args.task ≡ false
    apart = le-ltb c.args.task c.args.task (omega arith)
