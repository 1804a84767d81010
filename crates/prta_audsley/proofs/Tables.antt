-- The tables of an accepted sheet.
use Rattle.std.proofs.Common.{◌<◌, length, All}
use Rattle.std.proofs.lemmas.List.Elements.{All-weaker}
use Rattle.prta_mass.specs.Table.{IsTable}
use Rattle.prta_sheet.specs.Sheet.{Sheet}
use Rattle.prta_sheet.specs.Accepted.{IsTask, IsAccepted}
use Rattle.prta_backlog.specs.Laws.{HaveTables}

pub have_tables : (sheet : Sheet) → IsAccepted sheet → HaveTables sheet.tasks
have_tables sheet is = record {
  some = All-weaker (IsTask sheet.settings.cap) (λ task. 0 < length task.cycle) (λ task ranges. ranges.cycle_low) sheet.tasks is.tasks;
  tables = All-weaker (IsTask sheet.settings.cap) (λ task. All IsTable task.cycle) (λ task ranges. ranges.tables) sheet.tasks is.tasks;
}
