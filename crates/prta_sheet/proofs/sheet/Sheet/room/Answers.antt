use Rattle.std.proofs.Common.{◌<◌, ◌≤◌, max, List, length, get_or, fold, ap, sym, subst, ◌∙◌, arith}
use Rattle.prta_mass.specs.Table.{Table, greatest}
use Rattle.prta_sheet.specs.declared.limits.TheConstants.{TIME_LIMIT}
use Rattle.prta_sheet.specs.Sheet.{Task, Sheet}
use Rattle.prta_sheet.proofs.AddedTicks.{greatest_low}
use Rattle.prta_sheet.proofs.sheet.Sheet.room.Goals as goal

pub overflow_sub-result : goal.overflow_sub-result
overflow_sub-result c =
    let tasks : List Task = c.self.inside.tasks.items in
    let low : c.args.task < length tasks = omega (arith, c.requires, ap (λ (sheet : Sheet). length sheet.tasks) c.self.view_is) in
    let tables = c.cycle.ensures ∙ ap (λ (task : Task). task.cycle) c.index.ensures in
    let result = c.greatest_of.ensures ∙ ap (λ (tables : List Table). fold (λ most table. max most (greatest table)) 0 tables) tables in
    subst (λ n. n ≤ TIME_LIMIT) (sym result) (greatest_low (get_or tasks c.args.task c.index.result.now) (c.self.invariant.0.tasks c.args.task c.index.result.now low).times)
