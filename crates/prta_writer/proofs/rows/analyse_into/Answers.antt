use Rattle.std.proofs.Common.{◌≡◌, ℕ, ◌+◌, ◌≤◌, ◌++◌, Bool, take, drop, List, length, ap, sym, ◌∙◌, subst}
use Rattle.std.proofs.Math.Path.{fun_ext}
use Rattle.std.proofs.Math.Seq.{take-append_seam}
use Rattle.prta_sheet.specs.Sheet.{Sheet}
use Rattle.prta_ledger.specs.Noted.{appended}
use Rattle.prta_backlog.specs.Level.{Level, sheet_level}
use Rattle.prta_backlog.specs.Pass.{level_of}
use Rattle.prta_dual.specs.declared.bounds.Bounds.{Bounds}
use Rattle.prta_dual.specs.Numbers.{all_bounds}
use Rattle.prta_dual.specs.Entries.{entries}
use Rattle.prta_writer.proofs.RowsInTurn.{count_found}
use Rattle.prta_writer.proofs.rows.analyse_into.Given as given
use Rattle.prta_writer.proofs.rows.analyse_into.Goals as goal
use Rattle.prta_writer.proofs.rows.analyse_into.Goals.{After-analyse_task}

-- the tasks before one are those below its number
level_is : (g : given.Over) (c : After-analyse_task g) → level_of c.below-higher.result c.args.task ≡ sheet_level c.args.task
level_is g c = ap (λ (higher : ℕ → Bool). record { higher = higher; own = c.args.task }) (fun_ext c.below-higher.ensures.members)

pub returns-clause-numbers : goal.returns-clause-numbers
returns-clause-numbers g c =
    let sheet : Sheet = c.args.sheet.now in
    let found : c.analyse_task.new.found ≡ all_bounds sheet (sheet_level c.args.task) =
    c.analyse_task.ensures.numbers ∙ ap (all_bounds sheet) (level_is g (goal.at.returns-clause-numbers g c).After-analyse_task) in
    let rest : List Bounds = drop c.job_count-count.result c.args.places.now in
    ap (λ n. take n (c.analyse_task.new.found ++ rest)) (sym (count_found sheet (sheet_level c.args.task) c.analyse_task.new.found found))
    ∙ take-append_seam c.analyse_task.new.found rest ∙ found

pub returns-clause-noted : goal.returns-clause-noted
returns-clause-noted g c =
    c.analyse_task.ensures.noted ∙ ap (λ (level : Level). appended (g.N.Notes.noted c.args.notes.now) (entries c.args.sheet.now level)) (level_is g (goal.at.returns-clause-noted g c).After-analyse_task)

pub returns-clause-room : goal.returns-clause-room
returns-clause-room g c =
    subst (λ (level : Level). g.N.Notes.room c.args.notes.now ≤ g.N.Notes.room c.analyse_task.new.notes + length (entries c.args.sheet.now level))
    (level_is g (goal.at.returns-clause-room g c).After-analyse_task) c.analyse_task.ensures.room
