use Rattle.std.proofs.Common.{◌≡◌, ◌∙◌, List, All, Some, map, ap, ap₂, sym, subst, refl}
use Rattle.prta_sheet.specs.Sheet.{Task, Sheet}
use Rattle.prta_sheet.specs.declared.settings.Settings.{Settings}
use Rattle.prta_sheet.specs.SheetConditions.{part_fault}
use Rattle.prta_times.specs.Counts.{with_counted}
use Rattle.prta_times.specs.Parts.{HasTable}
use Rattle.prta_times.proofs.OnlyWork.{have_tables}
use Rattle.prta_times.proofs.Tested.{work_refused, none_refused, no_other}
use Rattle.prta_times.proofs.counts.tested_sheet.Goals as goal

-- the parts of the sheet that is made
parts : (settings own : Settings) (tasks now made : List Task) (f : Task → Task) → settings ≡ own → now ≡ tasks → made ≡ map f now → ◌≡◌ {A = Sheet} (record { settings = own; tasks = map f tasks }) (record { settings = settings; tasks = made })
parts settings own tasks now made f e g h = ap₂ (λ (s : Settings) (ts : List Task). record { settings = s; tasks = ts }) (sym e) (ap (map f) (sym g) ∙ sym h)

pub tasks_with-requires-clause-tables : goal.tasks_with-requires-clause-tables
tasks_with-requires-clause-tables c =
    subst (All (HasTable c.args.points c.args.counts.now)) (sym c.tasks.ensures.tasks)
    (have_tables (record { makes = c.faultless_pairs.ensures; one = c.reduction_is_one.ensures; tables = c.reduction_is_table.ensures }) c.args.points c.args.sheet.now c.args.counts.now c.requires.asked c.tasks.ensures.accepted c.requires.ranges c.requires.tested.few c.requires.tested.light)

pub returns-in-Ok-clause-accepted : goal.returns-in-Ok-clause-accepted
returns-in-Ok-clause-accepted c = λ ok.
    none_refused c.args.points c.args.sheet.now c.args.counts.now (record { makes = c.faultless_pairs.ensures; one = c.reduction_is_one.ensures; tables = c.reduction_is_table.ensures }) c.requires.asked c.tasks.ensures.accepted c.requires.ranges c.requires.tested
    (ap part_fault (parts _ _ _ _ _ (with_counted c.args.points c.args.counts.now) c.settings.ensures.settings c.tasks.ensures.tasks c.in_ok-tasks.ensures) ∙ c.in-Ok.ensures.accepted refl)

pub returns-in-TooMuchWork-clause-refused : goal.returns-in-TooMuchWork-clause-refused
returns-in-TooMuchWork-clause-refused c = λ other.
    work_refused c.args.points c.args.sheet.now c.args.counts.now (record { makes = c.faultless_pairs.ensures; one = c.reduction_is_one.ensures; tables = c.reduction_is_table.ensures }) c.requires.asked c.tasks.ensures.accepted c.requires.ranges c.requires.tested c.in-TooMuchWork.work
    (ap part_fault (parts _ _ _ _ _ (with_counted c.args.points c.args.counts.now) c.settings.ensures.settings c.tasks.ensures.tasks c.in_ok-tasks.ensures) ∙ c.in-Err.ensures.refused ∙ ap Some c.in-TooMuchWork.is)

pub unreachable-requires : goal.unreachable-requires
unreachable-requires c =
    no_other c.args.points c.args.sheet.now c.args.counts.now (record { makes = c.faultless_pairs.ensures; one = c.reduction_is_one.ensures; tables = c.reduction_is_table.ensures }) c.requires.asked c.tasks.ensures.accepted c.requires.ranges c.requires.tested c.in-Err.fault
    (ap part_fault (parts _ _ _ _ _ (with_counted c.args.points c.args.counts.now) c.settings.ensures.settings c.tasks.ensures.tasks c.in_ok-tasks.ensures) ∙ c.in-Err.ensures.refused)
    c.in_default.not-TooMuchWork
