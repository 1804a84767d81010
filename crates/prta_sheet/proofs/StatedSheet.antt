-- The document of a sheet states that very sheet.
use Rattle.std.proofs.Common.{◌≡◌, ◌≤◌, List, [], ◌∷◌, length, All, refl, ap, ap₂, ◌∙◌, arith}
use Rattle.std.proofs.lemmas.List.Elements.{All-head, All-tail}
use Rattle.prta_mass.specs.Table.{Table}
use Rattle.prta_sheet.specs.declared.settings.Settings.{Settings}
use Rattle.prta_sheet.specs.Sheet.{Task, Sheet}
use Rattle.prta_sheet.specs.Canonical.{pairs_data, tables_data, task_document, tasks_data, document_of}
use Rattle.prta_sheet.specs.Stated.{pairs_of_items, cycle_of_items, stated_task, tasks_of_items, stated}
use Rattle.prta_sheet.proofs.CanonicalDocument.{by_support, by_cycle}

pairs_stated : (pairs : Table) → pairs_of_items (pairs_data pairs) ≡ pairs
pairs_stated [] = refl
pairs_stated (pair ∷ pairs) = ap (λ rest. pair ∷ rest) (pairs_stated pairs)

tables_stated : (tables : List Table) → cycle_of_items (tables_data tables) ≡ tables
tables_stated [] = refl
tables_stated (times ∷ tables) = ap₂ (λ (first : Table) (rest : List Table). first ∷ rest) (pairs_stated times) (tables_stated tables)

-- a task has a table at least
abbrev HasTables : Task → Type 0
HasTables task = 1 ≤ length task.cycle

task_stated : (task : Task) → HasTables task → stated_task (task_document task) ≡ task
task_stated task some =
    by_cycle (λ t. HasTables t → stated_task (task_document t) ≡ t)
    (λ t some. absurd (omega arith))
    (λ t times some. ap (λ pairs. record t { cycle = pairs ∷ [] }) (pairs_stated times))
    (λ t first second rest some. ap (λ (tables : List Table). record t { cycle = tables }) (tables_stated (first ∷ second ∷ rest)))
    task some

tasks_stated : (tasks : List Task) → All HasTables tasks → tasks_of_items (tasks_data tasks) ≡ tasks
tasks_stated [] some = refl
tasks_stated (task ∷ tasks) some =
    ap₂ (λ (first : Task) (rest : List Task). first ∷ rest) (task_stated task (All-head HasTables task tasks some)) (tasks_stated tasks (All-tail HasTables task tasks some))

abbrev sheet_with : Settings → List Task → Sheet
sheet_with settings tasks = record { settings = settings; tasks = tasks }

settings_stated : (settings : Settings) (tasks : List Task) → stated (document_of (sheet_with settings tasks)) ≡ sheet_with settings (tasks_of_items (tasks_data tasks))
settings_stated settings tasks =
    by_support (λ s. stated (document_of (sheet_with s tasks)) ≡ sheet_with s (tasks_of_items (tasks_data tasks)))
    (λ s. refl) (λ s support. refl) settings

pub sheet_is_stated : (sheet : Sheet) → All (λ task. 1 ≤ length task.cycle) sheet.tasks → stated (document_of sheet) ≡ sheet
sheet_is_stated sheet some = settings_stated sheet.settings sheet.tasks ∙ ap (sheet_with sheet.settings) (tasks_stated sheet.tasks some)
