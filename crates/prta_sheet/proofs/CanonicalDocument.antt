-- The expressions of the canonical text make the document that it states.
use Rattle.std.proofs.Common.{◌≡◌, ℕ, ◌≤◌, Option, Some, None, option_and_then, List, [], ◌∷◌, ◌++◌, flat_map, length, codes, refl, sym, ap, ◌∙◌, arith}
use Rattle.toml.specs.Data.{string, array, table, Items, no_items, item, push_item, Members, no_members, member}
use Rattle.toml.specs.Tables.{Nodes, no_nodes, node, value, open_array, close, along_dots, along_header, at_key, Document, Expression, array_table, define}
use Rattle.toml.proofs.ReadLines.{run}
use Rattle.toml.proofs.ReadValues.{item_join, item_join-none, item_join-push}
use Rattle.toml.proofs.Fill.{run-append}
use Rattle.prta_mass.specs.Table.{Table}
use Rattle.prta_mass.specs.declared.support.Support.{Support}
use Rattle.prta_sheet.specs.declared.settings.Settings.{Settings}
use Rattle.prta_sheet.specs.Sheet.{Task, Sheet}
use Rattle.prta_sheet.specs.Canonical.{canonical_format, number_data, pair_data, pairs_data, tables_data, support_data, with_support, task_document, tasks_data, document_of}
use Rattle.prta_sheet.proofs.CanonicalLines.{settings_lines, key_lines, task_lines, sheet_lines}

-- a cycle of several tables and a table alone, as nodes
abbrev cycle_node : List Table → Nodes → Nodes
cycle_node [] rest = rest
cycle_node (times ∷ []) rest = rest
cycle_node (first ∷ second ∷ tables) rest = node (codes "cycle") (value (array (tables_data (first ∷ second ∷ tables)))) rest

abbrev times_node : List Table → Nodes
times_node (times ∷ []) = node (codes "times") (value (array (pairs_data times))) no_nodes
times_node _ = no_nodes

-- the nodes of a task
abbrev task_nodes : Task → Nodes
task_nodes task =
    node (codes "allow") (value (pair_data task.allow))
    (cycle_node task.cycle
    (node (codes "deadline") (value (number_data task.deadline))
    (node (codes "name") (value (string task.name))
    (node (codes "offset") (value (number_data task.offset))
    (node (codes "period") (value (number_data task.period))
    (times_node task.cycle))))))

abbrev support_node : Option Support → Nodes → Nodes
support_node None rest = rest
support_node (Some support) rest = node (codes "support") (value (support_data support)) rest

abbrev turns_node : Settings → Nodes
turns_node settings = node (codes "turns") (value (number_data settings.turns)) no_nodes

-- the nodes of the settings, around others
abbrev settings_nodes : ℕ → Settings → Nodes → Nodes
settings_nodes format settings rest =
    node (codes "cap") (value (number_data settings.cap))
    (node (codes "format") (value (number_data format))
    (node (codes "hyperperiods") (value (number_data settings.hyperperiods))
    (support_node settings.support rest)))

-- the root while a task is read, after others
abbrev root_with : ℕ → Settings → Items → Nodes → Nodes
root_with format settings done nodes = settings_nodes format settings (node (codes "task") (open_array done nodes) (turns_node settings))

abbrev root : ℕ → Settings → Items → Task → Nodes
root format settings done task = root_with format settings done (task_nodes task)

abbrev at_task : List (List ℕ)
at_task = codes "task" ∷ []

abbrev supported : Settings → Option Support → Settings
supported settings support = record settings { support = support }

-- with a support and without
pub by_support : (P : Settings → Type 0) → ((settings : Settings) → P (supported settings None)) → ((settings : Settings) (support : Support) → P (supported settings (Some support)))
    → (settings : Settings) → P settings
by_support P none some settings = elim settings.support as (λ support. P (supported settings support)) [
  | None ↦ none settings
  | Some support ↦ some settings support
]

abbrev pub cycled : Task → List Table → Task
cycled task cycle = record task { cycle = cycle }

-- with no table, one and several
pub by_cycle : (P : Task → Type 0) → ((task : Task) → P (cycled task [])) → ((task : Task) (times : Table) → P (cycled task (times ∷ [])))
    → ((task : Task) (first second : Table) (rest : List Table) → P (cycled task (first ∷ second ∷ rest))) → (task : Task) → P task
by_cycle P none one more task = by_tables task.cycle
  where
    by_tables : (cycle : List Table) → P (cycled task cycle)
    by_tables [] = none task
    by_tables (times ∷ []) = one task times
    by_tables (first ∷ second ∷ rest) = more task first second rest

-- by the support and by the cycle
by_parts : (P : Settings → Task → Type 0)
    → ((s : Settings) (t : Task) → P (supported s None) (cycled t []))
    → ((s : Settings) (t : Task) (times : Table) → P (supported s None) (cycled t (times ∷ [])))
    → ((s : Settings) (t : Task) (first second : Table) (rest : List Table) → P (supported s None) (cycled t (first ∷ second ∷ rest)))
    → ((s : Settings) (support : Support) (t : Task) → P (supported s (Some support)) (cycled t []))
    → ((s : Settings) (support : Support) (t : Task) (times : Table) → P (supported s (Some support)) (cycled t (times ∷ [])))
    → ((s : Settings) (support : Support) (t : Task) (first second : Table) (rest : List Table) → P (supported s (Some support)) (cycled t (first ∷ second ∷ rest)))
    → (settings : Settings) (task : Task) → P settings task
by_parts P none_none none_one none_more some_none some_one some_more settings task =
    by_support (λ s. P s task)
    (λ s. by_cycle (P (supported s None)) (none_none s) (none_one s) (none_more s) task)
    (λ s support. by_cycle (P (supported s (Some support))) (some_none s support) (some_one s support) (some_more s support) task)
    settings

-- the lines of the settings, the header of a task, and its other lines
run_settings : (format : ℕ) (settings : Settings) → run (no_nodes, []) (settings_lines format settings) ≡ Some (settings_nodes format settings (turns_node settings), [])
unfolding define along_dots along_header at_key
run_settings format settings =
    by_support (λ s. run (no_nodes, []) (settings_lines format s) ≡ Some (settings_nodes format s (turns_node s), []))
    (λ s. refl) (λ s support. refl) settings

abbrev header : List Expression
header = (([], codes "task"), array_table) ∷ []

run_first_header : (format : ℕ) (settings : Settings) → run (settings_nodes format settings (turns_node settings), []) header ≡ Some (root_with format settings no_items no_nodes, at_task)
unfolding define along_dots along_header at_key
run_first_header format settings =
    by_support (λ s. run (settings_nodes format s (turns_node s), []) header ≡ Some (root_with format s no_items no_nodes, at_task))
    (λ s. refl) (λ s support. refl) settings

-- the task before is closed
run_header : (format : ℕ) (settings : Settings) (done : Items) (last : Task)
    → run (root format settings done last, at_task) header ≡ Some (root_with format settings (push_item done (table (task_document last))) no_nodes, at_task)
unfolding define along_dots along_header at_key
run_header format settings done last =
    by_parts (λ s t. run (root format s done t, at_task) header ≡ Some (root_with format s (push_item done (table (task_document t))) no_nodes, at_task))
    (λ s t. refl) (λ s t times. refl) (λ s t first second rest. refl) (λ s support t. refl) (λ s support t times. refl) (λ s support t first second rest. refl)
    settings last

run_keys : (format : ℕ) (settings : Settings) (done : Items) (task : Task)
    → run (root_with format settings done no_nodes, at_task) (key_lines task) ≡ Some (root format settings done task, at_task)
unfolding define along_dots along_header at_key
run_keys format settings done task =
    by_parts (λ s t. run (root_with format s done no_nodes, at_task) (key_lines t) ≡ Some (root format s done t, at_task))
    (λ s t. refl) (λ s t times. refl) (λ s t first second rest. refl) (λ s support t. refl) (λ s support t times. refl) (λ s support t first second rest. refl)
    settings task

run_first : (format : ℕ) (settings : Settings) (task : Task) → run (settings_nodes format settings (turns_node settings), []) (task_lines task) ≡ Some (root format settings no_items task, at_task)
run_first format settings task =
    run-append (settings_nodes format settings (turns_node settings), []) header (key_lines task)
    ∙ rw (run_first_header format settings) (run_keys format settings no_items task)

run_next : (format : ℕ) (settings : Settings) (done : Items) (last task : Task)
    → run (root format settings done last, at_task) (task_lines task) ≡ Some (root format settings (push_item done (table (task_document last))) task, at_task)
run_next format settings done last task =
    run-append (root format settings done last, at_task) header (key_lines task)
    ∙ rw (run_header format settings done last) (run_keys format settings (push_item done (table (task_document last))) task)

-- ---- the whole document

-- the document with these tasks
abbrev document_with : ℕ → Settings → Items → Members
document_with format settings tasks =
    member (codes "cap") (number_data settings.cap)
    (member (codes "format") (number_data format)
    (member (codes "hyperperiods") (number_data settings.hyperperiods)
    (with_support settings.support
    (member (codes "task") (array tasks)
    (member (codes "turns") (number_data settings.turns)
    no_members)))))

closed : (format : ℕ) (settings : Settings) (done : Items) (task : Task) → close (root format settings done task) ≡ document_with format settings (push_item done (table (task_document task)))
closed format settings done task =
    by_parts (λ s t. close (root format s done t) ≡ document_with format s (push_item done (table (task_document t))))
    (λ s t. refl) (λ s t times. refl) (λ s t first second rest. refl) (λ s support t. refl) (λ s support t times. refl) (λ s support t first second rest. refl)
    settings task

-- expressions lead from a document to one that closes as these members
pub record LeadsTo (start : Option Document) (es : List Expression) (members : Members) : Type 0 where
  pub end : Document
  pub ran : option_and_then (λ doc. run doc es) start ≡ Some end
  pub closes : close end.0 ≡ members

module _ (format : ℕ) (settings : Settings) where
  run_tasks : (done : Items) (task : Task) (tasks : List Task) (start : Option Document) → start ≡ Some (root format settings done task, at_task)
      → LeadsTo start (flat_map task_lines tasks) (document_with format settings (item_join done (tasks_data (task ∷ tasks))))
  run_tasks done task [] start is = record {
    end = (root format settings done task, at_task);
    ran = rw is;
    closes =
        let all : push_item done (table (task_document task)) ≡ item_join done (item (table (task_document task)) no_items) = sym (item_join-none _) ∙ item_join-push done (table (task_document task)) no_items in
        closed format settings done task ∙ ap (document_with format settings) all;
  }
  run_tasks done task (next ∷ tasks) start is =
      let more = run_tasks (push_item done (table (task_document task))) next tasks (run (root format settings done task, at_task) (task_lines next)) (run_next format settings done task next) in
      record {
        end = more.end;
        ran = rw is (run-append (root format settings done task, at_task) (task_lines next) (flat_map task_lines tasks) ∙ more.ran);
        closes = more.closes ∙ ap (document_with format settings) (item_join-push done (table (task_document task)) (tasks_data (next ∷ tasks)));
      }

  run_sheet : (tasks : List Task) → 1 ≤ length tasks → LeadsTo (Some (no_nodes, [])) (settings_lines format settings ++ flat_map task_lines tasks) (document_with format settings (tasks_data tasks))
  run_sheet [] some = absurd (omega arith)
  run_sheet (task ∷ tasks) some =
      let more = run_tasks no_items task tasks (run (settings_nodes format settings (turns_node settings), []) (task_lines task)) (run_first format settings task) in
      record {
        end = more.end;
        ran =
            run-append (no_nodes, []) (settings_lines format settings) (flat_map task_lines (task ∷ tasks))
            ∙ rw (run_settings format settings) (run-append (settings_nodes format settings (turns_node settings), []) (task_lines task) (flat_map task_lines tasks) ∙ more.ran);
        closes = more.closes;
      }

pub document_made : (sheet : Sheet) → 1 ≤ length sheet.tasks → LeadsTo (Some (no_nodes, [])) (sheet_lines sheet) (document_of sheet)
document_made sheet some = run_sheet (canonical_format sheet.tasks) sheet.settings sheet.tasks some
