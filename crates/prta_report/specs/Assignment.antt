-- The text of `assign`: the verdict on the orders of a sheet's tasks.
use Rattle.std.specs.Prelude.{ℕ, Bool, ◌++◌, List, [], flat_map, codes, if◌then◌else◌}
use Rattle.prta_sheet.specs.Sheet.{Task, Sheet, task_at, sheet_order}
use Rattle.prta_jobs.specs.TaskSet.{holds}
use Rattle.prta_audsley.specs.Verdict.{verdict}
use Rattle.prta_audsley.specs.declared.assigned.Assigned.{Assigned}
use Rattle.prta_audsley.specs.declared.assigned.Assigned.TheVariants.{Order, Undecided, Impossible}

-- the name of a task after a space
unfoldable pub name_text : List ℕ → List ℕ
name_text name = codes " " ++ name

abbrev pub name_at : List Task → ℕ → List ℕ
name_at tasks i = name_text (task_at tasks i).name

-- the tasks of an order, from highest to lowest priority
abbrev pub order_line : List Task → List ℕ → List ℕ
order_line tasks order = codes "order" ++ flat_map (name_at tasks) order ++ codes "\n"

-- a word, and the tasks of a set in sheet order
abbrev pub name_if : List Task → List Bool → ℕ → List ℕ
name_if tasks set i = if holds set i then name_at tasks i else []

abbrev pub set_line : List Task → List ℕ → List Bool → List ℕ
set_line tasks word set = word ++ flat_map (name_if tasks set) (sheet_order tasks) ++ codes "\n"

-- the line of a verdict
abbrev pub verdict_line : List Task → Assigned → List ℕ
verdict_line tasks (Order order) = order_line tasks order
verdict_line tasks (Undecided set) = set_line tasks (codes "undecided") set
verdict_line tasks (Impossible set) = set_line tasks (codes "impossible") set

abbrev pub assign_text : Sheet → List ℕ
assign_text sheet = codes "prta assign 1\n" ++ verdict_line sheet.tasks (verdict sheet) ++ codes "end\n"
