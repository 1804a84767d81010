-- Edits: how they are taken back, and that the jobs stay.
use Rattle.std.proofs.Common.{◌≡◌, ℕ, ◌<◌, None, Result, Ok, Err, IsOk, OnOk, OnErr, List, length, get_or, set, refl, ap, ◌∙◌}
use Rattle.std.proofs.lemmas.List.{length-set, set-set, set-get_or, get_or-set_same}
use Rattle.prta_mass.specs.Table.{when, FaultlessPairs}
use Rattle.prta_sheet.specs.declared.edit.Edit.{Edit}
use Rattle.prta_sheet.specs.declared.edit.Edit.TheVariants as edit
use Rattle.prta_sheet.specs.declared.edit.EditFault.TheVariants.{NoTable}
use Rattle.prta_sheet.specs.Sheet.{Task, Sheet, task_at}
use Rattle.prta_sheet.specs.Accepted.{IsAccepted}
use Rattle.prta_sheet.specs.SheetConditions.{part_fault}
use Rattle.prta_sheet.specs.Edits.{task_of, edited_task, edited_tasks, edited, lacks_table, edit_fault, EditsKeepJobs}
use Rattle.prta_sheet.proofs.FirstOf.{next_none, map_none}
use Rattle.prta_sheet.proofs.Accepts.{accepted}
use Rattle.prta_sheet.proofs.Changed.{AreInStep, jobs_changed, hyperperiod_changed}

-- ---- the jobs stay

in_step : (e : Edit) (task : Task) → AreInStep (edited_task e task) task
in_step (edit.Table i index table) task = record { offset = refl; period = refl; size = length-set task.cycle index table }
in_step (edit.Deadline i value) task = record { offset = refl; period = refl; size = refl }
in_step (edit.Allow i p q) task = record { offset = refl; period = refl; size = refl }

pub edits_keep_jobs : EditsKeepJobs
edits_keep_jobs e tasks =
    let task : Task = task_at tasks (task_of e) in
    record {
      same_hyperperiod = hyperperiod_changed (edited_task e task) tasks (task_of e) (in_step e task);
      same_jobs = λ t. jobs_changed (edited_task e task) tasks (task_of e) t (in_step e task);
    }

-- ---- an edit is taken back by one that puts the old part where it was

-- two lists of which one is the other with its element at a place changed, and changed back
pub put_back : {X : Type 0} (xs : List X) (i : ℕ) (x y d : X) → y ≡ get_or xs i d → set (set xs i x) i y ≡ xs
put_back xs i x y d e = set-set xs i x y ∙ ap (set xs i) e ∙ set-get_or xs i d

pub taken_back : (e : Edit) (tasks : List Task) (x : Task) → task_of e < length tasks → edited_task e x ≡ task_at tasks (task_of e) → edited_tasks e (set tasks (task_of e) x) ≡ tasks
taken_back e tasks x low h =
    let i : ℕ = task_of e in
    ap (λ task. set (set tasks i x) i (edited_task e task)) (get_or-set_same tasks i x _ low) ∙ put_back tasks i x (edited_task e x) _ h

-- ---- a sheet with an edit that is not refused is accepted

pub edited_is_accepted : FaultlessPairs → (e : Edit) (sheet : Sheet) → edit_fault e sheet ≡ None → IsAccepted (edited e sheet)
edited_is_accepted makes e sheet h =
    accepted makes (edited e sheet) (map_none _ (part_fault (edited e sheet)) (next_none (when (lacks_table e (task_at sheet.tasks (task_of e))) NoTable) _ h))

-- what is left of an answer: both facts of a success, or the one of a failure
pub by_answer : {T E G : Type 0} (r : Result T E) (A B C : Type 0) → OnOk r A → (IsOk r → B) → OnErr r C → (A → B → G) → (C → G) → G
by_answer (Ok x) A B C a b c good bad = good a (b refl)
by_answer (Err y) A B C a b c good bad = bad c
