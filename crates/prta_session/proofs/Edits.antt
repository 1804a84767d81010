-- What an edit leaves.
use Rattle.std.proofs.Common.{◌≡◌, ◌≢◌, ℕ, ◌+◌, ◌*◌, ◌<◌, false, List, map, refl, ap, ap₂, ◌∙◌, arith}
use Rattle.std.proofs.Math.Path.{fun_ext}
use Rattle.std.specs.List.{range_with_len}
use Rattle.std.proofs.lemmas.Bool.{ltb-true, leb-false, eqb-false}
use Rattle.std.proofs.lemmas.List.{length-set, get_or-set_other}
use Rattle.prta_mass.specs.declared.direction.Dir.TheVariants.{Up, Down}
use Rattle.prta_sheet.specs.declared.edit.Edit.{Edit}
use Rattle.prta_sheet.specs.declared.edit.Edit.TheVariants as edit
use Rattle.prta_sheet.specs.Sheet.{Task, Sheet, task_at}
use Rattle.prta_sheet.specs.Job.{Job, nth_job}
use Rattle.prta_sheet.specs.Counts.{job_count}
use Rattle.prta_sheet.specs.Edits.{task_of, edited_task, edited_tasks, edited, EditsKeepJobs}
use Rattle.prta_sheet.proofs.Changed.{at_changed, same_job_count}
use Rattle.prta_backlog.specs.Level.{sheet_level}
use Rattle.prta_response.specs.Response.{number_of}
use Rattle.prta_dual.specs.declared.bounds.Bounds.{Bounds}
use Rattle.prta_dual.specs.Numbers.{bounds_of}
use Rattle.prta_session.specs.State.{makes_stale}
use Rattle.prta_session.specs.Laws.{ReleaseAlike, AgreeOn, NumbersDependOn, EditsKeepNumbers}

offset_stays : (e : Edit) (task : Task) → (edited_task e task).offset ≡ task.offset
offset_stays (edit.Table i index table) task = refl
offset_stays (edit.Deadline i value) task = refl
offset_stays (edit.Allow i p q) task = refl

period_stays : (e : Edit) (task : Task) → (edited_task e task).period ≡ task.period
period_stays (edit.Table i index table) task = refl
period_stays (edit.Deadline i value) task = refl
period_stays (edit.Allow i p q) task = refl

module _ (tasks : List Task) where
  releases_stay : (e : Edit) (k : ℕ) → ReleaseAlike (task_at (edited_tasks e tasks) k) (task_at tasks k)
  releases_stay e k =
      let task : Task = task_at tasks (task_of e) in
      record {
        offset = at_changed (λ (task : Task). task.offset) tasks (task_of e) k (edited_task e task) _ (offset_stays e task);
        period = at_changed (λ (task : Task). task.period) tasks (task_of e) k (edited_task e task) _ (period_stays e task);
      }

  -- another task than the edit's
  other_stays : (e : Edit) (k : ℕ) → k ≢ task_of e → task_at (edited_tasks e tasks) k ≡ task_at tasks k
  other_stays e k other = get_or-set_other tasks (task_of e) k (edited_task e (task_at tasks (task_of e))) _ other

  -- the cycle of a task before one that isn't stale, or of that one
  cycle_stays : (e : Edit) (k t : ℕ) → makes_stale e t ≡ false → k < t + 1 → (task_at (edited_tasks e tasks) k).cycle ≡ (task_at tasks k).cycle
  cycle_stays (edit.Table i index table) k t fresh low =
      let before : t < i = leb-false i t fresh in
      ap (λ (task : Task). task.cycle) (other_stays (edit.Table i index table) k (λ e. absurd (omega arith)))
  cycle_stays (edit.Deadline i value) k t fresh low = at_changed (λ (task : Task). task.cycle) tasks i k (edited_task (edit.Deadline i value) (task_at tasks i)) _ refl
  cycle_stays (edit.Allow i p q) k t fresh low = at_changed (λ (task : Task). task.cycle) tasks i k (edited_task (edit.Allow i p q) (task_at tasks i)) _ refl

  deadline_stays : (e : Edit) (t : ℕ) → makes_stale e t ≡ false → (task_at (edited_tasks e tasks) t).deadline ≡ (task_at tasks t).deadline
  deadline_stays (edit.Table i index table) t fresh = at_changed (λ (task : Task). task.deadline) tasks i t (edited_task (edit.Table i index table) (task_at tasks i)) _ refl
  deadline_stays (edit.Deadline i value) t fresh = ap (λ (task : Task). task.deadline) (other_stays (edit.Deadline i value) t (eqb-false t i fresh))
  deadline_stays (edit.Allow i p q) t fresh = at_changed (λ (task : Task). task.deadline) tasks i t (edited_task (edit.Allow i p q) (task_at tasks i)) _ refl

agrees : (e : Edit) (sheet : Sheet) (t : ℕ) → makes_stale e t ≡ false → AgreeOn (sheet_level t) (edited e sheet) sheet
agrees e sheet t fresh = record {
  cap = refl;
  support = refl;
  count = length-set sheet.tasks (task_of e) (edited_task e (task_at sheet.tasks (task_of e)));
  releases = releases_stay sheet.tasks e;
  higher = λ k above. cycle_stays sheet.tasks e k t fresh (let low : k < t = ltb-true k t above in omega arith);
  own = cycle_stays sheet.tasks e t t fresh (omega arith);
  deadline = deadline_stays sheet.tasks e t fresh;
}

-- the same jobs
job_stays : (e : Edit) (sheet : Sheet) (t k : ℕ) → nth_job (edited e sheet).tasks t k ≡ nth_job sheet.tasks t k
job_stays e sheet t k =
    let alike : ReleaseAlike (task_at (edited_tasks e sheet.tasks) t) (task_at sheet.tasks t) = releases_stay sheet.tasks e t in
    ap₂ (λ (offset period : ℕ). record { task = t; number = k; release = offset + k * period }) alike.offset alike.period

abbrev pair_of : ℕ → ℕ → Bounds
pair_of lower upper = record { lower = lower; upper = upper }

pub edits_keep_numbers : NumbersDependOn → EditsKeepJobs → EditsKeepNumbers
edits_keep_numbers depend jobs e sheet t fresh =
    let numbers = depend (sheet_level t) (edited e sheet) sheet (agrees e sheet t fresh) in
    let count : job_count (edited e sheet) t ≡ job_count sheet t =
    same_job_count sheet.settings sheet.tasks (edited_tasks e sheet.tasks) (jobs e sheet.tasks).same_hyperperiod (jobs e sheet.tasks).same_jobs t in
    let one : (k : ℕ) → bounds_of (edited e sheet) (sheet_level t) k ≡ bounds_of sheet (sheet_level t) k = λ k.
    ap (λ (job : Job). pair_of (number_of Down (edited e sheet) (sheet_level t) job) (number_of Up (edited e sheet) (sheet_level t) job)) (job_stays e sheet t k)
    ∙ ap₂ pair_of (numbers Down (nth_job sheet.tasks t k)) (numbers Up (nth_job sheet.tasks t k)) in
    record {
      numbers = numbers;
      bounds =
          ap (λ (f : ℕ → Bounds). map f (range_with_len 0 (job_count (edited e sheet) t))) (fun_ext one)
          ∙ ap (λ n. map (bounds_of sheet (sheet_level t)) (range_with_len 0 n)) count;
    }
