-- Ticks that are added to each time of a task.
use Rattle.std.proofs.Common.{◌≡◌, ℕ, zero, suc, ◌+◌, ◌%◌, ◌<◌, ◌≤◌, max, Bool, true, false, nat_eq, if◌then◌else◌, List, [], ◌∷◌, length, get_or, set, map, fold, All, refl, ap, ap₂, sym, ◌∙◌, arith}
use Rattle.std.proofs.lemmas.Bool.{eqb-true, eqb-false}
use Rattle.std.proofs.lemmas.List.{length-map, length-set, get_or-set_same, get_or-set_other, set-set, set-get_or}
use Rattle.std.proofs.lemmas.List.Elements.{All-set, All-map}
use Rattle.prta_mass.specs.Table.{Table, IsTable, greatest}
use Rattle.prta_mass.specs.Added.{with_added}
use Rattle.prta_mass.proofs.AddedTicks.{later, added_none, greatest_added, IsTable-added}
use Rattle.prta_sheet.specs.declared.limits.TheConstants.{TIME_LIMIT}
use Rattle.prta_sheet.specs.Sheet.{Task, Sheet, task_at, table_in, hyperperiod}
use Rattle.prta_sheet.specs.Job.{Job, table_of, jobs_before}
use Rattle.prta_sheet.specs.Work.{points_of, work}
use Rattle.prta_sheet.specs.Accepted.{HaveOwnNames, IsTask, IsAccepted}
use Rattle.prta_sheet.specs.Added.{task_with_added, tasks_with_added, sheet_with_added, greatest_time, room, KeepsWithAdded, AddedSheets}
use Rattle.prta_sheet.proofs.Changed.{AreInStep, at_changed, jobs_changed, hyperperiod_changed, same_all_jobs, same_work}

-- ---- the greatest time

abbrev greatest_from : ℕ → List Table → ℕ
greatest_from n tables = fold (λ most table. max most (greatest table)) n tables

from_low : (n : ℕ) (tables : List Table) → n ≤ greatest_from n tables
from_low n [] = omega arith
from_low n (table ∷ tables) = omega (arith, from_low (max n (greatest table)) tables)

each_low : (n : ℕ) (tables : List Table) → All (λ table. greatest table ≤ greatest_from n tables) tables
each_low n [] k d low = absurd (omega arith)
each_low n (table ∷ tables) zero d low = omega (arith, from_low (max n (greatest table)) tables)
each_low n (table ∷ tables) (suc k) d low = each_low (max n (greatest table)) tables k d (omega arith)

all_within : (limit n : ℕ) (tables : List Table) → n ≤ limit → All (λ table. greatest table ≤ limit) tables → greatest_from n tables ≤ limit
all_within limit n [] start h = start
all_within limit n (table ∷ tables) start h = all_within limit (max n (greatest table)) tables (omega (arith, h 0 table (omega arith))) (λ k d low. h (suc k) d (omega arith))

pub greatest_low : (task : Task) → All (λ table. greatest table ≤ TIME_LIMIT) task.cycle → greatest_time task ≤ TIME_LIMIT
greatest_low task times = all_within TIME_LIMIT 0 task.cycle (omega arith) times

-- within its room a task's times stay at most the limit
pub times_within : (task : Task) (s : ℕ) → All (λ table. greatest table ≤ TIME_LIMIT) task.cycle → s ≤ room task → All (λ table. greatest table + s ≤ TIME_LIMIT) task.cycle
times_within task s times fits k d low =
    let most : greatest_time task ≤ TIME_LIMIT = greatest_low task times in
    omega (arith, most, fits, each_low 0 task.cycle k d low)

-- ---- a task

-- the table of a place of a cycle, empty where there is none
pub place_added : (s : ℕ) (cycle : List Table) (k : ℕ) → get_or (map (λ table. with_added table s) cycle) k [] ≡ with_added (get_or cycle k []) s
place_added s [] k = refl
place_added s (table ∷ cycle) zero = refl
place_added s (table ∷ cycle) (suc k) = place_added s cycle k

pub table_added : (task : Task) (s number : ℕ) → table_in (task_with_added task s) number ≡ with_added (table_in task number) s
table_added task s number =
    ap (λ n. get_or (map (λ table. with_added table s) task.cycle) (number % n) []) (length-map task.cycle (λ (table : Table). with_added table s))
    ∙ place_added s task.cycle (number % length task.cycle)

IsTask-added : (cap : ℕ) (task : Task) (s : ℕ) → IsTask cap task → s ≤ room task → IsTask cap (task_with_added task s)
IsTask-added cap task s is fits =
    let add : Table → Table = λ table. with_added table s in
    let size : length (map add task.cycle) ≡ length task.cycle = length-map task.cycle add in
    let within = times_within task s is.times fits in
    record {
      name = is.name;
      offset = is.offset;
      period_low = is.period_low;
      period_high = is.period_high;
      deadline_low = is.deadline_low;
      deadline_high = is.deadline_high;
      cycle_low = omega (arith, is.cycle_low, size);
      cycle_high = omega (arith, is.cycle_high, size);
      tables = All-map IsTable add task.cycle (λ k d low. IsTable-added (get_or task.cycle k d) s (is.tables k d low));
      times = All-map (λ (table : Table). greatest table ≤ TIME_LIMIT) add task.cycle (λ k d low.
          let most : greatest (get_or task.cycle k d) + s ≤ TIME_LIMIT = within k d low in
          omega (arith, greatest_added (get_or task.cycle k d) s (is.tables k d low).some, most));
      allow = is.allow;
    }

-- ---- a sheet

module _ (tasks : List Task) (i s : ℕ) where
  abbrev own : Task
  own = task_at tasks i

  abbrev new : List Task
  new = tasks_with_added tasks i s

  in_step : AreInStep (task_with_added own s) own
  in_step = record { offset = refl; period = refl; size = length-map own.cycle (λ (table : Table). with_added table s) }

  pub hyperperiod_added : hyperperiod new ≡ hyperperiod tasks
  hyperperiod_added = hyperperiod_changed (task_with_added own s) tasks i in_step

  jobs_added : (t : ℕ) → jobs_before new t ≡ jobs_before tasks t
  jobs_added t = jobs_changed (task_with_added own s) tasks i t in_step

  points_added : (job : Job) → points_of new job ≡ points_of tasks job
  points_added job =
      at_changed (λ (task : Task). length (table_in task job.number)) tasks i job.task (task_with_added own s) _
      (ap length (table_added own s job.number) ∙ length-map (table_in own job.number) (later s))

  names_added : HaveOwnNames tasks → HaveOwnNames new
  names_added names j k before low same =
      let name : (j : ℕ) → (task_at new j).name ≡ (task_at tasks j).name = λ j. at_changed (λ (task : Task). task.name) tasks i j (task_with_added own s) _ refl in
      let size : length new ≡ length tasks = length-set tasks i (task_with_added own s) in
      names j k before (omega arith) (sym (name j) ∙ same ∙ name k)

  tables_added : i < length tasks → (job : Job) → table_of new job ≡ (if nat_eq job.task i then with_added (table_of tasks job) s else table_of tasks job)
  tables_added low job = by (nat_eq job.task i) refl
    where
      by : (b : Bool) → nat_eq job.task i ≡ b → table_of new job ≡ (if b then with_added (table_of tasks job) s else table_of tasks job)
      by true e =
          let same : job.task ≡ i = eqb-true job.task i e in
          ap (λ k. table_in (task_at new k) job.number) same
          ∙ ap (λ task. table_in task job.number) (get_or-set_same tasks i (task_with_added own s) _ low)
          ∙ table_added own s job.number
          ∙ ap (λ k. with_added (table_in (task_at tasks k) job.number) s) (sym same)
      by false e = ap (λ task. table_in task job.number) (get_or-set_other tasks i job.task (task_with_added own s) _ (eqb-false job.task i e))

cycle_kept : (cycle : List Table) → map (λ table. with_added table 0) cycle ≡ cycle
cycle_kept [] = refl
cycle_kept (table ∷ cycle) = ap₂ (λ (t : Table) (ts : List Table). t ∷ ts) (added_none table) (cycle_kept cycle)

none_added : (sheet : Sheet) (i : ℕ) → sheet_with_added sheet i 0 ≡ sheet
none_added sheet i =
    let own : Task = task_at sheet.tasks i in
    ap (λ (cycle : List Table). record sheet { tasks = set sheet.tasks i (record own { cycle = cycle }) }) (cycle_kept own.cycle)
    ∙ ap (λ (tasks : List Task). record sheet { tasks = tasks }) (set-get_or sheet.tasks i _)

-- the same with the sheet accepted, and s within the room
module _ (sheet : Sheet) (i s : ℕ) (is : IsAccepted sheet) (low : i < length sheet.tasks) (fits : s ≤ room (task_at sheet.tasks i)) where
  work_added : work (sheet_with_added sheet i s) ≡ work sheet
  work_added =
      same_work sheet.settings sheet.tasks (tasks_with_added sheet.tasks i s) (hyperperiod_added sheet.tasks i s) (jobs_added sheet.tasks i s)
      (length-set sheet.tasks i (task_with_added (task_at sheet.tasks i) s))
      (λ k. at_changed (λ (task : Task). task.deadline) sheet.tasks i k (task_with_added (task_at sheet.tasks i) s) _ refl)
      (points_added sheet.tasks i s)

  pub accepted_added : IsAccepted (sheet_with_added sheet i s)
  accepted_added =
      let x : Task = task_with_added (task_at sheet.tasks i) s in
      let size : length (set sheet.tasks i x) ≡ length sheet.tasks = length-set sheet.tasks i x in
      record {
        settings = is.settings;
        some = omega (arith, is.some, size);
        few = omega (arith, is.few, size);
        tasks = All-set (IsTask sheet.settings.cap) sheet.tasks i x (IsTask-added sheet.settings.cap (task_at sheet.tasks i) s (is.tasks i _ low) fits) is.tasks;
        names = names_added sheet.tasks i s is.names;
        short_hyperperiod = omega (arith, is.short_hyperperiod, hyperperiod_added sheet.tasks i s);
        jobs = omega (arith, is.jobs, same_all_jobs sheet.settings sheet.tasks (set sheet.tasks i x) (hyperperiod_added sheet.tasks i s) (jobs_added sheet.tasks i s));
        work = omega (arith, is.work, work_added);
      }

  keeps_added : KeepsWithAdded sheet i s
  keeps_added = record {
    none = none_added sheet i;
    accepted = accepted_added;
    same_hyperperiod = hyperperiod_added sheet.tasks i s;
    same_jobs = jobs_added sheet.tasks i s;
    same_work = work_added;
    tables = tables_added sheet.tasks i s low;
  }

pub added_sheets : AddedSheets
added_sheets sheet i s is low fits = keeps_added sheet i s is low fits

-- a sheet with one number added, in which the task gets another one
pub added_anew : (sheet base : Sheet) (i r s : ℕ) (x : Task) → sheet ≡ sheet_with_added base i r → x ≡ task_with_added (task_at base.tasks i) s →
    ◌≡◌ {A = Sheet} (record { settings = sheet.settings; tasks = set sheet.tasks i x }) (sheet_with_added base i s)
added_anew sheet base i r s x before now =
    ap (λ (sheet : Sheet). record sheet { tasks = set sheet.tasks i x }) before
    ∙ ap (λ (tasks : List Task). record base { tasks = tasks }) (set-set base.tasks i (task_with_added (task_at base.tasks i) r) x ∙ ap (set base.tasks i) now)

-- what is read at the place of the task
pub read_added : (sheet base : Sheet) (i r : ℕ) (d : Task) → i < length base.tasks → sheet ≡ sheet_with_added base i r → get_or sheet.tasks i d ≡ task_with_added (task_at base.tasks i) r
read_added sheet base i r d low before = ap (λ (sheet : Sheet). get_or sheet.tasks i d) before ∙ get_or-set_same base.tasks i (task_with_added (task_at base.tasks i) r) d low
