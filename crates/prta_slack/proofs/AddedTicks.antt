-- What holds as ticks are added to a task.
use Rattle.std.proofs.Common.{◌≡◌, ℕ, ◌+◌, ◌*◌, ◌<◌, ◌≤◌, Bool, true, false, List, length, refl, ap₂, sym, ◌∙◌, subst, arith, inl, inr, le_trans, mul-le-mul_right}
use Rattle.std.specs.List.{range_with_len}
use Rattle.std.proofs.lemmas.Bool.{cases_Bool, leb-true, le-leb}
use Rattle.std.proofs.lemmas.List.{length-set}
use Rattle.prta_mass.specs.Unit.{unit}
use Rattle.prta_mass.specs.Passing.{passes}
use Rattle.prta_sheet.specs.Sheet.{Task, Sheet, task_at, sheet_order}
use Rattle.prta_sheet.specs.Job.{Job, nth_job}
use Rattle.prta_sheet.specs.Counts.{job_count}
use Rattle.prta_sheet.specs.Accepted.{IsAccepted}
use Rattle.prta_sheet.specs.Added.{task_with_added, tasks_with_added, sheet_with_added, KeepsWithAdded, AddedSheets}
use Rattle.prta_sheet.proofs.Changed.{at_changed, same_job_count}
use Rattle.prta_backlog.specs.Level.{Level, sheet_level}
use Rattle.prta_response.specs.Laws.{NumbersAreAround}
use Rattle.prta_dual.specs.Numbers.{upper}
use Rattle.prta_dual.specs.Failing.{upper_passes}
use Rattle.prta_audsley.specs.Passing.{IsAnalysed, ChancesPass}
use Rattle.prta_audsley.proofs.Tables.{have_tables}
use Rattle.prta_slack.specs.Passing.{passes_with}
use Rattle.prta_slack.specs.Answer.{room_of}
use Rattle.prta_slack.specs.Laws.{PassingIsEach, HoldsWithAdded, AddedTicks}
use Rattle.prta_slack.proofs.LaterRuns.{upper_later}
use Rattle.prta_slack.proofs.LaterTables.{tasks_later}
use Rattle.prta_slack.proofs.PassingChances.{chances_pass}

-- a smaller number passes too
less_passes : (a b p q : ℕ) → a ≤ b → passes b p q ≡ true → passes a p q ≡ true
less_passes a b p q le pass = le-leb (a * q) (p * unit) (le_trans (mul-le-mul_right q le) (leb-true (b * q) (p * unit) pass))

module _ (sheet : Sheet) (task : ℕ) where
  abbrev tasks : ℕ → List Task
  tasks s = tasks_with_added sheet.tasks task s

  abbrev with : ℕ → Sheet
  with s = sheet_with_added sheet task s

  same_count : (s : ℕ) → length (tasks s) ≡ length sheet.tasks
  same_count s = length-set sheet.tasks task (task_with_added (task_at sheet.tasks task) s)

  -- what a task keeps
  same_at : {X : Type 0} (f : Task → X) (s i : ℕ) → f (task_with_added (task_at sheet.tasks task) s) ≡ f (task_at sheet.tasks task) → f (task_at (tasks s) i) ≡ f (task_at sheet.tasks i)
  same_at f s i e = at_changed f sheet.tasks task i (task_with_added (task_at sheet.tasks task) s) _ e

  same_job : (s i k : ℕ) → nth_job (tasks s) i k ≡ nth_job sheet.tasks i k
  same_job s i k =
      ap₂ (λ o p. record { task = i; number = k; release = o + k * p }) (same_at (λ (task : Task). task.offset) s i refl) (same_at (λ (task : Task). task.period) s i refl)

  abbrev job_passes : ℕ → ℕ → ℕ → Bool
  job_passes s i k = let allow = (task_at sheet.tasks i).allow in passes (upper (with s) (sheet_level i) (nth_job sheet.tasks i k)) allow.0 allow.1

  passes_is : (s i k : ℕ) → upper_passes (with s) (nth_job (tasks s) i k) ≡ job_passes s i k
  passes_is s i k =
      ap₂ (λ (job : Job) (allow : ℕ × ℕ). passes (upper (with s) (sheet_level i) job) allow.0 allow.1) (same_job s i k) (same_at (λ (task : Task). task.allow) s i refl)

  module _ (added : AddedSheets) (numbers : NumbersAreAround) (each : PassingIsEach) (is : IsAccepted sheet) (low : task < length sheet.tasks) where
    kept : (s : ℕ) → s ≤ room_of sheet task → KeepsWithAdded sheet task s
    kept s fits = added sheet task s is low fits

    same_number : (s i : ℕ) → s ≤ room_of sheet task → job_count (with s) i ≡ job_count sheet i
    same_number s i fits = same_job_count sheet.settings sheet.tasks (tasks s) (kept s fits).same_hyperperiod (kept s fits).same_jobs i

    uppers : (level : Level) (k s t : ℕ) → level.own < length sheet.tasks → s ≤ t → t ≤ room_of sheet task →
        upper (with s) level (nth_job sheet.tasks level.own k) ≤ upper (with t) level (nth_job sheet.tasks level.own k)
    uppers level k s t own le fits =
        upper_later (tasks s) (with t) level (nth_job sheet.tasks level.own k).release (kept t fits).accepted (have_tables (with s) (kept s (le_trans le fits)).accepted) (tasks_later sheet.tasks task s t le)
        (omega (arith, own, same_count t))

    smaller : (s t : ℕ) → s ≤ t → t ≤ room_of sheet task → passes_with sheet task t ≡ true → passes_with sheet task s ≡ true
    smaller s t le fits passes_t =
        (each (with s) (kept s (le_trans le fits)).accepted).1 (λ i k analysed.
        let listed : i < length sheet.tasks = omega (arith, analysed.listed, same_count s) in
        let other : IsAnalysed (with t) i k = record {
          listed = omega (arith, listed, same_count t);
          analysed = omega (arith, analysed.analysed, same_number s i (le_trans le fits), same_number t i fits);
        } in
        let passes_there : job_passes t i k ≡ true = sym (passes_is t i k) ∙ (each (with t) (kept t fits).accepted).0 passes_t i k other in
        let allow : ℕ × ℕ = (task_at sheet.tasks i).allow in
        passes_is s i k ∙ less_passes (upper (with s) (sheet_level i) (nth_job sheet.tasks i k)) (upper (with t) (sheet_level i) (nth_job sheet.tasks i k)) allow.0 allow.1 (uppers (sheet_level i) k s t listed le fits) passes_there)

    greater : (s t : ℕ) → s ≤ t → t ≤ room_of sheet task → passes_with sheet task s ≡ false → passes_with sheet task t ≡ false
    greater s t le fits fails = elim (cases_Bool (passes_with sheet task t)) [
      | inl passes_t ↦ let both : true ≡ false = sym (smaller s t le fits passes_t) ∙ fails in cc
      | inr fails_t ↦ fails_t
    ]

    chances : (s : ℕ) → s ≤ room_of sheet task → passes_with sheet task s ≡ true → ChancesPass (with s) (sheet_order sheet.tasks)
    chances s fits passes_s =
        subst (λ n. ChancesPass (with s) (range_with_len 0 n)) (same_count s) (chances_pass numbers each (with s) (kept s fits).accepted passes_s)

    pub holds_with_added : HoldsWithAdded sheet task
    holds_with_added = record { later = tasks_later sheet.tasks task; uppers = uppers; smaller = smaller; greater = greater; chances = chances }

pub added_ticks : AddedSheets → NumbersAreAround → PassingIsEach → AddedTicks
added_ticks added numbers each sheet task is low = holds_with_added sheet task added numbers each is low
