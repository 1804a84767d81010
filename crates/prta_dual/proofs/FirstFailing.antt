-- The first failing job of a task, and of the tasks from one on.
use Rattle.std.proofs.Common.{◌≡◌, ℕ, ◌+◌, ◌-◌, ◌<◌, Bool, not, Option, Some, None, option_map, find, length, flat_map, refl, ap, sym, ◌∙◌, subst}
use Rattle.std.specs.List.{range_with_len}
use Rattle.std.specs.Option.{option_or}
use Rattle.prta_mass.specs.declared.direction.Dir.{Dir}
use Rattle.prta_mass.specs.declared.direction.Dir.TheVariants.{Up}
use Rattle.prta_sheet.specs.Sheet.{Sheet}
use Rattle.prta_sheet.specs.Job.{Job, nth_job}
use Rattle.prta_sheet.specs.Counts.{job_count}
use Rattle.prta_sheet.specs.Accepted.{IsAccepted}
use Rattle.prta_backlog.specs.Level.{Level, sheet_level}
use Rattle.prta_backlog.specs.Room.{own_jobs}
use Rattle.prta_dual.specs.Numbers.{upper}
use Rattle.prta_dual.specs.Laws.{OwnJobsInTurn}
use Rattle.prta_dual.specs.declared.failing.Failing.{Failing}
use Rattle.prta_dual.specs.Failing.{fails, failing_number, failing_at, upper_passes, failing_job, failing, found_job}
use Rattle.prta_dual.proofs.Finding.{found_from, found_mapped}

-- the first failing own job from a number on
abbrev pub failing_since : Dir → Sheet → Level → ℕ → Option ℕ
failing_since dir sheet level number = find (fails dir sheet level) (range_with_len number (job_count sheet level.own - number))

-- the first failing job of the tasks from i on
abbrev pub failing_from : Sheet → ℕ → Option Job
failing_from sheet i = find (λ job. not (upper_passes sheet job)) (flat_map (own_jobs sheet) (range_with_len i (length sheet.tasks - i)))

-- what is found below the tasks before task i
abbrev pub found_below : Sheet → ℕ → Option Failing
found_below sheet i = option_map (failing_at Up sheet (sheet_level i)) (failing_number Up sheet (sheet_level i))

module _ (turn : OwnJobsInTurn) (sheet : Sheet) (i : ℕ) (is : IsAccepted sheet) (low : i < length sheet.tasks) where
  -- the first failing job is the task's own, or else one of the tasks after it
  failing_more : failing_from sheet i ≡ option_or (option_map (nth_job sheet.tasks i) (failing_number Up sheet (sheet_level i))) (failing_from sheet (i + 1))
  failing_more =
      let test : Job → Bool = λ job. not (upper_passes sheet job) in
      let own : find test (own_jobs sheet i) ≡ option_map (nth_job sheet.tasks i) (failing_number Up sheet (sheet_level i)) =
      ap (find test) (turn sheet i is low) ∙ found_mapped test (nth_job sheet.tasks i) (range_with_len 0 (job_count sheet i)) in
      found_from test (own_jobs sheet) i (length sheet.tasks) low ∙ ap (λ found. option_or found (failing_from sheet (i + 1))) own

  -- where none of its own fails, it is one of the tasks after it
  pub none_here : found_below sheet i ≡ None → failing_from sheet i ≡ failing_from sheet (i + 1)
  none_here none = failing_more ∙ ap (λ (found : Option ℕ). option_or (option_map (nth_job sheet.tasks i) found) (failing_from sheet (i + 1))) (of_none (failing_number Up sheet (sheet_level i)) none)
    where
      of_none : (found : Option ℕ) → option_map (failing_at Up sheet (sheet_level i)) found ≡ None → found ≡ None
      of_none None none = refl
      of_none (Some k) none = cc

  -- where no task before has one, the one that is found is the first of all
  pub first_here : (found : Failing) → failing_job sheet ≡ failing_from sheet i → found_below sheet i ≡ Some found → Some (found_job sheet found) ≡ failing sheet
  first_here found before e = of_found (failing_number Up sheet (sheet_level i)) refl e
    where
      with_upper : Job → Job × ℕ
      with_upper job = (job, upper sheet (sheet_level job.task) job)

      of_found : (number : Option ℕ) → failing_number Up sheet (sheet_level i) ≡ number → option_map (failing_at Up sheet (sheet_level i)) number ≡ Some found → Some (found_job sheet found) ≡ failing sheet
      of_found None e f = cc
      of_found (Some k) e f =
          let same : failing_at Up sheet (sheet_level i) k ≡ found = cc in
          let first : failing_job sheet ≡ Some (nth_job sheet.tasks i k) = before ∙ failing_more ∙ ap (λ (n : Option ℕ). option_or (option_map (nth_job sheet.tasks i) n) (failing_from sheet (i + 1))) e in
          sym (ap (λ (f : Failing). Some (found_job sheet f)) same) ∙ sym (ap (option_map with_upper) first)

  pub task_here : (found : Failing) → found_below sheet i ≡ Some found → found.task < length sheet.tasks
  task_here found e = of_found (failing_number Up sheet (sheet_level i)) e
    where
      of_found : (number : Option ℕ) → option_map (failing_at Up sheet (sheet_level i)) number ≡ Some found → found.task < length sheet.tasks
      of_found None f = cc
      of_found (Some k) f = let same : failing_at Up sheet (sheet_level i) k ≡ found = cc in subst (λ (f : Failing). f.task < length sheet.tasks) same low
