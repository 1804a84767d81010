-- How many entries there are so far, and room for the rest.
use Rattle.std.proofs.Common.{◌≡◌, ℕ, zero, suc, ◌+◌, ◌-◌, ◌<◌, ◌≤◌, nat_eq, List, [], ◌∷◌, ◌++◌, filter, sum_by, flat_map, length, length-append, ap, ◌∙◌, arith}
use Rattle.std.proofs.lemmas.List.Sums.{sum_by-cons, sum_by-append}
use Rattle.std.proofs.lemmas.List.Elements.{filter-append}
use Rattle.prta_mass.specs.Chances.{point}
use Rattle.prta_mass.specs.declared.direction.Dir.{Dir}
use Rattle.prta_sheet.specs.Sheet.{Sheet, task_at, horizon}
use Rattle.prta_sheet.specs.Job.{Job, released_at, jobs_before}
use Rattle.prta_backlog.specs.Level.{Level, own_at}
use Rattle.prta_backlog.specs.Entries.{level_entries_at, level_entries, run_end}
use Rattle.prta_backlog.specs.Laws.{entry_count, delay_count}
use Rattle.prta_response.specs.Response.{delaying_jobs}
use Rattle.prta_response.specs.Delays.{delay_entries}
use Rattle.prta_dual.specs.Entries.{list_after, entries_at, entries_before, entries_in}
use Rattle.prta_dual.proofs.Amounts.{length-delay_entries}
use Rattle.prta_dual.proofs.Stretches.{end_within}

module _ (dir : Dir) (sheet : Sheet) (level : Level) where
  abbrev delays : Job → ℕ
  delays job = length (delaying_jobs sheet.tasks level job.release)

  -- those of the own jobs before a time
  abbrev delays_before : ℕ → ℕ
  delays_before t = sum_by delays (filter (λ job. nat_eq job.task level.own) (jobs_before sheet.tasks t))

  delays_suc : (t : ℕ) → delays_before (suc t) ≡ delays_before t + sum_by delays (own_at sheet.tasks level t)
  delays_suc t =
      ap (sum_by delays) (filter-append (λ (job : Job). nat_eq job.task level.own) (jobs_before sheet.tasks t) (released_at 0 sheet.tasks t))
      ∙ sum_by-append delays (filter (λ (job : Job). nat_eq job.task level.own) (jobs_before sheet.tasks t)) (own_at sheet.tasks level t)

  abbrev runs : ℕ → ℕ
  runs t = length (level_entries dir sheet.tasks level sheet.settings.support (point sheet.settings.cap 0) t)

  abbrev runs_at : ℕ → ℕ
  runs_at t = length (level_entries_at dir sheet.tasks level sheet.settings.support (point sheet.settings.cap 0) t)

  runs_suc : (t : ℕ) → runs (suc t) ≡ runs t + runs_at t
  runs_suc t =
      length-append (level_entries dir sheet.tasks level sheet.settings.support (point sheet.settings.cap 0) t)
      (level_entries_at dir sheet.tasks level sheet.settings.support (point sheet.settings.cap 0) t)

  -- at most one for each delay
  responses_low : (list : List ℕ) (jobs : List Job) → length (flat_map (λ job. delay_entries dir sheet.tasks level job list) jobs) ≤ sum_by delays jobs
  responses_low list [] = omega arith
  responses_low list (job ∷ jobs) =
      omega (
        arith,
        length-append (delay_entries dir sheet.tasks level job list) (flat_map (λ (job : Job). delay_entries dir sheet.tasks level job list) jobs),
        length-delay_entries dir sheet.tasks level job list,
        responses_low list jobs,
        sum_by-cons delays job jobs,
      )

  before_low : (t : ℕ) → length (entries_before dir sheet level t) ≤ runs t + delays_before t
  before_low zero = omega arith
  before_low (suc t) =
      let own : List Job = own_at sheet.tasks level t in
      omega (
        arith,
        length-append (entries_before dir sheet level t) (entries_at dir sheet level t),
        length-append (level_entries_at dir sheet.tasks level sheet.settings.support (point sheet.settings.cap 0) t) (flat_map (λ (job : Job). delay_entries dir sheet.tasks level job (list_after dir sheet level t)) own),
        before_low t,
        responses_low (list_after dir sheet level t) own,
        runs_suc t,
        delays_suc t,
      )

  -- both only rise
  rising : (t n : ℕ) → (runs t ≤ runs (n + t)) × (delays_before t ≤ delays_before (n + t))
  rising t zero = let same : 0 + t ≡ t = omega arith in (omega (arith, ap runs same), omega (arith, ap delays_before same))
  rising t (suc n) =
      let next : suc n + t ≡ suc (n + t) = omega arith in (
        omega (arith, ap runs next, runs_suc (n + t), (rising t n).0),
        omega (arith, ap delays_before next, delays_suc (n + t), (rising t n).1),
      )

  -- up to a time in the analysis there are no more than in all
  so_far : (t : ℕ) → t ≤ run_end (task_at sheet.tasks level.own) (horizon sheet) → runs t + delays_before t ≤ entry_count dir sheet level + delay_count sheet level
  so_far t low =
      let within : run_end (task_at sheet.tasks level.own) (horizon sheet) ≤ horizon sheet = end_within (task_at sheet.tasks level.own) (horizon sheet) in
      let end : ℕ = run_end (task_at sheet.tasks level.own) (horizon sheet) in
      let first : (end - t) + t ≡ end = omega arith in
      let second : (horizon sheet - t) + t ≡ horizon sheet = omega arith in
      omega (arith, ap runs first, (rising t (end - t)).0, ap delays_before second, (rising t (horizon sheet - t)).1)

  pub few_before : (t : ℕ) → t ≤ run_end (task_at sheet.tasks level.own) (horizon sheet) → length (entries_before dir sheet level t) ≤ entry_count dir sheet level + delay_count sheet level
  few_before t low = omega (arith, before_low t, so_far t low)

  pub few_in : length (entries_in dir sheet level) ≤ entry_count dir sheet level + delay_count sheet level
  few_in = few_before (run_end (task_at sheet.tasks level.own) (horizon sheet)) (omega arith)

  -- and at the release of an own job there is room for its delays
  pub few_at : (t : ℕ) (job : Job) → own_at sheet.tasks level t ≡ job ∷ [] → t < run_end (task_at sheet.tasks level.own) (horizon sheet) →
      length (entries_before dir sheet level t ++ level_entries_at dir sheet.tasks level sheet.settings.support (point sheet.settings.cap 0) t) + length (delaying_jobs sheet.tasks level job.release)
      ≤ entry_count dir sheet level + delay_count sheet level
  few_at t job own low =
      omega (
        arith,
        length-append (entries_before dir sheet level t) (level_entries_at dir sheet.tasks level sheet.settings.support (point sheet.settings.cap 0) t),
        before_low t,
        so_far (suc t) (omega arith),
        runs_suc t,
        delays_suc t,
        ap (sum_by delays) own,
        sum_by-cons delays job [],
      )
