-- A pass of one direction from instant to instant, with what is noted and the own job that comes next.
use Rattle.std.proofs.Common.{◌≡◌, ℕ, zero, suc, ◌+◌, ◌-◌, ◌*◌, ◌<◌, ◌≤◌, Bool, true, false, ◌&&◌, ◌||◌, Option, Some, List, [], ◌∷◌, ◌++◌, flat_map, length, length-append, append-nil, append_assoc, refl, ap, ap₂, sym, ◌∙◌, subst, arith, inl, inr, eq-eqb}
use Rattle.std.proofs.lemmas.Bool.{cases_lt}
use Rattle.std.proofs.lemmas.List.{append_cancel_left}
use Rattle.prta_mass.specs.Unit.{unit}
use Rattle.prta_mass.specs.Chances.{point}
use Rattle.prta_mass.specs.declared.direction.Dir.{Dir}
use Rattle.prta_sheet.specs.Sheet.{Task, Sheet, task_at, horizon}
use Rattle.prta_sheet.specs.Job.{Job, nth_job, is_release}
use Rattle.prta_sheet.specs.Counts.{releases, job_count}
use Rattle.prta_sheet.specs.Accepted.{IsAccepted, IsTask}
use Rattle.prta_sheet.proofs.JobSums.{releases_before}
use Rattle.prta_jobs.specs.TaskSet.{holds}
use Rattle.prta_jobs.specs.Instant.{IsOnSheet, IsLeastRelease, InstantParts, IsInstant}
use Rattle.prta_ledger.specs.declared.entry.Entry.{Entry}
use Rattle.prta_ledger.specs.Noted.{appended, appended-append}
use Rattle.prta_backlog.specs.Level.{Level, has_task, own_at}
use Rattle.prta_backlog.specs.LevelRun.{RunState, level_run}
use Rattle.prta_backlog.specs.Entries.{level_entries_at, level_entries, run_end}
use Rattle.prta_backlog.specs.Pass.{PassState, level_of, pass_level, after_last, pass_cells, pass_after, pass_entries, StandsInRun, IsNext}
use Rattle.prta_backlog.specs.Laws.{StepsOn, StaysStill, entry_count, delay_count}
use Rattle.prta_backlog.proofs.Steps.{steps_follow_runs, runs_stay_still}
use Rattle.prta_response.specs.Response.{delaying_jobs, meeting_cell, number_of}
use Rattle.prta_response.specs.Delays.{delay_entries}
use Rattle.prta_dual.specs.Entries.{list_after, entries_before}
use Rattle.prta_dual.proofs.Stretches.{ends_at_once, ends_after_last, end_within, released_before_end, still_entries}
use Rattle.prta_dual.proofs.RoomSoFar.{few_before, few_at}
use Rattle.prta_backlog.proofs.OwnReleases.{Awaits, awaits_still, awaits_next, release_at, release_is, instant_within, no_own_job, own_job}

-- ---- what is noted

-- these entries were appended, and took no more room than their number
pub record HaveNoted (entries : List Entry) (noted_before : Option (List Entry)) (room_before : ℕ) (noted_now : Option (List Entry)) (room_now : ℕ) : Type 0 where
  pub noted : noted_now ≡ appended noted_before entries
  pub room : room_before ≤ room_now + length entries

pub noted_more : (xs ys : List Entry) (a b c : Option (List Entry)) (r s t : ℕ) → HaveNoted xs a r b s → c ≡ appended b ys → s ≤ t + length ys → HaveNoted (xs ++ ys) a r c t
noted_more xs ys a b c r s t is e low = record {
  noted = e ∙ ap (λ o. appended o ys) is.noted ∙ appended-append a xs ys;
  room = omega (arith, is.room, length-append xs ys);
}

-- ---- the level run of one direction

-- a pass in a direction over a level that re-samples where the sheet has a support
abbrev pub passing : Dir → List Bool → ℕ → Option ℕ → ℕ → PassState
passing dir higher task last made = record { higher = higher; task = task; dir = dir; resamples = true; last = last; made = made }

-- the entries of the level run at a time
abbrev pub run_entries_at : Dir → Sheet → Level → ℕ → List Entry
run_entries_at dir sheet level t = level_entries_at dir sheet.tasks level sheet.settings.support (point sheet.settings.cap 0) t

module _ (dir : Dir) (sheet : Sheet) (higher : List Bool) (task : ℕ) where
  -- such a pass with these cells stands in its level run, and the own job of this number comes next
  pub record Follows (pass : PassState) (cells : List ℕ) (number : ℕ) : Type 0 where
    pub parts : pass ≡ passing dir higher task pass.last pass.made
    pub stands : StandsInRun sheet (point sheet.settings.cap 0) pass cells
    pub awaits : Awaits (task_at sheet.tasks task) number (after_last pass.last)
    pub within : after_last pass.last ≤ run_end (task_at sheet.tasks task) (horizon sheet)

  -- its next instant is no later than the release of that job, and in the analysis where the job is analysed
  pub record Comes (number t : ℕ) : Type 0 where
    pub early : t ≤ (nth_job sheet.tasks task number).release
    pub inside : t < run_end (task_at sheet.tasks task) (horizon sheet)

  pub next_comes : (pass : PassState) (cells : List ℕ) (number t : ℕ) → Follows pass cells number → IsNext sheet.tasks pass t → number < releases (task_at sheet.tasks task) (horizon sheet) → Comes number t
  next_comes pass cells number t is next low =
      let own : IsLeastRelease sheet.tasks (has_task (level_of higher task)) (after_last pass.last) t = subst (λ (p : PassState). IsNext sheet.tasks p t) is.parts next in
      let early : t ≤ (nth_job sheet.tasks task number).release = instant_within sheet.tasks (level_of higher task) number (after_last pass.last) t is.awaits own in
      record { early = early; inside = omega (arith, early, released_before_end (task_at sheet.tasks task) number (horizon sheet) low) }

  -- what its next instant brings
  pub record Steps (pass : PassState) (cells : List ℕ) (t : ℕ) : Type 0 where
    pub stands : StandsInRun sheet (point sheet.settings.cap 0) (pass_after sheet pass cells t) (pass_cells sheet pass cells t)
    pub list : pass_cells sheet pass cells t ≡ list_after dir sheet (level_of higher task) t
    pub entries : entries_before dir sheet (level_of higher task) (after_last pass.last) ++ pass_entries sheet pass cells t
        ≡ entries_before dir sheet (level_of higher task) t ++ run_entries_at dir sheet (level_of higher task) t

  steps_passing : (last : Option ℕ) (made : ℕ) (cells : List ℕ) (t : ℕ) → IsOnSheet sheet.tasks (has_task (level_of higher task)) →
      StandsInRun sheet (point sheet.settings.cap 0) (passing dir higher task last made) cells → IsNext sheet.tasks (passing dir higher task last made) t → Steps (passing dir higher task last made) cells t
  steps_passing last made cells t within stands next =
      let start : List ℕ = point sheet.settings.cap 0 in
      let level : Level = level_of higher task in
      let pass : PassState = passing dir higher task last made in
      let on : StepsOn sheet start pass cells t = steps_follow_runs sheet start pass cells t within stands next in
      let still : StaysStill sheet start pass t = runs_stay_still sheet start pass t t next next.reached (omega arith) in
      let after : suc t ≡ t + 1 = omega arith in
      let run : ℕ → List Entry = level_entries dir sheet.tasks level sheet.settings.support start in
      let same : pass_entries sheet pass cells t ≡ run_entries_at dir sheet level t =
      append_cancel_left (run t) (pass_entries sheet pass cells t) (run_entries_at dir sheet level t) (ap (λ es. es ++ pass_entries sheet pass cells t) still.entries ∙ sym on.entries ∙ ap run (sym after)) in
      record {
        stands = on.stands;
        list = ap (λ (run : RunState). run.cells) (sym on.stands.run ∙ ap (level_run dir sheet.tasks level sheet.settings.support start 0) (sym after));
        entries = ap₂ (λ xs ys. xs ++ ys) (sym (still_entries dir sheet level (after_last last) t t next next.reached (omega arith))) same;
      }

  pub steps : (pass : PassState) (cells : List ℕ) (number t : ℕ) → IsOnSheet sheet.tasks (has_task (level_of higher task)) → Follows pass cells number → IsNext sheet.tasks pass t → Steps pass cells t
  steps pass cells number t within is next =
      subst (λ (p : PassState). Steps p cells t) (sym is.parts)
      (steps_passing pass.last pass.made cells t within (subst (λ (p : PassState). StandsInRun sheet (point sheet.settings.cap 0) p cells) is.parts is.stands) (subst (λ (p : PassState). IsNext sheet.tasks p t) is.parts next))

  -- the pass after it
  pub follows_after : (pass pass' : PassState) (cells cells' : List ℕ) (number number' t : ℕ) → Follows pass cells number → Steps pass cells t →
      pass' ≡ pass_after sheet pass cells t → cells' ≡ pass_cells sheet pass cells t → Awaits (task_at sheet.tasks task) number' (t + 1) → t < run_end (task_at sheet.tasks task) (horizon sheet) →
      Follows pass' cells' number'
  follows_after pass pass' cells cells' number number' t is on e f awaits low =
      subst (λ (p : PassState). Follows p cells' number') (sym e)
      (subst (λ list. Follows (pass_after sheet pass cells t) list number') (sym f) record {
        parts = ap (λ (p : PassState). record p { last = Some t; made = (pass_after sheet pass cells t).made }) is.parts;
        stands = on.stands;
        awaits = awaits;
        within = omega (arith, low);
      })

-- ---- the entries of an instant

module _ (dir : Dir) (sheet : Sheet) (level : Level) (t : ℕ) where
  abbrev responses : List Job → List Entry
  responses jobs = flat_map (λ job. delay_entries dir sheet.tasks level job (list_after dir sheet level t)) jobs

  -- without an own job they are those of the level run
  pub without_own : own_at sheet.tasks level t ≡ [] → entries_before dir sheet level t ++ run_entries_at dir sheet level t ≡ entries_before dir sheet level (t + 1)
  without_own none =
      let after : suc t ≡ t + 1 = omega arith in
      ap (λ es. entries_before dir sheet level t ++ es) (sym (append-nil (run_entries_at dir sheet level t)) ∙ ap (λ jobs. run_entries_at dir sheet level t ++ responses jobs) (sym none))
      ∙ ap (entries_before dir sheet level) after

  -- and then those of its response run
  pub with_own : (job : Job) → own_at sheet.tasks level t ≡ job ∷ [] →
      (entries_before dir sheet level t ++ run_entries_at dir sheet level t) ++ delay_entries dir sheet.tasks level job (list_after dir sheet level t) ≡ entries_before dir sheet level (t + 1)
  with_own job own =
      let after : suc t ≡ t + 1 = omega arith in
      append_assoc (entries_before dir sheet level t) (run_entries_at dir sheet level t) (delay_entries dir sheet.tasks level job (list_after dir sheet level t))
      ∙ ap (λ es. entries_before dir sheet level t ++ (run_entries_at dir sheet level t ++ es)) (sym (append-nil (delay_entries dir sheet.tasks level job (list_after dir sheet level t))) ∙ ap responses (sym own))
      ∙ ap (entries_before dir sheet level) after

-- ---- an instant

-- the own task is on the sheet
pub own_low : (sheet : Sheet) (higher : List Bool) (task : ℕ) → IsOnSheet sheet.tasks (has_task (level_of higher task)) → task < length sheet.tasks
own_low sheet higher task within = within task (ap (λ b. b || holds higher task) (eq-eqb task task refl))

module _ (dir : Dir) (sheet : Sheet) (higher : List Bool) (task : ℕ) (within : IsOnSheet sheet.tasks (has_task (level_of higher task))) (accepted : IsAccepted sheet) where
  abbrev level : Level
  level = level_of higher task

  listed : task < length sheet.tasks
  listed = own_low sheet higher task within

  own_ranges : IsTask sheet.settings.cap (task_at sheet.tasks task)
  own_ranges = accepted.tasks task _ listed

  -- whether the next instant releases an own job
  pub own_flag : (pass : PassState) (cells : List ℕ) (number : ℕ) → Follows dir sheet higher task pass cells number → (inside found : InstantParts) → inside ≡ found →
      IsInstant sheet.tasks (has_task (pass_level pass)) (after_last pass.last) found.at (holds found.released) → holds inside.released task ≡ is_release (task_at sheet.tasks task) found.at
  own_flag pass cells number is inside found e instant =
      ap (λ (i : InstantParts). holds i.released task) e
      ∙ instant.each task
      ∙ ap (λ (p : PassState). has_task (pass_level p) task && is_release (task_at sheet.tasks task) found.at) is.parts
      ∙ ap (λ b. (b || holds higher task) && is_release (task_at sheet.tasks task) found.at) (eq-eqb task task refl)

  counted : (number : ℕ) → number < job_count sheet task → number < releases (task_at sheet.tasks task) (horizon sheet)
  counted number low = omega (arith, low, releases_before sheet.tasks task (horizon sheet) listed)

  -- before the last analysed own job there is room for the entries of one more instant
  pub entries_fit : (pass : PassState) (cells : List ℕ) (number : ℕ) → Follows dir sheet higher task pass cells number → number < job_count sheet task →
      (a b : Option (List Entry)) (r s : ℕ) → HaveNoted (entries_before dir sheet level (after_last pass.last)) a r b s → entry_count dir sheet level + delay_count sheet level + 26 ≤ r → 26 ≤ s
  entries_fit pass cells number is low a b r s noted enough = omega (arith, enough, noted.room, few_before dir sheet level (after_last pass.last) is.within)

  -- after the last one the pass stands at the end
  pub stands_at_end : (pass : PassState) (cells : List ℕ) → Follows dir sheet higher task pass cells (job_count sheet task) → after_last pass.last ≡ run_end (task_at sheet.tasks task) (horizon sheet)
  stands_at_end pass cells is =
      let own : Task = task_at sheet.tasks task in
      let all : job_count sheet task ≡ releases own (horizon sheet) = releases_before sheet.tasks task (horizon sheet) listed in
      elim (cases_lt 0 (job_count sheet task)) [
        | inl some ↦ omega (arith, is.within, is.awaits.next, (ends_after_last own (horizon sheet) (counted 0 some)).last, one_less (job_count sheet task) (releases own (horizon sheet)) own.period all some)
        | inr none ↦
            let no : releases own (horizon sheet) ≡ 0 = omega (arith, all) in
            omega (arith, is.within, ends_at_once own (horizon sheet) no)
      ]
    where
      one_less : (n m p : ℕ) → n ≡ m → 0 < n → n * p ≡ (m - 1) * p + p
      one_less zero m p e some = absurd (omega arith)
      one_less (suc n) m p e some = let less : m - 1 ≡ n = omega arith in rw less (omega arith)

  module _ (pass : PassState) (cells : List ℕ) (number t : ℕ) (is : Follows dir sheet higher task pass cells number) (next : IsNext sheet.tasks pass t) (low : number < job_count sheet task) where
    comes : Comes dir sheet higher task number t
    comes = next_comes dir sheet higher task pass cells number t is next (counted number low)

    brought : Steps dir sheet higher task pass cells t
    brought = steps dir sheet higher task pass cells number t within is next

    -- the next instant is nearer to the horizon
    pub nearer : (pass' : PassState) → pass' ≡ pass_after sheet pass cells t → horizon sheet - after_last pass'.last < horizon sheet - after_last pass.last
    nearer pass' e =
        omega (arith, ap (λ (p : PassState). after_last p.last) e, comes.inside, end_within (task_at sheet.tasks task) (horizon sheet), next.reached)

    is_own_release : is_release (task_at sheet.tasks task) t ≡ true → t ≡ (nth_job sheet.tasks task number).release
    is_own_release flag = release_is (task_at sheet.tasks task) number (after_last pass.last) t is.awaits next.reached comes.early flag

    -- what its response run leaves to the unit is the job's number
    pub own_number : is_release (task_at sheet.tasks task) t ≡ true → (cells' : List ℕ) (met : ℕ) → cells' ≡ pass_cells sheet pass cells t →
        met ≡ meeting_cell dir sheet.tasks level (nth_job sheet.tasks task number).release cells' → unit - met ≡ number_of dir sheet level (nth_job sheet.tasks task number)
    own_number flag cells' met f e =
        let release : ℕ = (nth_job sheet.tasks task number).release in
        let from : release ≡ 0 + release = omega arith in
        ap (λ m. unit - m) (e ∙ ap₂ (meeting_cell dir sheet.tasks level) from (f ∙ brought.list ∙ ap (list_after dir sheet level) (is_own_release flag)))

    -- the pass after an instant without an own job, and after one with the own job
    pub follows_other : (pass' : PassState) (cells' : List ℕ) → is_release (task_at sheet.tasks task) t ≡ false → pass' ≡ pass_after sheet pass cells t → cells' ≡ pass_cells sheet pass cells t →
        Follows dir sheet higher task pass' cells' number
    follows_other pass' cells' flag e f =
        follows_after dir sheet higher task pass pass' cells cells' number number t is brought e f
        (awaits_still (task_at sheet.tasks task) number (after_last pass.last) t is.awaits next.reached before) comes.inside
      where
        before : t < (nth_job sheet.tasks task number).release
        before = elim (cases_lt t (nth_job sheet.tasks task number).release) [
          | inl early ↦ early
          | inr late ↦
              let here : t ≡ (nth_job sheet.tasks task number).release = omega (arith, comes.early) in
              absurd (let both : true ≡ false = sym (release_at (task_at sheet.tasks task) number) ∙ ap (is_release (task_at sheet.tasks task)) (sym here) ∙ flag in cc)
        ]

    pub follows_own : (pass' : PassState) (cells' : List ℕ) → is_release (task_at sheet.tasks task) t ≡ true → pass' ≡ pass_after sheet pass cells t → cells' ≡ pass_cells sheet pass cells t →
        Follows dir sheet higher task pass' cells' (number + 1)
    follows_own pass' cells' flag e f =
        follows_after dir sheet higher task pass pass' cells cells' number (number + 1) t is brought e f
        (awaits_next (task_at sheet.tasks task) number t own_ranges.period_low (is_own_release flag)) comes.inside

    module _ (a b c : Option (List Entry)) (r s u : ℕ) (noted : HaveNoted (entries_before dir sheet level (after_last pass.last)) a r b s)
        (more : c ≡ appended b (pass_entries sheet pass cells t)) (room : s ≤ u + length (pass_entries sheet pass cells t)) where
      -- the step notes the entries of the level run
      level_noted : HaveNoted (entries_before dir sheet level t ++ run_entries_at dir sheet level t) a r c u
      level_noted = subst (λ es. HaveNoted es a r c u) brought.entries (noted_more (entries_before dir sheet level (after_last pass.last)) (pass_entries sheet pass cells t) a b c r s u noted more room)

      pub noted_other : is_release (task_at sheet.tasks task) t ≡ false → HaveNoted (entries_before dir sheet level (t + 1)) a r c u
      noted_other flag = subst (λ es. HaveNoted es a r c u) (without_own dir sheet level t (no_own_job sheet.tasks level t listed flag)) level_noted

      own_is : is_release (task_at sheet.tasks task) t ≡ true → own_at sheet.tasks level t ≡ nth_job sheet.tasks task number ∷ []
      own_is flag = own_job sheet.tasks level number t listed own_ranges.period_low (is_own_release flag)

      -- and then the response run those of its delays
      pub noted_own : is_release (task_at sheet.tasks task) t ≡ true → (cells' : List ℕ) → cells' ≡ pass_cells sheet pass cells t → (d : Option (List Entry)) (v : ℕ) →
          d ≡ appended c (delay_entries dir sheet.tasks level (nth_job sheet.tasks task number) cells') → u ≤ v + length (delay_entries dir sheet.tasks level (nth_job sheet.tasks task number) cells') →
          HaveNoted (entries_before dir sheet level (t + 1)) a r d v
      noted_own flag cells' f d v e low =
          subst (λ es. HaveNoted es a r d v)
          (ap (λ list. (entries_before dir sheet level t ++ run_entries_at dir sheet level t) ++ delay_entries dir sheet.tasks level (nth_job sheet.tasks task number) list) (f ∙ brought.list)
          ∙ with_own dir sheet level t (nth_job sheet.tasks task number) (own_is flag))
          (noted_more (entries_before dir sheet level t ++ run_entries_at dir sheet level t) (delay_entries dir sheet.tasks level (nth_job sheet.tasks task number) cells') a c d r u v level_noted e low)

      -- room for the delays of the own job
      pub delays_fit : is_release (task_at sheet.tasks task) t ≡ true → entry_count dir sheet level + delay_count sheet level ≤ r →
          length (delaying_jobs sheet.tasks level (nth_job sheet.tasks task number).release) ≤ u
      delays_fit flag enough = omega (arith, level_noted.room, few_at dir sheet level t (nth_job sheet.tasks task number) (own_is flag) comes.inside)
