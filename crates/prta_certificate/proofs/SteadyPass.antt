-- A pass over the first hyperperiod from a list, with the own job that comes next and the steady numbers so far.
use Rattle.std.proofs.Common.{◌≡◌, ℕ, suc, ◌+◌, ◌-◌, ◌/◌, ◌<◌, ◌≤◌, cond, Bool, true, false, ◌&&◌, ◌||◌, None, List, refl, ap, ap₂, sym, ◌∙◌, subst, arith, inl, inr, eq-eqb}
use Rattle.std.proofs.lemmas.Bool.{cases_lt}
use Rattle.prta_mass.specs.Unit.{unit}
use Rattle.prta_mass.specs.declared.direction.Dir.TheVariants.{Up}
use Rattle.prta_sheet.specs.Sheet.{Task, Sheet, task_at, hyperperiod}
use Rattle.prta_sheet.specs.Job.{nth_job, is_release}
use Rattle.prta_jobs.specs.TaskSet.{holds}
use Rattle.prta_jobs.specs.Instant.{IsOnSheet, IsLeastRelease, InstantParts, IsInstant}
use Rattle.prta_backlog.specs.Level.{Level, has_task}
use Rattle.prta_backlog.specs.LevelRun.{RunState, level_run}
use Rattle.prta_backlog.specs.Pass.{PassState, level_of, pass_level, pass_support, pass_run, pass_cells, pass_after, after_last, IsNext}
use Rattle.prta_backlog.proofs.Images.{InImage, image_start, image_step, same_level}
use Rattle.prta_response.specs.Response.{meeting_cell}
use Rattle.prta_certificate.specs.Certificate.{steady_number}
use Rattle.prta_certificate.proofs.FirstJobs.{release_within}
use Rattle.prta_backlog.proofs.OwnReleases.{Awaits, awaits_still, awaits_next, release_at, release_is, instant_within}

module _ (sheet : Sheet) (start : List ℕ) (higher : List Bool) (task : ℕ) where
  abbrev end : ℕ
  end = hyperperiod sheet.tasks

  abbrev own : Task
  own = task_at sheet.tasks task

  -- such a pass with these cells, where the own job of this number comes next
  pub record Awaiting (pass : PassState) (cells : List ℕ) (number : ℕ) : Type 0 where
    pub passes : InImage sheet start higher task end pass cells
    pub awaits : Awaits own number (after_last pass.last)

  pub awaiting_start : own.offset < own.period → Awaiting (record { higher = higher; task = task; dir = Up; resamples = false; last = None; made = 0 }) start 0
  awaiting_start early = record { passes = image_start sheet start higher task end; awaits = record { ahead = omega arith; next = omega (arith, early) } }

  module _ (pass : PassState) (cells : List ℕ) (number : ℕ) (is : Awaiting pass cells number) where
    level_is : pass_level pass ≡ level_of higher task
    level_is = same_level sheet start higher task end pass cells is.passes

    pub on_sheet : IsOnSheet sheet.tasks (has_task (level_of higher task)) → IsOnSheet sheet.tasks (has_task (pass_level pass))
    on_sheet within = subst (λ (level : Level). IsOnSheet sheet.tasks (has_task level)) (sym level_is) within

    pub apart : holds higher task ≡ false → holds pass.higher pass.task ≡ false
    apart not_held = ap (λ (level : Level). level.higher level.own) level_is ∙ not_held

    -- the list that it has is that of the level run
    run_is : level_run Up sheet.tasks (level_of higher task) None start 0 (after_last pass.last) ≡ pass_run pass cells
    run_is =
        let support : pass_support sheet pass ≡ None = ap (λ b. cond b sheet.settings.support None) is.passes.plain in
        ap (λ s. level_run Up sheet.tasks (level_of higher task) s start 0 (after_last pass.last)) (sym support)
        ∙ ap (λ l. level_run Up sheet.tasks l (pass_support sheet pass) start 0 (after_last pass.last)) (sym level_is)
        ∙ ap (λ d. level_run d sheet.tasks (pass_level pass) (pass_support sheet pass) start 0 (after_last pass.last)) (sym is.passes.up)
        ∙ is.passes.stands.run

    -- right after the release of an own job, what its response run leaves to the unit is the job's steady number
    pub number_is : (k met : ℕ) → after_last pass.last ≡ (nth_job sheet.tasks task k).release + 1 → met ≡ meeting_cell Up sheet.tasks (level_of higher task) (nth_job sheet.tasks task k).release cells →
        unit - met ≡ steady_number sheet.tasks (level_of higher task) start (nth_job sheet.tasks task k)
    number_is k met after e =
        let release : ℕ = (nth_job sheet.tasks task k).release in
        let from : release ≡ 0 + release = omega arith in
        let next : after_last pass.last ≡ suc release = omega (arith, after) in
        let list : cells ≡ (level_run Up sheet.tasks (level_of higher task) None start 0 (suc release)).cells =
        ap (λ (run : RunState). run.cells) (sym run_is ∙ ap (level_run Up sheet.tasks (level_of higher task) None start 0) next) in
        ap (λ m. unit - m) (e ∙ ap₂ (meeting_cell Up sheet.tasks (level_of higher task)) from list)

    -- whether the next instant releases an own job
    pub own_flag : (inside found : InstantParts) → inside ≡ found → IsInstant sheet.tasks (has_task (pass_level pass)) (after_last pass.last) found.at (holds found.released) →
        holds inside.released task ≡ is_release own found.at
    own_flag inside found e instant =
        ap (λ (i : InstantParts). holds i.released task) e
        ∙ instant.each task
        ∙ ap (λ (level : Level). has_task level task && is_release own found.at) level_is
        ∙ ap (λ b. (b || holds higher task) && is_release own found.at) (eq-eqb task task refl)

    module _ (t : ℕ) (next : IsNext sheet.tasks pass t) (early : own.offset < own.period) (few : number < end / own.period) where
      -- it is no later than the release of the own job that comes next
      no_later : t ≤ (nth_job sheet.tasks task number).release
      no_later = instant_within sheet.tasks (level_of higher task) number (after_last pass.last) t is.awaits
          (subst (λ (level : Level). IsLeastRelease sheet.tasks (has_task level) (after_last pass.last) t) level_is next)

      inside : t < end
      inside = omega (arith, no_later, release_within end own number early few)

      pub own_release : is_release own t ≡ true → t ≡ (nth_job sheet.tasks task number).release
      own_release flag = release_is own number (after_last pass.last) t is.awaits next.reached no_later flag

      module _ (pass' : PassState) (e : pass' ≡ pass_after sheet pass cells t) where
        after_is : after_last pass'.last ≡ t + 1
        after_is = ap (λ (p : PassState). after_last p.last) e

        pub nearer : end - after_last pass'.last < end - after_last pass.last
        nearer = omega (arith, after_is, inside, next.reached)

        module _ (cells' : List ℕ) (f : cells' ≡ pass_cells sheet pass cells t) (within : IsOnSheet sheet.tasks (has_task (level_of higher task))) where
          passes_on : InImage sheet start higher task end pass' cells'
          passes_on = image_step sheet start higher task end pass pass' cells cells' t is.passes (on_sheet within) next inside e f

          awaits_on : (number' : ℕ) → Awaits own number' (t + 1) → Awaiting pass' cells' number'
          awaits_on number' awaits = record { passes = passes_on; awaits = subst (Awaits own number') (sym after_is) awaits }

          -- the pass after an instant without an own job, and after one with the own job
          pub awaits_same : is_release own t ≡ false → Awaiting pass' cells' number
          awaits_same flag = awaits_on number (awaits_still own number (after_last pass.last) t is.awaits next.reached before)
            where
              before : t < (nth_job sheet.tasks task number).release
              before = elim (cases_lt t (nth_job sheet.tasks task number).release) [
                | inl sooner ↦ sooner
                | inr late ↦
                    let here : t ≡ (nth_job sheet.tasks task number).release = omega (arith, no_later) in
                    absurd (let both : true ≡ false = sym (release_at own number) ∙ ap (is_release own) (sym here) ∙ flag in cc)
              ]

          pub awaits_more : is_release own t ≡ true → Awaiting pass' cells' (number + 1)
          awaits_more flag = awaits_on (number + 1) (awaits_next own number t (omega (arith, early)) (own_release flag))
