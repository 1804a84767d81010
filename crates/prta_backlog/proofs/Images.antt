-- A pass without re-sampling through one hyperperiod makes the image.
use Rattle.std.proofs.Common.{◌≡◌, ℕ, ◌-◌, ◌≤◌, ◌<◌, Bool, true, false, cond, None, List, refl, ap, sym, ◌∙◌, subst, arith, ⊎_elim}
use Rattle.std.specs.Prelude.{unwrap_or}
use Rattle.std.proofs.lemmas.Bool.{cases_lt}
use Rattle.prta_mass.specs.declared.direction.Dir.TheVariants.{Up}
use Rattle.prta_sheet.specs.Sheet.{Task, Sheet}
use Rattle.prta_shift.specs.Shift.{shifted}
use Rattle.prta_jobs.specs.Instant.{IsOnSheet, IsLeastRelease}
use Rattle.prta_backlog.specs.Level.{has_task}
use Rattle.prta_backlog.specs.LevelRun.{RunState, level_run, image}
use Rattle.prta_backlog.specs.Pass.{PassState, level_of, pass_level, pass_support, after_last, pass_run, pass_cells, pass_after, StandsInRun, IsNext}
use Rattle.prta_backlog.specs.Laws.{StepsOn, StaysStill}
use Rattle.prta_backlog.proofs.Steps.{steps_follow_runs, runs_stay_still}

-- there is just one least release
pub least_same : (tasks : List Task) (level : ℕ → Bool) (from s t : ℕ) → IsLeastRelease tasks level from s → IsLeastRelease tasks level from t → s ≡ t
least_same tasks level from s t a b =
    ⊎_elim
    (λ (l : s < t). absurd (none a.some.0 a.some.1 (b.least s a.reached l a.some.0)))
    (λ (l : t ≤ s). ⊎_elim
    (λ (m : t < s). absurd (none b.some.0 b.some.1 (a.least t b.reached m b.some.0)))
    (λ (m : s ≤ t). omega arith)
    (cases_lt t s))
    (cases_lt s t)
  where
    none : {b : Bool} (i : ℕ) → b ≡ true → b ≡ false → ⊥
    none i e f = cc

-- a pass in Up without re-sampling stands in the run from a list, before an end
pub record InImage (sheet : Sheet) (start : List ℕ) (higher : List Bool) (task end : ℕ) (pass : PassState) (cells : List ℕ) : Type 0 where
  pub higher_is : pass.higher ≡ higher
  pub task_is : pass.task ≡ task
  pub up : pass.dir ≡ Up
  pub plain : pass.resamples ≡ false
  pub stands : StandsInRun sheet start pass cells
  pub within : after_last pass.last ≤ end

pub image_start : (sheet : Sheet) (start : List ℕ) (higher : List Bool) (task end : ℕ) →
    InImage sheet start higher task end (record { higher = higher; task = task; dir = Up; resamples = false; last = None; made = 0 }) start
image_start sheet start higher task end = record { higher_is = refl; task_is = refl; up = refl; plain = refl; stands = record { run = refl; made = refl }; within = omega arith }

module _ (sheet : Sheet) (start : List ℕ) (higher : List Bool) (task end : ℕ) where
  -- its level
  pub same_level : (pass : PassState) (cells : List ℕ) → InImage sheet start higher task end pass cells → pass_level pass ≡ level_of higher task
  same_level pass cells is = ap (λ h. level_of h pass.task) is.higher_is ∙ ap (level_of higher) is.task_is

  pub image_step : (pass pass' : PassState) (cells cells' : List ℕ) (t : ℕ) → InImage sheet start higher task end pass cells → IsOnSheet sheet.tasks (has_task (pass_level pass)) →
      IsNext sheet.tasks pass t → t < end → pass' ≡ pass_after sheet pass cells t → cells' ≡ pass_cells sheet pass cells t → InImage sheet start higher task end pass' cells'
  image_step pass pass' cells cells' t is within next low e f =
      let on : StepsOn sheet start pass cells t = steps_follow_runs sheet start pass cells t within is.stands next in
      subst (λ p. InImage sheet start higher task end p cells') (sym e)
      (subst (InImage sheet start higher task end (pass_after sheet pass cells t)) (sym f)
      (record { higher_is = is.higher_is; task_is = is.task_is; up = is.up; plain = is.plain; stands = on.stands; within = omega arith }))

  pub image_end : (pass : PassState) (cells : List ℕ) (t : ℕ) → InImage sheet start higher task end pass cells → IsNext sheet.tasks pass t → end ≤ t →
      shifted (end - unwrap_or pass.last 0) cells ≡ image sheet.tasks (level_of higher task) end start
  image_end pass cells t is next high =
      let still : StaysStill sheet start pass end = runs_stay_still sheet start pass t end next is.within high in
      let support : pass_support sheet pass ≡ None = ap (λ b. cond b sheet.settings.support None) is.plain in
      let run : level_run Up sheet.tasks (level_of higher task) None start 0 end ≡ pass_run pass cells =
      ap (λ s. level_run Up sheet.tasks (level_of higher task) s start 0 end) (sym support)
      ∙ ap (λ l. level_run Up sheet.tasks l (pass_support sheet pass) start 0 end) (sym (same_level pass cells is))
      ∙ ap (λ d. level_run d sheet.tasks (pass_level pass) (pass_support sheet pass) start 0 end) (sym is.up)
      ∙ still.run
      ∙ is.stands.run in
      ap (λ (r : RunState). shifted (end - r.since) r.cells) (sym run)
