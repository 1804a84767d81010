-- How far the runs of the two directions come apart: by no more than the amounts of their operations.
use Rattle.std.proofs.Common.{◌≡◌, ℕ, zero, suc, ◌+◌, ◌-◌, ◌<◌, ◌≤◌, Bool, true, false, cond, Option, Some, None, List, [], ◌∷◌, ◌++◌, length, refl, sym, subst, arith, zero-add}
use Rattle.std.specs.List.{AllByRecursion as Each}
use Rattle.prta_mass.specs.Unit.{unit}
use Rattle.prta_mass.specs.Table.{Table, IsTable}
use Rattle.prta_mass.specs.Chances.{IsChances}
use Rattle.prta_mass.specs.declared.direction.Dir.TheVariants.{Up, Down}
use Rattle.prta_mass.specs.declared.support.Support.{Support}
use Rattle.prta_sheet.specs.Sheet.{Task, task_at}
use Rattle.prta_sheet.specs.Job.{Job, table_of, jobs_before}
use Rattle.prta_sheet.specs.Weights.{one_if}
use Rattle.prta_sheet.proofs.Each.{Each-weaker}
use Rattle.prta_jobs.specs.Laws.{IsBefore}
use Rattle.prta_jobs.proofs.JobsBefore.{each_before}
use Rattle.prta_shift.specs.Shift.{shifted}
use Rattle.prta_resample.specs.Resample.{resampled, moved_amount}
use Rattle.prta_dist.specs.Addition.{added, is_rounded, cut_amount}
use Rattle.prta_preempt.specs.Delay.{delayed, is_delay_rounded}
use Rattle.prta_ledger.specs.declared.entry.Kind.TheVariants.{Resample}
use Rattle.prta_backlog.specs.Level.{Level, level_at, is_quiet}
use Rattle.prta_backlog.specs.LevelRun.{RunState, tables_added, kept, found_at, after_instant, level_run}
use Rattle.prta_backlog.specs.Entries.{Operation, addition, additions, samplings, operations_of, operations}
use Rattle.prta_backlog.specs.Laws.{HaveTables}
use Rattle.prta_backlog.proofs.Chances.{runs_stay_chances}
use Rattle.prta_backlog.proofs.Released.{Each-filter, job_table, level_tables}
use Rattle.prta_response.specs.Response.{all_delayed, delaying_jobs, first_cells, response, meeting_cell, response_start, number_from}
use Rattle.prta_response.specs.Delays.{delay_operation, delays, response_delays}
use Rattle.prta_dual.proofs.Near.{IsNear, near_within, near_added, near_shifted, near_resampled, near_first, near_delayed}
use Rattle.prta_dual.proofs.Amounts.{amounts, amounts-cons, amounts-append, spent}

-- ---- several operations

module _ (table : Job → Table) where
  near_additions : (jobs : List Job) (e : ℕ) (up down : List ℕ) → Each (λ job. IsTable (table job)) jobs → IsNear e up down →
      IsNear (e + amounts (additions Up table jobs up) + amounts (additions Down table jobs down)) (tables_added Up table jobs up) (tables_added Down table jobs down)
  near_additions [] e up down are h = near_within e (e + 0 + 0) up down (omega arith) h
  near_additions (job ∷ jobs) e up down are h =
      let one : IsTable (table job) = are.0 in
      let up' : List ℕ = added Up (table job) up in
      let down' : List ℕ = added Down (table job) down in
      let e' : ℕ = e + one_if (is_rounded (table job) up) + cut_amount Down (table job) down in
      near_within (e' + amounts (additions Up table jobs up') + amounts (additions Down table jobs down')) _ (tables_added Up table jobs up') (tables_added Down table jobs down')
      (omega (arith, amounts-cons (addition Up (table job) up) (additions Up table jobs up'), amounts-cons (addition Down (table job) down) (additions Down table jobs down')))
      (near_additions jobs e' up' down' are.1 (near_added (table job) e up down one.weighs h))

  near_delays : (r : ℕ) (jobs : List Job) (e : ℕ) (up down : List ℕ) → Each (λ job. IsTable (table job)) jobs → IsNear e up down →
      IsNear (e + amounts (delays Up table r jobs up) + amounts (delays Down table r jobs down)) (all_delayed Up table r jobs up) (all_delayed Down table r jobs down)
  near_delays r [] e up down are h = near_within e (e + 0 + 0) up down (omega arith) h
  near_delays r (job ∷ jobs) e up down are h =
      let one : IsTable (table job) = are.0 in
      let d : ℕ = job.release - r in
      let up' : List ℕ = delayed Up (table job) d up in
      let down' : List ℕ = delayed Down (table job) d down in
      let e' : ℕ = e + one_if (is_delay_rounded (table job) d up) in
      near_within (e' + amounts (delays Up table r jobs up') + amounts (delays Down table r jobs down')) _ (all_delayed Up table r jobs up') (all_delayed Down table r jobs down')
      (omega (arith, amounts-cons (delay_operation (table job) d up) (delays Up table r jobs up'), amounts-cons (delay_operation (table job) d down) (delays Down table r jobs down')))
      (near_delays r jobs e' up' down' are.1 (near_delayed (table job) d e up down one.weighs h))

-- ---- a level run

-- two runs at one time whose lists are near
record RunsNear (e : ℕ) (up down : RunState) : Type 0 where
  pub cells : IsNear e up.cells down.cells
  pub since : up.since ≡ down.since
  pub begun : up.begun ≡ down.begun

runs_within : (d e : ℕ) (up down : RunState) → d ≤ e → RunsNear d up down → RunsNear e up down
runs_within d e up down le h = record { cells = near_within d e up.cells down.cells le h.cells; since = h.since; begun = h.begun }

near_kept : (support : Option Support) (e : ℕ) (up down : RunState) → RunsNear e up down →
    IsNear (e + amounts (samplings Up support up) + amounts (samplings Down support down)) (kept Up support up) (kept Down support down)
near_kept None e up down h = near_within e (e + 0 + 0) up.cells down.cells (omega arith) h.cells
near_kept (Some s) e up down h =
    let up' : List ℕ = resampled Up s up.cells in
    let down' : List ℕ = resampled Down s down.cells in
    let sampling : List ℕ → List ℕ → Operation = λ old new. (Resample, moved_amount old new) ∷ [] in
    let IsNearAt : Bool → Bool → Type 0 = λ b c.
    IsNear (e + amounts (cond b (sampling up.cells up' ∷ []) []) + amounts (cond c (sampling down.cells down' ∷ []) [])) (cond b up' up.cells) (cond c down' down.cells) in
    subst (IsNearAt up.begun) h.begun
    (elim up.begun as (λ b. IsNearAt b b) [
      | true ↦ near_within (e + moved_amount up.cells up' + moved_amount down.cells down') _ up' down'
          (omega (arith, amounts-cons (sampling up.cells up') [], amounts-cons (sampling down.cells down') [])) (near_resampled s e up.cells down.cells h.cells)
      | false ↦ near_within e (e + 0 + 0) up.cells down.cells (omega arith) h.cells
    ])

module _ (tasks : List Task) (level : Level) (support : Option Support) (have : HaveTables tasks) where
  near_instant : (e : ℕ) (up down : RunState) (t : ℕ) → RunsNear e up down →
      RunsNear (e + amounts (operations_of Up tasks level support up t) + amounts (operations_of Down tasks level support down t))
      (after_instant Up tasks level support up t) (after_instant Down tasks level support down t)
  near_instant e up down t h =
      let jobs : List Job = level_at tasks level t in
      let e' : ℕ = e + amounts (samplings Up support up) + amounts (samplings Down support down) in
      let found : IsNear e' (found_at Up support up t) (found_at Down support down t) =
      subst (λ s. IsNear e' (found_at Up support up t) (shifted (t - s) (kept Down support down))) h.since
      (near_shifted (t - up.since) e' (kept Up support up) (kept Down support down) (near_kept support e up down h)) in
      let ups : List Operation = additions Up (table_of tasks) jobs (found_at Up support up t) in
      let downs : List Operation = additions Down (table_of tasks) jobs (found_at Down support down t) in
      record {
        cells = near_within (e' + amounts ups + amounts downs) _ (after_instant Up tasks level support up t).cells (after_instant Down tasks level support down t).cells
            (omega (arith, amounts-append (samplings Up support up) ups, amounts-append (samplings Down support down) downs))
            (near_additions (table_of tasks) jobs e' (found_at Up support up t) (found_at Down support down t) (level_tables tasks level t have) found);
        since = refl;
        begun = refl;
      }

  near_run : (start : List ℕ) (n : ℕ) → 0 < length start →
      RunsNear (amounts (operations Up tasks level support start n) + amounts (operations Down tasks level support start n))
      (level_run Up tasks level support start 0 n) (level_run Down tasks level support start 0 n)
  near_run start zero some = record { cells = record { same = refl; some = some; near = λ k. omega arith }; since = refl; begun = refl }
  near_run start (suc n) some =
      let up : RunState = level_run Up tasks level support start 0 n in
      let down : RunState = level_run Down tasks level support start 0 n in
      let ups : List Operation = operations Up tasks level support start n in
      let downs : List Operation = operations Down tasks level support start n in
      let new_up : List Operation = operations_of Up tasks level support up n in
      let new_down : List Operation = operations_of Down tasks level support down n in
      let before : RunsNear (amounts ups + amounts downs) up down = near_run start n some in
      rw zero-add
      (elim (is_quiet tasks level n) as
      (λ b. RunsNear (amounts (ups ++ cond b [] new_up) + amounts (downs ++ cond b [] new_down)) (cond b up (after_instant Up tasks level support up n)) (cond b down (after_instant Down tasks level support down n))) [
        | true ↦ runs_within (amounts ups + amounts downs) _ up down (omega (arith, amounts-append ups [], amounts-append downs [])) before
        | false ↦ runs_within (amounts ups + amounts downs + amounts new_up + amounts new_down) _ (after_instant Up tasks level support up n) (after_instant Down tasks level support down n)
            (omega (arith, amounts-append ups new_up, amounts-append downs new_down)) (near_instant (amounts ups + amounts downs) up down n before)
      ])

  -- ---- the numbers

  delaying_tables : (r : ℕ) → Each (λ job. IsTable (table_of tasks job)) (delaying_jobs tasks level r)
  delaying_tables r =
      let until : ℕ = r + (task_at tasks level.own).deadline in
      Each-filter _ _ (jobs_before tasks until) (Each-weaker (IsBefore tasks until) _ (λ job is. job_table tasks job have is.task) (jobs_before tasks until) (each_before tasks until))

  pub numbers_near : (start : List ℕ) (r : ℕ) → (task_at tasks level.own).deadline < length start → IsChances start →
      number_from Up tasks level support start 0 r ≤ number_from Down tasks level support start 0 r + (spent Up tasks level support start r + spent Down tasks level support start r)
  numbers_near start r low chances =
      let d : ℕ = (task_at tasks level.own).deadline in
      let up : List ℕ = response_start Up tasks level support start 0 r in
      let down : List ℕ = response_start Down tasks level support start 0 r in
      let e : ℕ = amounts (operations Up tasks level support start (suc r)) + amounts (operations Down tasks level support start (suc r)) in
      let size : length up ≡ length start = (runs_stay_chances Up tasks level support start 0 (suc r) have (omega arith) chances).size in
      let starts : IsNear e up down = (near_run start (suc r) (omega arith)).cells in
      let ends : IsNear (e + amounts (response_delays Up tasks level r up) + amounts (response_delays Down tasks level r down)) (response Up tasks level r up) (response Down tasks level r down) =
      near_delays (table_of tasks) r (delaying_jobs tasks level r) e (first_cells tasks level up) (first_cells tasks level down) (delaying_tables r) (near_first d e up down (omega arith) starts) in
      subst (λ n. unit - meeting_cell Up tasks level n up ≤ unit - meeting_cell Down tasks level n down + (spent Up tasks level support start r + spent Down tasks level support start r)) (sym (zero-add r))
      (omega (arith, ends.near d))
