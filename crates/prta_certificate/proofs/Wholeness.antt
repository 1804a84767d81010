-- The image of a list reaches the unit where the backlog with all greatest times ends.
use Rattle.std.proofs.Common.{◌≡◌, ℕ, zero, suc, ◌+◌, ◌-◌, ◌≤◌, ◌<◌, true, false, cond, None, List, length, ap, sym, ◌∙◌, subst, arith, ⊎_elim, refl, zero-add}
use Rattle.std.proofs.lemmas.Bool.{cases_lt}
use Rattle.prta_mass.specs.declared.direction.Dir.TheVariants.{Up}
use Rattle.prta_mass.specs.Chances.{IsChances}
use Rattle.prta_sheet.specs.Sheet.{Task, hyperperiod}
use Rattle.prta_sheet.specs.Job.{Job}
use Rattle.prta_shift.specs.Shift.{shifted}
use Rattle.prta_shift.specs.Laws.{KeptByShift}
use Rattle.prta_shift.proofs.Shifts.{shifts_chances, length-shifted}
use Rattle.prta_backlog.specs.Level.{Level, level_at, is_quiet}
use Rattle.prta_backlog.specs.LevelRun.{RunState, after_instant, level_run}
use Rattle.prta_backlog.specs.Greatest.{greatest_times, WalkState, backlog_now, risen, greatest_walk, backlog_end}
use Rattle.prta_backlog.specs.Laws.{HaveTables, StaysChances}
use Rattle.prta_backlog.proofs.Released.{level_tables}
use Rattle.prta_backlog.proofs.Chances.{stay_instant, size_instant, runs_stay_chances}
use Rattle.prta_certificate.specs.Certificate.{next_image}
use Rattle.prta_certificate.proofs.Units.{Low, Full, low_tables, full_tables, low_shifted, full_shifted, low_past}

-- the image is a list of chances
pub image_chances : (tasks : List Task) (level : Level) (cells : List ℕ) → HaveTables tasks → 0 < length cells → IsChances cells → StaysChances cells (next_image tasks level cells)
image_chances tasks level cells have some chances =
    let run : RunState = level_run Up tasks level None cells 0 (hyperperiod tasks) in
    let was : StaysChances cells run.cells = runs_stay_chances Up tasks level None cells 0 (hyperperiod tasks) have some chances in
    let after : KeptByShift run.cells (next_image tasks level cells) = shifts_chances (hyperperiod tasks - run.since) run.cells was.chances in
    record { chances = after.chances; size = after.size ∙ was.size }

module _ (tasks : List Task) (level : Level) (have : HaveTables tasks) where
  abbrev run_from : List ℕ → ℕ → RunState
  run_from start t = level_run Up tasks level None start 0 t

  abbrev after : RunState → ℕ → RunState
  after run t = after_instant Up tasks level None run t

  run_suc : (start : List ℕ) (t : ℕ) → run_from start (suc t) ≡ cond (is_quiet tasks level t) (run_from start t) (after (run_from start t) t)
  run_suc start t = ap (λ u. cond (is_quiet tasks level u) (run_from start t) (after (run_from start t) u)) (zero-add t)

  -- no unit below the backlog, and none at all once a backlog wasn't below the list's end
  record IsUnder (run : RunState) (walk : WalkState) : Type 0 where
    since : run.since ≡ walk.since
    some : 0 < length run.cells
    chances : IsChances run.cells
    low : Low run.cells walk.backlog
    never : length run.cells ≤ walk.most → (c : ℕ) → Low run.cells c

  under_instant : (run : RunState) (walk : WalkState) (t : ℕ) → IsUnder run walk → IsUnder (after run t) (risen tasks level walk t)
  under_instant run walk t is =
      let since : run.since ≡ walk.since = is.since in
      let some : 0 < length run.cells = is.some in
      let jobs : List Job = level_at tasks level t in
      let moved : List ℕ = shifted (t - run.since) run.cells in
      let next : List ℕ = (after run t).cells in
      let kept : KeptByShift run.cells moved = shifts_chances (t - run.since) run.cells is.chances in
      let size : length next ≡ length run.cells = size_instant Up tasks level None run t in
      let some_moved : 0 < length moved = omega (arith, length-shifted (t - run.since) run.cells) in
      let added : (c : ℕ) → Low moved c → Low next (c + greatest_times tasks jobs) = λ c low. low_tables tasks jobs moved c (level_tables tasks level t have) some_moved kept.chances low in
      let fallen : Low moved (backlog_now walk t) = λ k near. low_shifted run.cells (t - run.since) walk.backlog some is.low k (omega arith) in
      let backlog : ℕ = backlog_now walk t + greatest_times tasks jobs in
      let low : Low next backlog = added (backlog_now walk t) fallen in
      record {
        since = refl;
        some = omega arith;
        chances = (stay_instant Up tasks level None run t have some is.chances).chances;
        low = low;
        never = λ passed c. ⊎_elim
            (λ (here : backlog < length next). λ k near. added c (λ i l. low_shifted run.cells (t - run.since) (c + t) some (is.never (omega arith) (c + t)) i (omega arith)) k (omega arith))
            (λ (past : length next ≤ backlog). low_past next backlog c (omega arith) past low)
            (cases_lt backlog (length next));
      }

  under : (start : List ℕ) (b t : ℕ) → 0 < length start → IsChances start → Low start b → IsUnder (run_from start t) (greatest_walk tasks level b t)
  under start b zero some chances low = record { since = refl; some = some; chances = chances; low = low; never = λ passed. absurd (omega arith) }
  under start b (suc t) some chances low =
      let run : RunState = run_from start t in
      let walk : WalkState = greatest_walk tasks level b t in
      let was : IsUnder run walk = under start b t some chances low in
      subst (λ r. IsUnder r (greatest_walk tasks level b (suc t))) (sym (run_suc start t))
      (elim (is_quiet tasks level t) as (λ q. IsUnder (cond q run (after run t)) (cond q walk (risen tasks level walk t))) [ true ↦ was | false ↦ under_instant run walk t was ])

  -- the unit from the backlog on, as long as every backlog was below the list's end
  record IsOver (cap : ℕ) (run : RunState) (walk : WalkState) : Type 0 where
    since : run.since ≡ walk.since
    size : length run.cells ≡ cap
    full : Full run.cells walk.backlog

  over_instant : (cap : ℕ) (run : RunState) (walk : WalkState) (t : ℕ) → backlog_now walk t + greatest_times tasks (level_at tasks level t) < cap → IsOver cap run walk →
      IsOver cap (after run t) (risen tasks level walk t)
  over_instant cap run walk t room is =
      let since : run.since ≡ walk.since = is.since in
      let size : length run.cells ≡ cap = is.size in
      let moved : List ℕ = shifted (t - run.since) run.cells in
      let fallen : Full moved (backlog_now walk t) = λ k far. full_shifted run.cells (t - run.since) walk.backlog (omega arith) is.full k (omega arith) in
      record {
        since = refl;
        size = size_instant Up tasks level None run t ∙ size;
        full = full_tables tasks (level_at tasks level t) moved (backlog_now walk t) (level_tables tasks level t have) (omega (arith, length-shifted (t - run.since) run.cells)) fallen;
      }

  over : (cap : ℕ) (start : List ℕ) (b t : ℕ) → length start ≡ cap → Full start b → (greatest_walk tasks level b t).most < cap → IsOver cap (run_from start t) (greatest_walk tasks level b t)
  over cap start b zero size full room = record { since = refl; size = size; full = full }
  over cap start b (suc t) size full room =
      let run : RunState = run_from start t in
      let walk : WalkState = greatest_walk tasks level b t in
      let was : walk.most < cap → IsOver cap run walk = over cap start b t size full in
      subst (λ r. IsOver cap r (greatest_walk tasks level b (suc t))) (sym (run_suc start t))
      ((elim (is_quiet tasks level t) as (λ q. (cond q walk (risen tasks level walk t)).most < cap → IsOver cap (cond q run (after run t)) (cond q walk (risen tasks level walk t))) [
        | true ↦ was
        | false ↦ λ room. over_instant cap run walk t (omega arith) (was (omega arith))
      ]) room)

  -- the image has no unit below the end of the backlog
  pub image_low : (cells : List ℕ) (b : ℕ) → 0 < length cells → IsChances cells → Low cells b → Low (next_image tasks level cells) (backlog_end tasks level b)
  image_low cells b some chances low k near =
      let hyper : ℕ = hyperperiod tasks in
      let run : RunState = run_from cells hyper in
      let walk : WalkState = greatest_walk tasks level b hyper in
      let is : IsUnder run walk = under cells b hyper some chances low in
      let since : run.since ≡ walk.since = is.since in
      low_shifted run.cells (hyper - run.since) walk.backlog is.some is.low k (omega arith)

  -- and where a backlog wasn't below the list's end it has none at all
  pub image_never : (cells : List ℕ) (b c : ℕ) → 0 < length cells → IsChances cells → Low cells b → length cells ≤ (greatest_walk tasks level b (hyperperiod tasks)).most → Low (next_image tasks level cells) c
  image_never cells b c some chances low passed k near =
      let hyper : ℕ = hyperperiod tasks in
      let run : RunState = run_from cells hyper in
      let is : IsUnder run (greatest_walk tasks level b hyper) = under cells b hyper some chances low in
      let was : StaysChances cells run.cells = runs_stay_chances Up tasks level None cells 0 hyper have some chances in
      low_shifted run.cells (hyper - run.since) (c + hyper) is.some (is.never (omega (arith, was.size)) (c + hyper)) k (omega arith)

  -- else it is the unit from the end of the backlog on
  pub image_full : (cells : List ℕ) (b : ℕ) → Full cells b → (greatest_walk tasks level b (hyperperiod tasks)).most < length cells → Full (next_image tasks level cells) (backlog_end tasks level b)
  image_full cells b full room k far =
      let hyper : ℕ = hyperperiod tasks in
      let run : RunState = run_from cells hyper in
      let walk : WalkState = greatest_walk tasks level b hyper in
      let is : IsOver (length cells) run walk = over (length cells) cells b hyper refl full room in
      let since : run.since ≡ walk.since = is.since in
      full_shifted run.cells (hyper - run.since) walk.backlog (omega (arith, is.size)) is.full k (omega arith)
