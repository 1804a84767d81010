-- The law of starts, and what follows from it.
use Rattle.std.proofs.Common.{◌≡◌, ℕ, suc, ◌+◌, ◌-◌, ◌*◌, ◌≤◌, ◌<◌, None, Option, All, List, length, get_or, refl, sym, subst, arith, suc-mul}
use Rattle.std.proofs.Math.Nat.{mul-pos}
use Rattle.prta_mass.specs.declared.direction.Dir.{Dir}
use Rattle.prta_mass.specs.declared.direction.Dir.TheVariants.{Up}
use Rattle.prta_mass.specs.declared.support.Support.{Support}
use Rattle.prta_sheet.specs.Sheet.{Task, task_at, cycle_ticks, hyperperiod}
use Rattle.prta_sheet.specs.Job.{nth_job}
use Rattle.prta_shift.specs.Shift.{shifted}
use Rattle.prta_jobs.specs.Laws.{OrdersHavePlaces}
use Rattle.prta_ticksim.specs.ScheduleToBacklog.{ScheduleToBacklog}
use Rattle.prta_backlog.specs.Level.{Level}
use Rattle.prta_backlog.specs.LevelRun.{RunState, level_run, image}
use Rattle.prta_response.specs.Backlog.{BoundsBacklog}
use Rattle.prta_response.specs.Laws.{IsPeriodic, IsLevelOf, BoundsFromStart}
use Rattle.prta_response.proofs.Backlogs.{BoundsShares, shares_from_backlog, backlog_from_shares}
use Rattle.prta_response.proofs.Runs.{IsBounded, run_bounded, run_at_instant, end_bounds}
use Rattle.prta_response.proofs.Copies.{later_run, copy_release, run_later, number_later}
use Rattle.prta_response.proofs.Numbers.{number_bounds}

module _ (tasks : List Task) (level : Level) (is : IsLevelOf tasks level) where
  pub short : All (λ task. task.offset < task.period) tasks
  short i d low = let task : IsPeriodic (get_or tasks i d) = is.periodic i d low in task.offset

  pub cycles : All (λ task. 1 ≤ cycle_ticks task) tasks
  cycles i d low =
      let task : Task = get_or tasks i d in
      let offset : task.offset < task.period = short i d low in
      let period : 0 < task.period = omega arith in
      let some : 0 < length task.cycle = is.tables.some i d low in
      let ticks : 0 < cycle_ticks task = mul-pos period some in
      omega arith

  own : IsPeriodic (task_at tasks level.own)
  own = is.periodic level.own _ is.own

  abbrev end : ℕ → ℕ
  end m = m * hyperperiod tasks

  pub starts : OrdersHavePlaces → ScheduleToBacklog → (dir : Dir) (support : Option Support) (start : List ℕ) (m : ℕ) → (task_at tasks level.own).deadline < length start →
      BoundsBacklog dir tasks level (end m) (end m) start → BoundsFromStart dir tasks level support start m
  starts places schedule dir support start m long claim =
      let h : BoundsShares dir tasks level (end m) (end m) start = shares_from_backlog dir tasks level (end m) (end m) start claim in
      record {
        instants = λ n instant. backlog_from_shares dir tasks level (suc (end m + n)) (end m + n) (level_run dir tasks level support start (end m) (suc n)).cells
            (run_at_instant dir tasks level is.tables is.apart support (length start) (omega (arith, long)) start (end m) n refl h instant);
        numbers = λ order k fits. number_bounds tasks level is places schedule order fits _ dir support start (end m) (nth_job tasks level.own k).release long h (copy_release tasks short cycles m level.own k is.own);
        repeats = λ k. number_later tasks short cycles m dir level support start (nth_job tasks level.own k).release own.deadline;
      }

  pub images : (cells : List ℕ) (m : ℕ) → 0 < length cells → BoundsBacklog Up tasks level (end m) (end m) cells → BoundsBacklog Up tasks level (end (suc m)) (end (suc m)) (image tasks level (hyperperiod tasks) cells)
  images cells m some claim =
      let period : ℕ = hyperperiod tasks in
      let run : RunState = level_run Up tasks level None cells 0 period in
      let after : RunState = later_run tasks short cycles m Up level None run in
      let bounded : IsBounded Up tasks level (length cells) after (end m + period) =
      subst (λ r. IsBounded Up tasks level (length cells) r (end m + period)) (run_later tasks short cycles m Up level None cells period)
      (run_bounded Up tasks level is.tables is.apart None (length cells) some cells (end m) period refl (shares_from_backlog Up tasks level (end m) (end m) cells claim)) in
      let gap : end m + period - (run.since + end m) ≡ period - run.since = omega arith in
      let shares : BoundsShares Up tasks level (end m + period) (end m + period) (image tasks level period cells) =
      subst (λ t. BoundsShares Up tasks level (end m + period) (end m + period) (shifted t run.cells)) gap (end_bounds Up tasks level is.tables is.apart None (length cells) some after (end m + period) bounded) in
      subst (λ t. BoundsBacklog Up tasks level t t (image tasks level period cells)) (sym (suc-mul m period)) (backlog_from_shares Up tasks level (end m + period) (end m + period) (image tasks level period cells) shares)
