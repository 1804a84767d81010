-- The backlog with all greatest times, at the end of a hyperperiod, from any start.
use Rattle.std.proofs.Common.{◌≡◌, ℕ, zero, suc, ◌+◌, ◌-◌, ◌≤◌, max, true, false, cond, List, [], length, refl, ap, arith}
use Rattle.std.proofs.lemmas.List.{nil_from_length}
use Rattle.std.proofs.lemmas.Bool.{cond_both, eqb-true}
use Rattle.prta_sheet.specs.Sheet.{Task, hyperperiod}
use Rattle.prta_backlog.specs.Level.{Level, level_at, is_quiet, level_before}
use Rattle.prta_backlog.specs.Greatest.{greatest_times, greatest_work, WalkState, backlog_now, risen, greatest_walk, backlog_end, worst_backlog, peak}
use Rattle.prta_backlog.proofs.Walks.{work_suc}

module _ (tasks : List Task) (level : Level) where
  abbrev pub times_at : ℕ → ℕ
  times_at t = greatest_times tasks (level_at tasks level t)

  abbrev pub now : ℕ → ℕ → ℕ
  now start t = backlog_now (greatest_walk tasks level start t) t

  since_low : (start t : ℕ) → (greatest_walk tasks level start t).since ≤ t
  since_low start zero = omega arith
  since_low start (suc t) =
      let walk : WalkState = greatest_walk tasks level start t in
      cond_both (is_quiet tasks level t) walk (risen tasks level walk t) (λ w. w.since ≤ suc t) (λ e. omega (arith, since_low start t)) (λ e. omega arith)

  -- from one time to the next
  pub now_suc : (start t : ℕ) → now start (suc t) ≡ now start t + times_at t - 1
  now_suc start t =
      let walk : WalkState = greatest_walk tasks level start t in
      cond_both (is_quiet tasks level t) walk (risen tasks level walk t) (λ w. backlog_now w (suc t) ≡ backlog_now walk t + times_at t - 1)
      (λ e.
      let none : level_at tasks level t ≡ [] = nil_from_length _ (eqb-true (length (level_at tasks level t)) 0 e) in
      let idle : times_at t ≡ 0 = ap (greatest_times tasks) none in
      omega (arith, since_low start t))
      (λ e. omega arith)

  -- the backlog from a start: the one from an empty start, or what is left of the start and all work, whichever is greater
  module _ (apart : level.higher level.own ≡ false) where
    now_from : (start t : ℕ) → now start t ≡ max (now 0 t) (start + greatest_times tasks (level_before tasks level t) - t)
    now_from start zero = omega arith
    now_from start (suc t) = omega (arith, now_suc start t, now_suc 0 t, work_suc tasks level apart t, now_from start t)

    pub ends_at : (start : ℕ) → backlog_end tasks level start ≡ max (worst_backlog tasks level) (start + greatest_work tasks level - hyperperiod tasks)
    ends_at start = now_from start (hyperperiod tasks)

  -- a greater start has greater backlogs at the same times
  record Above (low high : WalkState) : Type 0 where
    backlog : low.backlog ≤ high.backlog
    since : low.since ≡ high.since
    most : low.most ≤ high.most

  above_instant : (low high : WalkState) (t : ℕ) → Above low high → Above (risen tasks level low t) (risen tasks level high t)
  above_instant low high t is =
      let backlog : low.backlog ≤ high.backlog = is.backlog in
      let since : low.since ≡ high.since = is.since in
      let most : low.most ≤ high.most = is.most in
      record { backlog = omega arith; since = refl; most = omega arith }

  above : (a b t : ℕ) → a ≤ b → Above (greatest_walk tasks level a t) (greatest_walk tasks level b t)
  above a b zero le = record { backlog = le; since = refl; most = omega arith }
  above a b (suc t) le =
      let low : WalkState = greatest_walk tasks level a t in
      let high : WalkState = greatest_walk tasks level b t in
      elim (is_quiet tasks level t) as (λ q. Above (cond q low (risen tasks level low t)) (cond q high (risen tasks level high t))) [
        | true ↦ above a b t le
        | false ↦ above_instant low high t (above a b t le)
      ]

  pub most_rises : (a b t : ℕ) → a ≤ b → (greatest_walk tasks level a t).most ≤ (greatest_walk tasks level b t).most
  most_rises a b t le = (above a b t le).most

  -- from an empty start the backlog is at most the greatest so far
  below_most : (t : ℕ) → (greatest_walk tasks level 0 t).backlog ≤ (greatest_walk tasks level 0 t).most
  below_most zero = omega arith
  below_most (suc t) =
      let walk : WalkState = greatest_walk tasks level 0 t in
      cond_both (is_quiet tasks level t) walk (risen tasks level walk t) (λ w. w.backlog ≤ w.most) (λ e. below_most t) (λ e. omega arith)

  pub worst_low : worst_backlog tasks level ≤ peak tasks level
  worst_low =
      let hyper : ℕ = hyperperiod tasks in
      let worst : ℕ = worst_backlog tasks level in
      let ended : worst ≤ (greatest_walk tasks level 0 hyper).backlog = omega arith in
      omega (arith, below_most hyper, most_rises 0 worst hyper (omega arith))
