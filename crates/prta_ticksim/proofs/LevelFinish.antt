-- The finish by backlog is the finish, of jobs that are listed by release, no two of one task at one time.
use Rattle.std.proofs.Common.{◌≡◌, ℕ, ◌≤◌, ◌<◌, not, ◌&&◌, ◌||◌, cond, nat_le, nat_lt, nat_eq, List, length, sym, ◌∙◌, arith}
use Rattle.std.specs.List.{AllByRecursion as Each}
use Rattle.std.proofs.lemmas.Bool.{ltb-true}
use Rattle.std.proofs.lemmas.Bool.Decides.{nat_tests}
use Rattle.prta_sheet.specs.Job.{Job}
use Rattle.prta_sheet.specs.Assignment.{Timed}
use Rattle.prta_sheet.specs.Machine.{place, remaining, IsFinish}
use Rattle.prta_jobs.specs.Backlog.{level_jobs, jobs_above, released_until, released_after, backlog_at, delayed, finish_by_backlog}
use Rattle.prta_sheet.specs.Weights.{jobs_of}
use Rattle.prta_ticksim.proofs.Each.{Pairs, Each_passes, Pairs-weaker, Pairs-from_map, Pairs-filter}
use Rattle.prta_ticksim.specs.Serving.{AreApart}
use Rattle.prta_ticksim.proofs.JobOrder.{InOrder}
use Rattle.prta_ticksim.proofs.GoesBefore.{apart_by_places}
use Rattle.prta_ticksim.proofs.Analysed.{all_apart}
use Rattle.prta_ticksim.proofs.TimeOf.{time_of, at, time_of-same, time_of-filter}
use Rattle.prta_ticksim.proofs.BacklogByTick.{by_tick, by_tick-same, by_tick_is_by_release, ByRelease, any}
use Rattle.prta_ticksim.proofs.Delays.{IsDelayed, delayed_is}
use Rattle.prta_ticksim.proofs.OwnFinish.{up_to, own_before, own_at_end}

module _ (order : List ℕ) (start : List Timed) (in_order : Pairs InOrder (jobs_of start)) (ordered : Each (λ job. place order job.task < length order) (jobs_of start)) where
  apart : AreApart order (jobs_of start)
  apart = apart_by_places order (jobs_of start) (all_apart order (jobs_of start) ordered in_order)

  by_release : Pairs ByRelease start
  by_release = Pairs-from_map (λ (a b : Job). a.release ≤ b.release) (λ e. e.job) start (Pairs-weaker (λ (job : Job). place order job.task < length order) InOrder _ (λ a b p q o. o.0) (jobs_of start) ordered in_order)

  module _ (job : Job) (within : place order job.task < length order) (takes : 1 ≤ remaining job start) where
    abbrev r : ℕ
    r = job.release

    abbrev level : List Timed
    level = level_jobs order job.task start

    abbrev later_above : List Timed
    later_above = released_after r (jobs_above order job.task start)

    abbrev ticks : ℕ
    ticks = backlog_at 0 0 (released_until r level) r

    -- what is released up to the own release is what the level releases
    level_released : (n : ℕ) → n ≤ r → time_of (at any n) level ≡ time_of (at (up_to order job) n) start
    level_released n early =
        time_of-filter (at any n) (λ other. nat_le (place order other.task) (place order job.task)) start
        ∙ time_of-same _ _ (λ other c. same (place order other.task) (place order job.task) other.release r c early) start
      where
        same : (p q u s c : ℕ) → n ≤ s → cond (nat_le p q && nat_eq u n) c 0 ≡ cond (not (nat_lt q p || (nat_eq q p && nat_lt s u)) && nat_eq u n) c 0
        same p q u s c early = grind (arith, nat_tests)

    -- and after it what the tasks above release
    above_released : (n : ℕ) → r < n → time_of (at (up_to order job) n) start ≡ time_of (at any n) later_above
    above_released n late =
        time_of-same _ _ (λ other c. same (place order other.task) (place order job.task) other.release r c late) start
        ∙ sym (time_of-filter (λ other. nat_lt r other.release && nat_eq other.release n) (λ other. nat_lt (place order other.task) (place order job.task)) start)
        ∙ sym (time_of-filter (at any n) (λ other. nat_lt r other.release) (jobs_above order job.task start))
      where
        same : (p q u s c : ℕ) → s < n → cond (not (nat_lt q p || (nat_eq q p && nat_lt s u)) && nat_eq u n) c 0 ≡ cond (nat_lt p q && (nat_lt s u && nat_eq u n)) c 0
        same p q u s c late = grind (arith, nat_tests)

    first : ticks ≡ by_tick (λ n. time_of (at (up_to order job) n) start) r
    first = sym (by_tick_is_by_release r level (Pairs-filter _ ByRelease start by_release)) ∙ by_tick-same _ _ r level_released

    ends : IsDelayed r ticks later_above (delayed r ticks later_above)
    ends = delayed_is r ticks later_above (Pairs-filter _ ByRelease (jobs_above order job.task start) (Pairs-filter _ ByRelease start by_release))

    after_own : Each (λ e. r < e.job.release) later_above
    after_own = Each_passes _ _ (λ e passes. ltb-true r e.job.release passes) (jobs_above order job.task start)

    pub finish_is : IsFinish order start job (finish_by_backlog order start job)
    finish_is = record {
      done = own_at_end order start apart job within takes later_above after_own above_released ticks (delayed r ticks later_above) first ends;
      least = own_before order start apart job within takes later_above after_own above_released ticks (delayed r ticks later_above) first ends;
    }
