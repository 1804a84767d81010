-- Schedule to backlog, for all jobs before a time.
use Rattle.std.proofs.Common.{◌≡◌, ℕ, ◌+◌, ◌<◌, ◌≤◌, true, cond, nat_le, nat_lt, List, length, get_or, Contains, ap, sym, ◌∙◌, subst, arith}
use Rattle.std.specs.List.{AllByRecursion as Each}
use Rattle.std.proofs.lemmas.List.{get_or-map, length-map}
use Rattle.std.proofs.lemmas.List.Elements.{All-contains, All-from_recursion}
use Rattle.std.proofs.lemmas.List.Sums.{get_or-le-sum_by}
use Rattle.std.proofs.lemmas.Bool.{and_from, eq-eqb}
use Rattle.std.proofs.lemmas.Bool.Decides.{nat_tests}
use Rattle.prta_sheet.specs.Sheet.{Task}
use Rattle.prta_sheet.specs.Job.{Job}
use Rattle.prta_sheet.specs.Assignment.{Timed}
use Rattle.prta_sheet.specs.Weights.{jobs_of}
use Rattle.prta_sheet.specs.Machine.{place, is_job, remaining, IsFinish}
use Rattle.prta_jobs.specs.Laws.{OrdersHavePlaces, JobsAreBefore}
use Rattle.prta_jobs.specs.Backlog.{level_jobs, jobs_above, finish_by_backlog, backlog_at, delayed, released_until, released_after}
use Rattle.prta_ticksim.specs.ScheduleToBacklog.{IsListed, ScheduleToBacklog}
use Rattle.prta_ticksim.proofs.Each.{Pairs, filter_inner}
use Rattle.prta_ticksim.proofs.Sums.{sum_by-filter}
use Rattle.prta_ticksim.proofs.JobOrder.{InOrder, before_in_order}
use Rattle.prta_ticksim.proofs.Analysed.{placed}
use Rattle.prta_ticksim.proofs.LevelFinish.{finish_is}
use Rattle.prta_ticksim.proofs.Misses.{one_finish, misses_late}

module _ (have_places : OrdersHavePlaces) (are_before : JobsAreBefore) (tasks : List Task) (t : ℕ) (order : List ℕ) (start : List Timed) (job : Job) (is : IsListed tasks t order start job) where
  ordered : Each (λ other. place order other.task < length order) (jobs_of start)
  ordered =
      subst (Each (λ (other : Job). place order other.task < length order)) (sym is.whole)
      (placed have_places are_before tasks order is.permutation t)

  within : place order job.task < length order
  within =
      All-contains (λ (other : Job). place order other.task < length order) (jobs_of start) job (All-from_recursion _ (jobs_of start) ordered)
      (subst (λ (jobs : List Job). Contains jobs job) (sym is.whole) is.listed)

  takes : 1 ≤ remaining job start
  takes =
      let none : Timed = record { job = job; time = 0 } in
      let k : ℕ = is.listed.0 in
      let low : k < length start = omega (arith, length-map start (λ (e : Timed). e.job), ap (λ (jobs : List Job). length jobs) is.whole, is.listed.1) in
      let here : (get_or start k none).job ≡ job =
      sym (get_or-map (λ (e : Timed). e.job) start k none job low) ∙ ap (λ (jobs : List Job). get_or jobs k job) is.whole ∙ is.listed.2 in
      let own : is_job job (get_or start k none) ≡ true = and_from _ _ (eq-eqb _ _ (ap (λ (j : Job). j.task) here)) (eq-eqb _ _ (ap (λ (j : Job). j.release) here)) in
      omega (
        arith,
        sum_by-filter (is_job job) (λ e. e.time) start,
        get_or-le-sum_by (λ e. cond (is_job job e) e.time 0) start k none low,
        ap (λ b. cond b (get_or start k none).time 0) own,
        is.take_time k none low,
      )

  pub finishes : IsFinish order start job (finish_by_backlog order start job)
  finishes = finish_is order start (subst (Pairs InOrder) (sym is.whole) (before_in_order tasks t)) ordered job within takes

-- ---- the level alone

module _ (order : List ℕ) (start : List Timed) (job : Job) where
  level_again : level_jobs order job.task (level_jobs order job.task start) ≡ level_jobs order job.task start
  level_again = filter_inner _ (λ e. nat_le (place order e.job.task) (place order job.task)) (λ e h. h) start

  above_again : jobs_above order job.task (level_jobs order job.task start) ≡ jobs_above order job.task start
  above_again = filter_inner _ (λ e. nat_le (place order e.job.task) (place order job.task)) (λ e h. below (place order e.job.task) (place order job.task) h) start
    where
      below : (a b : ℕ) → nat_lt a b ≡ true → nat_le a b ≡ true
      below a b h = grind (arith, nat_tests)

  pub level_alone : finish_by_backlog order (level_jobs order job.task start) job ≡ finish_by_backlog order start job
  level_alone =
      ap (λ (es : List Timed). job.release + delayed job.release (backlog_at 0 0 (released_until job.release es) job.release) (released_after job.release (jobs_above order job.task (level_jobs order job.task start)))) level_again
      ∙ ap (λ (es : List Timed). job.release + delayed job.release (backlog_at 0 0 (released_until job.release (level_jobs order job.task start)) job.release) (released_after job.release es)) above_again

-- ---- the law

pub schedule_to_backlog : OrdersHavePlaces → JobsAreBefore → ScheduleToBacklog
schedule_to_backlog have_places are_before = record {
  finish = finishes have_places are_before;
  only = λ tasks t order start job is n at_n. one_finish order job start n _ at_n (finishes have_places are_before tasks t order start job is);
  miss = λ tasks t order start job is deadline. misses_late order job start deadline _ (finishes have_places are_before tasks t order start job is);
  level = level_alone;
  others = λ tasks t order start other job is is_other same n at_n.
      let here : n ≡ finish_by_backlog order start job = one_finish order job start n _ at_n (finishes have_places are_before tasks t order start job is) in
      let there : finish_by_backlog order start job ≡ finish_by_backlog order other job =
      sym (level_alone order start job) ∙ ap (λ (es : List Timed). finish_by_backlog order es job) same ∙ level_alone order other job in
      subst (IsFinish order other job) (sym (here ∙ there)) (finishes have_places are_before tasks t order other job is_other);
}
