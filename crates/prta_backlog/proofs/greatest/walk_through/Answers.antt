-- Each instant is one of the walk; from the last one on nothing happens up to the end.
use Rattle.std.proofs.Common.{◌≡◌, ℕ, ◌+◌, ◌<◌, Bool, true, ◌&&◌, ◌||◌, nat_eq, List, length, refl, ap, sym, ◌∙◌, subst, arith, eq-eqb}
use Rattle.std.specs.Prelude.{unwrap_or}
use Rattle.prta_sheet.specs.Sheet.{Task, task_at, hyperperiod}
use Rattle.prta_sheet.specs.Job.{Job, is_release, released_at}
use Rattle.prta_jobs.specs.TaskSet.{holds}
use Rattle.prta_jobs.specs.Instant.{InstantParts, IsInstant}
use Rattle.prta_backlog.specs.Level.{Level, has_task, level_at}
use Rattle.prta_backlog.specs.Greatest.{greatest_times}
use Rattle.prta_backlog.specs.Pass.{level_of, after_last}
use Rattle.prta_backlog.proofs.Additions.{filter_same}
use Rattle.prta_backlog.proofs.Walks.{IsWalked, walked_start, walked_instant, walked_until, work_at}
use Rattle.prta_backlog.proofs.greatest.walk_through.Goals as goal

pub with-level-requires : goal.with-level-requires
with-level-requires c =
    let own : nat_eq c.args.task c.args.task ≡ true = eq-eqb c.args.task c.args.task refl in
    let low : c.args.task < length c.args.sheet.now.tasks = c.requires.on_sheet c.args.task (ap (λ b. b || holds c.args.higher c.args.task) own) in
    omega (arith, c.tasks-tasks.ensures.accepted.few)

pub loop-instant-init : goal.loop-instant-init
loop-instant-init c = record {
  next = c.instant_after-instant.ensures.instant;
  walked = walked_start c.args.sheet.now.tasks (level_of c.args.higher c.args.task) c.requires.apart c.args.start;
  within = omega arith;
  low = omega arith;
  low_work = omega arith;
}

-- an instant by its parts
by_parts : (tasks : List Task) (level : ℕ → Bool) (from : ℕ) (a b : InstantParts) → a ≡ b → IsInstant tasks level from b.at (holds b.released) → IsInstant tasks level from a.at (holds a.released)
by_parts tasks level from a b e h = subst (λ (i : InstantParts). IsInstant tasks level from i.at (holds i.released)) (sym e) h

pub times_at-times-requires-clause-released : goal.times_at-times-requires-clause-released
times_at-times-requires-clause-released c = λ i h.
    let next : IsInstant c.args.sheet.now.tasks (has_task (level_of c.args.higher c.args.task)) (after_last c.loop-instant.walk.last) c.instant.inside.at (holds c.instant.inside.released) =
    by_parts _ _ _ _ _ c.instant.view_is c.loop-instant.invariant.next in
    next.each i ∙ ap (λ b. b && is_release (task_at c.args.sheet.now.tasks i) c.instant.inside.at) (sym (c.with-level.ensures.members i) ∙ h)

pub risen-walk-requires-clause-backlog : goal.risen-walk-requires-clause-backlog
risen-walk-requires-clause-backlog c =
    omega (arith, c.loop-instant.invariant.low, c.loop-instant.invariant.within, c.whole_hyperperiod-end.ensures.short, c.times_at-times.ensures.low, c.requires.start)

pub risen-walk-requires-clause-work : goal.risen-walk-requires-clause-work
risen-walk-requires-clause-work c =
    omega (arith, c.loop-instant.invariant.low_work, c.loop-instant.invariant.within, c.whole_hyperperiod-end.ensures.short, c.times_at-times.ensures.low)

pub loop-instant-smaller : goal.loop-instant-smaller
loop-instant-smaller c =
    let next : IsInstant c.args.sheet.now.tasks (has_task (level_of c.args.higher c.args.task)) (after_last c.loop-instant.walk.last) c.instant.inside.at (holds c.instant.inside.released) =
    by_parts _ _ _ _ _ c.instant.view_is c.loop-instant.invariant.next in
    omega (arith, ap after_last c.risen-walk.ensures.last, next.time.reached, c.loop-instant-test.true)

pub loop-instant-preserved : goal.loop-instant-preserved
loop-instant-preserved c =
    let tasks : List Task = c.args.sheet.now.tasks in
    let level : Level = level_of c.args.higher c.args.task in
    let t : ℕ = c.instant.inside.at in
    let next : IsInstant tasks (has_task level) (after_last c.loop-instant.walk.last) t (holds c.instant.inside.released) = by_parts _ _ _ _ _ c.instant.view_is c.loop-instant.invariant.next in
    let passed : after_last c.risen-walk.result.last ≡ t + 1 = ap after_last c.risen-walk.ensures.last in
    let since : unwrap_or c.risen-walk.result.last 0 ≡ t = ap (λ o. unwrap_or o 0) c.risen-walk.ensures.last in
    let times : c.times_at-times.result ≡ greatest_times tasks (level_at tasks level t) =
    c.times_at-times.ensures.value
    ∙ ap (greatest_times tasks) (filter_same _ _ (released_at 0 tasks t) (λ (job : Job). c.with-level.ensures.members job.task))
    ∙ work_at tasks level c.requires.apart t in
    let walked : IsWalked tasks level c.args.start (t + 1) c.risen-walk.result.backlog t c.risen-walk.result.most c.risen-walk.result.work =
    walked_instant tasks level c.requires.apart c.args.start (after_last c.loop-instant.walk.last) t c.loop-instant.walk.backlog (unwrap_or c.loop-instant.walk.last 0) c.loop-instant.walk.most c.loop-instant.walk.work
    c.times_at-times.result c.risen-walk.result.backlog c.risen-walk.result.most c.risen-walk.result.work c.requires.on_sheet next.time c.loop-instant.invariant.walked times
    c.risen-walk.ensures.backlog c.risen-walk.ensures.most c.risen-walk.ensures.work in
    record {
      next = c.instant_after-instant-in-loop-instant.ensures.instant;
      walked = subst (λ n. IsWalked tasks level c.args.start n c.risen-walk.result.backlog (unwrap_or c.risen-walk.result.last 0) c.risen-walk.result.most c.risen-walk.result.work) (sym passed)
          (subst (λ n. IsWalked tasks level c.args.start (t + 1) c.risen-walk.result.backlog n c.risen-walk.result.most c.risen-walk.result.work) (sym since) walked);
      within = omega (arith, passed, c.loop-instant-test.true);
      low = omega (arith, passed, c.risen-walk.ensures.backlog, c.loop-instant.invariant.low, c.times_at-times.ensures.low, next.time.reached);
      low_work = omega (arith, passed, c.risen-walk.ensures.work, c.loop-instant.invariant.low_work, c.times_at-times.ensures.low, next.time.reached);
    }

-- the walk up to the end
ended : (c : goal.After-loop-instant) → IsWalked c.args.sheet.now.tasks (level_of c.args.higher c.args.task) c.args.start (hyperperiod c.args.sheet.now.tasks)
    c.loop-instant.walk.backlog (unwrap_or c.loop-instant.walk.last 0) c.loop-instant.walk.most c.loop-instant.walk.work
ended c =
    let tasks : List Task = c.args.sheet.now.tasks in
    let level : Level = level_of c.args.higher c.args.task in
    let next : IsInstant tasks (has_task level) (after_last c.loop-instant.walk.last) c.instant.inside.at (holds c.instant.inside.released) = by_parts _ _ _ _ _ c.instant.view_is c.loop-instant.invariant.next in
    subst (λ n. IsWalked tasks level c.args.start n c.loop-instant.walk.backlog (unwrap_or c.loop-instant.walk.last 0) c.loop-instant.walk.most c.loop-instant.walk.work) c.whole_hyperperiod-end.ensures.hyperperiod
    (walked_until tasks level c.requires.apart c.args.start (after_last c.loop-instant.walk.last) c.instant.inside.at c.whole_hyperperiod-end.result c.loop-instant.walk.backlog (unwrap_or c.loop-instant.walk.last 0)
    c.loop-instant.walk.most c.loop-instant.walk.work next.time c.loop-instant.invariant.within c.loop-instant-test.false c.loop-instant.invariant.walked)

pub returns-clause-backlog : goal.returns-clause-backlog
returns-clause-backlog c = (ended c).backlog_is

pub returns-clause-since : goal.returns-clause-since
returns-clause-since c = (ended c).since_is

pub returns-clause-most : goal.returns-clause-most
returns-clause-most c = (ended c).most_is

pub returns-clause-work : goal.returns-clause-work
returns-clause-work c = (ended c).work_is

pub returns-clause-low : goal.returns-clause-low
returns-clause-low c = omega (arith, c.loop-instant.invariant.low, c.loop-instant.invariant.within, c.whole_hyperperiod-end.ensures.short)
