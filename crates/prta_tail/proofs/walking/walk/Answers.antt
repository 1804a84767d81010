-- Each tick is one of the walk: before it jobs are released where it is the next instant, and none where it isn't.
use Rattle.std.proofs.Common.{◌≡◌, ℕ, suc, ◌+◌, ◌<◌, Bool, List, sym, subst, arith}
use Rattle.prta_sheet.specs.Sheet.{Task}
use Rattle.prta_sheet.specs.Job.{table_of}
use Rattle.prta_jobs.specs.TaskSet.{holds}
use Rattle.prta_jobs.specs.Instant.{InstantParts, IsInstant}
use Rattle.prta_backlog.specs.Level.{Level, has_task, level_at}
use Rattle.prta_backlog.specs.Pass.{level_of}
use Rattle.prta_tail.specs.Walk.{WalkNumber, IsWalk, after_releases, walk_to}
use Rattle.prta_tail.proofs.WalkSteps.{quiet_walk, quiet_before, stays_next}
use Rattle.prta_tail.proofs.walking.walk.Goals as goal
use Rattle.prta_tail.proofs.walking.walk.Goals.{then-instant-t, else-instant-t}

-- an instant by its parts
by_parts : (tasks : List Task) (level : ℕ → Bool) (from : ℕ) (a b : InstantParts) → a ≡ b → IsInstant tasks level from b.at (holds b.released) → IsInstant tasks level from a.at (holds a.released)
by_parts tasks level from a b e h = subst (λ (i : InstantParts). IsInstant tasks level from i.at (holds i.released)) (sym e) h

pub loop-t-preserved : goal.loop-t-preserved
loop-t-preserved c =
    let tasks : List Task = c.args.sheet.now.tasks in
    let level : Level = level_of c.args.higher c.args.task in
    let t : ℕ = c.loop-t.t in
    let next : IsInstant tasks (has_task level) t c.instant.inside.at (holds c.instant.inside.released) = by_parts _ _ _ _ _ c.instant.view_is c.loop-t.invariant.next in
    let risen : WalkNumber = after_releases c.args.ratio (table_of tasks) (level_at tasks level t) (walk_to tasks level c.args.ratio t) in
    let one_more : suc t ≡ t + 1 = omega arith in
    let ticked : IsWalk risen c.if-instant-t.number → IsWalk (walk_to tasks level c.args.ratio (t + 1)) c.tick-number.result =
    λ is. subst (λ n. IsWalk (walk_to tasks level c.args.ratio n) c.tick-number.result) one_more (c.tick-number.ensures risen is) in
    elim c.if-instant-t.branch [
      | then-instant-t w ↦
          record {
            next = rw w.instant-is w.instant_from-instant-then-instant-t.ensures;
            walk = ticked (subst (IsWalk risen) (sym w.number-is) (w.level_releases-number.ensures (walk_to tasks level c.args.ratio t) c.loop-t.invariant.walk));
          }
      | else-instant-t w ↦
          let later : t < c.instant.inside.at = omega (arith, w.if-instant-t.false, next.time.reached) in
          let stays : IsInstant tasks (has_task level) (t + 1) c.instant.inside.at (holds c.instant.inside.released) = record { time = stays_next tasks level c.args.ratio t c.instant.inside.at next.time later; each = next.each } in
          let same : IsInstant tasks (has_task level) (t + 1) c.loop-t.instant.at (holds c.loop-t.instant.released) = by_parts _ _ _ _ _ (sym c.instant.view_is) stays in
          record {
            next = rw w.instant-is same;
            walk = ticked (subst (IsWalk risen) (sym w.number-is)
                (quiet_walk tasks level c.args.ratio t c.loop-t.number (quiet_before tasks level c.args.ratio t c.instant.inside.at next.time later) c.loop-t.invariant.walk));
          }
    ]
