-- The next instant of the level, by its parts.
use Rattle.std.proofs.Common.{◌≡◌, ℕ, ◌+◌, Bool, List, [], filter, ap, sym, ◌∙◌, subst}
use Rattle.prta_sheet.specs.Sheet.{Task}
use Rattle.prta_sheet.specs.Job.{Job, released_at}
use Rattle.prta_jobs.specs.TaskSet.{holds}
use Rattle.prta_jobs.specs.Instant.{InstantParts, IsInstant}
use Rattle.prta_response.specs.Coming.{ComingState, to_come, IsComing}
use Rattle.prta_response.proofs.Walk.{past_end, stepped}
use Rattle.prta_response.proofs.coming.Coming.step.Goals as goal

-- an instant by its parts
by_parts : (tasks : List Task) (level : ℕ → Bool) (from : ℕ) (a b : InstantParts) → a ≡ b → IsInstant tasks level from b.at (holds b.released) → IsInstant tasks level from a.at (holds a.released)
by_parts tasks level from a b e h = subst (λ (i : InstantParts). IsInstant tasks level from i.at (holds i.released)) (sym e) h

pub returns-then-instant-self-clause-ends : goal.returns-then-instant-self-clause-ends
returns-then-instant-self-clause-ends c ended =
    let tasks : List Task = c.args.sheet.now.tasks in
    let before : ComingState = record { higher = c.self.inside.higher; own = c.self.inside.own; end = c.self.inside.end; at = c.self.inside.at; waiting = c.self.inside.waiting } in
    let stands : before ≡ c.args.self.now = c.self.view_is in
    let next : IsInstant tasks (holds c.with-level.result) (before.at + 1) c.instant.inside.at (holds c.instant.inside.released) =
    by_parts tasks (holds c.with-level.result) (before.at + 1) _ _ c.instant.view_is c.next_instant-instant.ensures.instant in
    subst (λ b. to_come tasks b ≡ []) stands
    (past_end tasks before (holds c.with-level.result) c.with-level.ensures.members (subst (IsComing tasks) (sym stands) c.requires.coming)
    (subst (λ (b : ComingState). filter (λ (job : Job). holds b.waiting job.task) (released_at 0 tasks b.at) ≡ []) (sym stands) c.requires.none)
    c.instant.inside.at next.time c.if-instant-self.true)

pub returns-clause-jobs : goal.returns-clause-jobs
returns-clause-jobs c went =
    let tasks : List Task = c.args.sheet.now.tasks in
    let before : ComingState = record { higher = c.self.inside.higher; own = c.self.inside.own; end = c.self.inside.end; at = c.self.inside.at; waiting = c.self.inside.waiting } in
    let stands : before ≡ c.args.self.now = c.self.view_is in
    let next : IsInstant tasks (holds c.with-level.result) (before.at + 1) c.instant.inside.at (holds c.instant.inside.released) =
    by_parts tasks (holds c.with-level.result) (before.at + 1) _ _ c.instant.view_is c.next_instant-instant.ensures.instant in
    stepped tasks before (holds c.with-level.result) c.with-level.ensures.members (subst (IsComing tasks) (sym stands) c.requires.coming)
    (subst (λ (b : ComingState). filter (λ (job : Job). holds b.waiting job.task) (released_at 0 tasks b.at) ≡ []) (sym stands) c.requires.none)
    c.instant.inside.at (holds c.instant.inside.released) c.without-self-inside.result next c.without-self-inside.ensures.members c.if-instant-self.false
    ∙ ap (to_come tasks) stands
