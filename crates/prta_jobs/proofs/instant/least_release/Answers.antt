use Rattle.std.proofs.Common.{◌≡◌, ℕ, ◌+◌, ◌*◌, ◌<◌, List, length, sym, subst, refl, ◌∙◌, arith}
use Rattle.std.proofs.lemmas.List.{get_or_default}
use Rattle.prta_sheet.specs.Sheet.{Task, task_at}
use Rattle.prta_sheet.specs.Counts.{releases}
use Rattle.prta_jobs.specs.TaskSet.{holds}
use Rattle.prta_jobs.specs.Ranges.{HasShortPeriod}
use Rattle.prta_jobs.specs.Instant.{IsNextRelease}
use Rattle.prta_jobs.proofs.NextRelease.{next_release_is, next_release_near}
use Rattle.prta_jobs.proofs.Levels.{IsLeastSoFar, least_with, least_without, least_found, least_before}
use Rattle.prta_jobs.proofs.instant.least_release.Goals as goal
use Rattle.prta_jobs.proofs.instant.least_release.Goals.{then-holds, else-holds}

pub loop-i-preserved : goal.loop-i-preserved
loop-i-preserved c =
    let tasks : List Task = c.args.tasks.now in
    let i : ℕ = c.loop-i.i in
    let Found : ℕ → Type 0 = IsLeastSoFar tasks (holds c.args.level) c.args.from (i + 1) in
    elim c.if-holds.branch [
      | then-holds w ↦
          let task : w.index-tasks-i.result ≡ task_at tasks i = w.index-tasks-i.is ∙ get_or_default tasks i _ _ c.loop-i-test.true in
          let next : IsNextRelease (task_at tasks i) c.args.from w.next_release.result =
          subst (λ (task : Task). IsNextRelease task c.args.from w.next_release.result) task w.next_release.ensures.next in
          subst Found (sym (w.least-is ∙ w.min-least.ensures)) (least_with tasks (holds c.args.level) c.args.from i c.loop-i.least c.loop-i.invariant (sym c.holds.ensures.held ∙ w.if-holds.true) w.next_release.result next)
      | else-holds w ↦ subst Found (sym w.least-is) (least_without tasks (holds c.args.level) c.args.from i c.loop-i.least c.loop-i.invariant (sym c.holds.ensures.held ∙ w.if-holds.false))
    ]

-- the next release of a task of the level
pub returns-clause-least : goal.returns-clause-least
returns-clause-least c =
    let tasks : List Task = c.args.tasks.now in
    let k : ℕ = c.requires.some.0 in
    let low : k < length tasks = c.requires.on_sheet k c.requires.some.1 in
    let own : HasShortPeriod (task_at tasks k) = c.requires.sheet.each k _ low in
    let next : ℕ = (task_at tasks k).offset + releases (task_at tasks k) c.args.from * (task_at tasks k).period in
    least_found tasks (holds c.args.level) c.args.from c.loop-i.i c.loop-i.least c.requires.on_sheet c.loop-i.invariant c.loop-i-test.false
    k c.requires.some.1 next (next_release_is (task_at tasks k) c.args.from next (omega arith) refl) (omega (arith, next_release_near (task_at tasks k) c.args.from own.offset))

pub returns-clause-near : goal.returns-clause-near
returns-clause-near c =
    let tasks : List Task = c.args.tasks.now in
    let k : ℕ = c.requires.some.0 in
    let low : k < length tasks = c.requires.on_sheet k c.requires.some.1 in
    let own : HasShortPeriod (task_at tasks k) = c.requires.sheet.each k _ low in
    let next : ℕ = (task_at tasks k).offset + releases (task_at tasks k) c.args.from * (task_at tasks k).period in
    omega (
      arith,
      least_before tasks (holds c.args.level) c.args.from c.loop-i.least (returns-clause-least c) k c.requires.some.1 next (next_release_is (task_at tasks k) c.args.from next (omega arith) refl),
      next_release_near (task_at tasks k) c.args.from own.offset,
    )
