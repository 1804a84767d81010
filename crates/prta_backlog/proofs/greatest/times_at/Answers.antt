-- One more task: its job's greatest time is added where the set has the task and it releases a job.
use Rattle.std.proofs.Common.{◌≡◌, ℕ, ◌+◌, ◌-◌, ◌/◌, ◌<◌, ◌≤◌, Bool, true, false, ◌&&◌, List, [], ◌∷◌, ◌++◌, All, length, refl, ap, sym, ◌∙◌, subst, arith}
use Rattle.std.proofs.lemmas.List.{get_or_default}
use Rattle.std.proofs.lemmas.Bool.{and_parts}
use Rattle.prta_mass.specs.Table.{greatest}
use Rattle.prta_sheet.specs.declared.limits.TheConstants.{TIME_LIMIT}
use Rattle.prta_sheet.specs.Sheet.{Task, task_at, table_in}
use Rattle.prta_sheet.specs.Accepted.{IsTask}
use Rattle.prta_sheet.specs.Job.{Job, is_release, table_of}
use Rattle.prta_jobs.specs.TaskSet.{holds}
use Rattle.prta_backlog.specs.Greatest.{greatest_times}
use Rattle.prta_backlog.proofs.Released.{job_at}
use Rattle.prta_backlog.proofs.Additions.{so_far, job_more, no_job_more}
use Rattle.prta_backlog.proofs.Walks.{times_push, time_low}
use Rattle.prta_backlog.proofs.greatest.times_at.Goals as goal
use Rattle.prta_backlog.proofs.greatest.times_at.Goals.{then-both_hold, else-both_hold}

and_other : (a b r : Bool) → (a ≡ true → b ≡ r) → (a && b) ≡ false → (a && r) ≡ false
and_other true b r h e = sym (h refl) ∙ e
and_other false b r h e = refl

pub loop-i-preserved : goal.loop-i-preserved
loop-i-preserved c =
    let T : List Task = c.tasks-tasks.result.now in
    let i : ℕ = c.loop-i.i in
    let at : ℕ = c.args.at in
    let same : T ≡ c.args.sheet.now.tasks = c.tasks-tasks.ensures.tasks in
    let low : i < length T = c.loop-i-test.true in
    let agree : holds c.args.set i ≡ true → holds c.args.released i ≡ is_release (task_at T i) at = λ h. c.requires.released i h ∙ ap (λ ts. is_release (task_at ts i) at) (sym same) in
    elim c.if-both_hold.branch [
      | then-both_hold w ↦
          let parts : (holds c.args.set i ≡ true) × (holds c.args.released i ≡ true) = and_parts (holds c.args.set i) (holds c.args.released i) (sym c.both_hold.ensures ∙ w.if-both_hold.true) in
          let rel : is_release (task_at T i) at ≡ true = sym (agree parts.0) ∙ parts.1 in
          let job : Job = job_at i (task_at T i) at in
          let more : so_far (holds c.args.set) T at i low (i + 1) ≡ so_far (holds c.args.set) T at i low i ++ job ∷ [] = job_more (holds c.args.set) T at i low parts.0 rel in
          let one : w.index-tasks-i.result ≡ task_at T i = w.index-tasks-i.is ∙ get_or_default T i _ _ low in
          let tab : w.table_at.result.now ≡ table_of T job = w.table_at.ensures ∙ ap (λ (t : Task). table_in t ((at - t.offset) / t.period)) one in
          let time : w.greatest.result ≡ greatest (table_of T job) = w.greatest.ensures.greatest ∙ ap greatest tab in
          let tasks : All (IsTask c.args.sheet.now.settings.cap) T = subst (λ ts. All (IsTask c.args.sheet.now.settings.cap) ts) (sym same) c.tasks-tasks.ensures.accepted.tasks in
          let short : greatest (table_of T job) ≤ TIME_LIMIT = time_low c.args.sheet.now.settings.cap T job tasks low in
          let all : greatest_times T (so_far (holds c.args.set) T at i low (i + 1)) ≡ greatest_times T (so_far (holds c.args.set) T at i low i) + greatest (table_of T job) =
          ap (greatest_times T) more ∙ times_push T (so_far (holds c.args.set) T at i low i) job in
          (omega (arith, w.times-is, c.loop-i.invariant.0, time, all), omega (arith, w.times-is, c.loop-i.invariant.1, time, short))
      | else-both_hold w ↦
          let none : so_far (holds c.args.set) T at i low (i + 1) ≡ so_far (holds c.args.set) T at i low i =
          no_job_more (holds c.args.set) T at i low (and_other (holds c.args.set i) (holds c.args.released i) (is_release (task_at T i) at) agree (sym c.both_hold.ensures ∙ w.if-both_hold.false)) in
          (w.times-is ∙ c.loop-i.invariant.0 ∙ ap (greatest_times T) (sym none), omega (arith, w.times-is, c.loop-i.invariant.1))
    ]
