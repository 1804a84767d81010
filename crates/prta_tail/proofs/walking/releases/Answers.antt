-- One more task: its job is released where the set has the task and it releases one.
use Rattle.std.proofs.Common.{take, ◌≡◌, ℕ, ◌+◌, ◌-◌, ◌/◌, ◌<◌, Bool, true, false, ◌&&◌, List, [], ◌∷◌, ◌++◌, filter, length, refl, ap, sym, ◌∙◌, subst, arith}
use Rattle.std.specs.List.{list_all}
use Rattle.std.proofs.lemmas.List.{get_or_default, take_all}
use Rattle.std.proofs.lemmas.Bool.{and_parts}
use Rattle.prta_mass.specs.Table.{Table}
use Rattle.prta_sheet.specs.Sheet.{Task, task_at, table_in}
use Rattle.prta_sheet.specs.Accepted.{IsTask}
use Rattle.prta_sheet.specs.Job.{Job, is_release, released_at, table_of}
use Rattle.prta_jobs.specs.TaskSet.{holds}
use Rattle.prta_backlog.proofs.Released.{job_at}
use Rattle.prta_backlog.proofs.Additions.{so_far, job_more, no_job_more}
use Rattle.prta_tail.specs.Walk.{WalkNumber, IsWalk, grows_low, after_release, after_releases}
use Rattle.prta_tail.proofs.WalkSteps.{releases_push, job_grows_low}
use Rattle.prta_tail.proofs.walking.releases.Goals as goal
use Rattle.prta_tail.proofs.walking.releases.Goals.{then-both_hold, else-both_hold}

and_other : (a b r : Bool) → (a ≡ true → b ≡ r) → (a && b) ≡ false → (a && r) ≡ false
and_other true b r h e = sym (h refl) ∙ e
and_other false b r h e = refl

pub release-after-requires-clause-low : goal.release-after-requires-clause-low
release-after-requires-clause-low c =
    let T : List Task = c.tasks-tasks.result.now in
    let i : ℕ = c.loop-i.i in
    let at : ℕ = c.args.at in
    let same : T ≡ c.args.sheet.now.tasks = c.tasks-tasks.ensures.tasks in
    let low : i < length T = c.loop-i-test.true in
    let parts : (holds c.args.set i ≡ true) × (holds c.args.released i ≡ true) = and_parts (holds c.args.set i) (holds c.args.released i) (sym c.both_hold.ensures ∙ c.if-both_hold.true) in
    let one : c.index-tasks-i.result ≡ task_at T i = c.index-tasks-i.is ∙ get_or_default T i _ _ low in
    let number : ℕ = (at - (task_at T i).offset) / (task_at T i).period in
    let table : c.table_at.result.now ≡ table_in (task_at T i) number = c.table_at.ensures ∙ ap (λ (t : Task). table_in t ((at - t.offset) / t.period)) one in
    let grows : list_all (grows_low c.args.ratio) (task_at T i).cycle ≡ true = subst (λ ts. list_all (grows_low c.args.ratio) (task_at ts i).cycle ≡ true) (sym same) (c.requires.low i parts.0) in
    let is : IsTask c.args.sheet.now.settings.cap (task_at T i) = subst (λ ts. IsTask c.args.sheet.now.settings.cap (task_at ts i)) (sym same) (c.tasks-tasks.ensures.accepted.tasks i _ (subst (λ ts. i < length ts) same low)) in
    subst (λ (t : Table). grows_low c.args.ratio t ≡ true) (sym table) (job_grows_low c.args.ratio (task_at T i) number is.cycle_low grows)

pub loop-i-preserved : goal.loop-i-preserved
loop-i-preserved c =
    let T : List Task = c.tasks-tasks.result.now in
    let i : ℕ = c.loop-i.i in
    let at : ℕ = c.args.at in
    let same : T ≡ c.args.sheet.now.tasks = c.tasks-tasks.ensures.tasks in
    let low : i < length T = c.loop-i-test.true in
    let agree : holds c.args.set i ≡ true → holds c.args.released i ≡ is_release (task_at T i) at = λ h. c.requires.released i h ∙ ap (λ ts. is_release (task_at ts i) at) (sym same) in
    elim c.if-both_hold.branch [
      | then-both_hold w ↦ λ walk is.
          let parts : (holds c.args.set i ≡ true) × (holds c.args.released i ≡ true) = and_parts (holds c.args.set i) (holds c.args.released i) (sym c.both_hold.ensures ∙ w.if-both_hold.true) in
          let rel : is_release (task_at T i) at ≡ true = sym (agree parts.0) ∙ parts.1 in
          let job : Job = job_at i (task_at T i) at in
          let before : List Job = so_far (holds c.args.set) T at i low i in
          let more : so_far (holds c.args.set) T at i low (i + 1) ≡ before ++ job ∷ [] = job_more (holds c.args.set) T at i low parts.0 rel in
          let one : w.index-tasks-i.result ≡ task_at T i = w.index-tasks-i.is ∙ get_or_default T i _ _ low in
          let tab : w.table_at.result.now ≡ table_of T job = w.table_at.ensures ∙ ap (λ (t : Task). table_in t ((at - t.offset) / t.period)) one in
          let walked : WalkNumber = after_releases c.args.ratio (table_of T) before walk in
          let next : IsWalk (after_release c.args.ratio w.table_at.result.now walked) w.release-after.result = w.release-after.ensures walked (c.loop-i.invariant walk is) in
          let now : IsWalk (after_release c.args.ratio (table_of T job) walked) w.release-after.result = subst (λ (t : Table). IsWalk (after_release c.args.ratio t walked) w.release-after.result) tab next in
          let all : IsWalk (after_releases c.args.ratio (table_of T) (so_far (holds c.args.set) T at i low (i + 1)) walk) w.release-after.result =
          subst (λ (jobs : List Job). IsWalk (after_releases c.args.ratio (table_of T) jobs walk) w.release-after.result) (sym more)
          (subst (λ v. IsWalk v w.release-after.result) (sym (releases_push c.args.ratio (table_of T) before job walk)) now) in
          subst (IsWalk (after_releases c.args.ratio (table_of T) (so_far (holds c.args.set) T at i low (i + 1)) walk)) (sym w.after-is) all
      | else-both_hold w ↦ λ walk is.
          let none : so_far (holds c.args.set) T at i low (i + 1) ≡ so_far (holds c.args.set) T at i low i =
          no_job_more (holds c.args.set) T at i low (and_other (holds c.args.set i) (holds c.args.released i) (is_release (task_at T i) at) agree (sym c.both_hold.ensures ∙ w.if-both_hold.false)) in
          subst (λ (jobs : List Job). IsWalk (after_releases c.args.ratio (table_of T) jobs walk) c.if-both_hold.after) (sym none)
          (subst (IsWalk (after_releases c.args.ratio (table_of T) (so_far (holds c.args.set) T at i low i) walk)) (sym w.after-is) (c.loop-i.invariant walk is))
    ]

pub returns : goal.returns
returns c walk is =
    let T : List Task = c.tasks-tasks.result.now in
    let jobs : List Task → List Job = λ ts. filter (λ (job : Job). holds c.args.set job.task) (released_at 0 ts c.args.at) in
    let same : T ≡ c.args.sheet.now.tasks = c.tasks-tasks.ensures.tasks in
    let all : take c.loop-i.i T ≡ T = take_all c.loop-i.i T (omega (arith, c.loop-i-test.false)) in
    let every : IsWalk (after_releases c.args.ratio (table_of T) (jobs T) walk) c.loop-i.after =
    subst (λ (ts : List Task). IsWalk (after_releases c.args.ratio (table_of T) (jobs ts) walk) c.loop-i.after) all (c.loop-i.invariant walk is) in
    subst (λ (ts : List Task). IsWalk (after_releases c.args.ratio (table_of ts) (jobs ts) walk) c.loop-i.after) same every
