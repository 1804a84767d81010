-- The jobs of the higher tasks are released, and then the own one.
use Rattle.std.proofs.Common.{◌≡◌, ℕ, ◌<◌, Bool, true, false, ◌||◌, nat_eq, List, filter, length, refl, ap, sym, ◌∙◌, subst, arith, eq-eqb}
use Rattle.prta_sheet.specs.Sheet.{Task}
use Rattle.prta_sheet.specs.Job.{Job, released_at, table_of}
use Rattle.prta_jobs.specs.TaskSet.{holds}
use Rattle.prta_backlog.specs.Level.{Level, has_task, higher_at, own_at}
use Rattle.prta_backlog.specs.Pass.{level_of}
use Rattle.prta_backlog.proofs.Additions.{filter_same}
use Rattle.prta_tail.specs.Walk.{WalkNumber, IsWalk, after_releases}
use Rattle.prta_tail.proofs.WalkSteps.{releases-append, task_grows_low}
use Rattle.prta_tail.proofs.walking.level_releases.Goals as goal

or_right : (a b : Bool) → b ≡ true → (a || b) ≡ true
or_right true b e = refl
or_right false b e = e

or_left : (a b : Bool) → a ≡ true → (a || b) ≡ true
or_left true b e = refl
or_left false b e = absurd (cc)

or_none : (a b : Bool) → b ≡ false → (a || b) ≡ a
or_none true b e = refl
or_none false b e = e

-- the set of the own task alone
own_set : (i task : ℕ) (set none : List Bool) → ((i : ℕ) → holds set i ≡ (nat_eq i task || holds none i)) → ((i : ℕ) → holds none i ≡ false) → holds set i ≡ nat_eq i task
own_set i task set none with_task empty = with_task i ∙ or_none (nat_eq i task) (holds none i) (empty i)

pub with-own-requires : goal.with-own-requires
with-own-requires c =
    let own : nat_eq c.args.task c.args.task ≡ true = eq-eqb c.args.task c.args.task refl in
    let low : c.args.task < length c.args.sheet.now.tasks = c.requires.on_sheet c.args.task (ap (λ b. b || holds c.args.higher c.args.task) own) in
    omega (arith, c.tasks-tasks.ensures.accepted.few)

pub releases-number-requires-clause-low : goal.releases-number-requires-clause-low
releases-number-requires-clause-low c i h =
    task_grows_low c.args.sheet.now.tasks (level_of c.args.higher c.args.task) c.args.ratio c.requires.low i (or_right (nat_eq i c.args.task) (holds c.args.higher i) h)
    (c.requires.on_sheet i (or_right (nat_eq i c.args.task) (holds c.args.higher i) h))

pub releases-number-requires-clause-released : goal.releases-number-requires-clause-released
releases-number-requires-clause-released c i h = c.requires.released i (or_right (nat_eq i c.args.task) (holds c.args.higher i) h)

pub releases-requires-clause-low : goal.releases-requires-clause-low
releases-requires-clause-low c i h =
    let own : nat_eq i c.args.task ≡ true = sym (own_set i c.args.task c.with-own.result c.empty.result c.with-own.ensures.members c.empty.ensures.members) ∙ h in
    let member : has_task (level_of c.args.higher c.args.task) i ≡ true = or_left (nat_eq i c.args.task) (holds c.args.higher i) own in
    task_grows_low c.args.sheet.now.tasks (level_of c.args.higher c.args.task) c.args.ratio c.requires.low i member (c.requires.on_sheet i member)

pub releases-requires-clause-released : goal.releases-requires-clause-released
releases-requires-clause-released c i h =
    let own : nat_eq i c.args.task ≡ true = sym (own_set i c.args.task c.with-own.result c.empty.result c.with-own.ensures.members c.empty.ensures.members) ∙ h in
    c.requires.released i (or_left (nat_eq i c.args.task) (holds c.args.higher i) own)

pub returns : goal.returns
returns c walk is =
    let tasks : List Task = c.args.sheet.now.tasks in
    let level : Level = level_of c.args.higher c.args.task in
    let own : filter (λ (job : Job). holds c.with-own.result job.task) (released_at 0 tasks c.args.at) ≡ own_at tasks level c.args.at =
    filter_same _ _ (released_at 0 tasks c.args.at) (λ (job : Job). own_set job.task c.args.task c.with-own.result c.empty.result c.with-own.ensures.members c.empty.ensures.members) in
    let middle : WalkNumber = after_releases c.args.ratio (table_of tasks) (higher_at tasks level c.args.at) walk in
    let first : IsWalk middle c.releases-number.result = c.releases-number.ensures walk is in
    let second : IsWalk (after_releases c.args.ratio (table_of tasks) (filter (λ (job : Job). holds c.with-own.result job.task) (released_at 0 tasks c.args.at)) middle) c.releases.result = c.releases.ensures middle first in
    subst (λ w. IsWalk w c.releases.result) (sym (releases-append c.args.ratio (table_of tasks) (higher_at tasks level c.args.at) (own_at tasks level c.args.at) walk))
    (subst (λ (jobs : List Job). IsWalk (after_releases c.args.ratio (table_of tasks) jobs middle) c.releases.result) own second)
