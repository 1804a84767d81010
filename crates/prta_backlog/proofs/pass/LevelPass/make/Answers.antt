-- A re-sampling, a shift, the additions of the higher tasks and that of the own one are an instant.
use Rattle.std.proofs.Common.{◌≡◌, ℕ, ◌+◌, ◌-◌, ◌<◌, Bool, true, false, ◌&&◌, ◌||◌, nat_eq, Option, List, filter, length, refl, ap, sym, ◌∙◌, subst, arith, eq-eqb}
use Rattle.std.specs.Prelude.{unwrap_or, is_some}
use Rattle.prta_mass.specs.declared.direction.Dir.{Dir}
use Rattle.prta_mass.specs.declared.support.Support.{Support}
use Rattle.prta_sheet.specs.Sheet.{task_at}
use Rattle.prta_sheet.specs.Job.{Job, is_release, released_at, table_of}
use Rattle.prta_jobs.specs.TaskSet.{holds}
use Rattle.prta_shift.specs.Shift.{shifted}
use Rattle.prta_backlog.specs.declared.noting.Origin.{Origin}
use Rattle.prta_backlog.specs.Level.{Level, has_task, higher_at, own_at}
use Rattle.prta_backlog.specs.LevelRun.{RunState, tables_added, after_instant}
use Rattle.prta_backlog.specs.Entries.{additions, samplings, operations_of, named_job}
use Rattle.prta_ledger.specs.declared.entry.Entry.{Entry}
use Rattle.prta_backlog.specs.AreNoted.{AreNoted}
use Rattle.prta_backlog.specs.Pass.{PassState, level_of, pass_level, pass_support, pass_run, after_last}
use Rattle.prta_backlog.proofs.Additions.{FoundCells, made_cells, made_number, made_notes, few_operations, few_samplings, level_low, filter_same, kept_same, samplings_same, sampling_room, jobs_room, same_parts}
use Rattle.prta_backlog.proofs.pass.LevelPass.make.Given as given
use Rattle.prta_backlog.proofs.pass.LevelPass.make.Goals as goal

or_right : (a b : Bool) → b ≡ true → (a || b) ≡ true
or_right true b e = refl
or_right false b e = e

or_none : (a b : Bool) → b ≡ false → (a || b) ≡ a
or_none true b e = refl
or_none false b e = e

-- the set of the own task alone
own_set : (i task : ℕ) (set none : List Bool) → ((i : ℕ) → holds set i ≡ (nat_eq i task || holds none i)) → ((i : ℕ) → holds none i ≡ false) → holds set i ≡ nat_eq i task
own_set i task set none with_task empty = with_task i ∙ or_none (nat_eq i task) (holds none i) (empty i)

pub origin-origin-requires-clause-task : goal.origin-origin-requires-clause-task
origin-origin-requires-clause-task g c =
    c.requires.on_sheet c.args.self.now.task (ap (λ b. b || holds c.args.self.now.higher c.args.self.now.task) (eq-eqb c.args.self.now.task c.args.self.now.task refl))

pub add_jobs-made-requires-clause-released : goal.add_jobs-made-requires-clause-released
add_jobs-made-requires-clause-released g c = λ i h.
    c.requires.instant.each i
    ∙ ap (λ (p : PassState). has_task (pass_level p) i && is_release (task_at c.args.sheet.now.tasks i) c.args.at) (sym c.self.view_is)
    ∙ ap (λ b. b && is_release (task_at c.args.sheet.now.tasks i) c.args.at) (or_right (nat_eq i c.self.inside.task) (holds c.self.inside.higher i) h)

pub with-own-requires : goal.with-own-requires
with-own-requires g c =
    let task : c.self.inside.task ≡ c.args.self.now.task = ap (λ (p : PassState). p.task) c.self.view_is in
    let low : c.args.self.now.task < length c.args.sheet.now.tasks =
    c.requires.on_sheet c.args.self.now.task (ap (λ b. b || holds c.args.self.now.higher c.args.self.now.task) (eq-eqb c.args.self.now.task c.args.self.now.task refl)) in
    omega (arith, c.tasks-tasks.ensures.accepted.few)

pub add_jobs-requires-clause-released : goal.add_jobs-requires-clause-released
add_jobs-requires-clause-released g c = λ i h.
    let own : nat_eq i c.self.inside.task ≡ true = sym (own_set i c.self.inside.task c.with-own.result c.empty.result c.with-own.ensures.members c.empty.ensures.members) ∙ h in
    c.requires.instant.each i
    ∙ ap (λ (p : PassState). has_task (pass_level p) i && is_release (task_at c.args.sheet.now.tasks i) c.args.at) (sym c.self.view_is)
    ∙ ap (λ b. (b || holds c.self.inside.higher i) && is_release (task_at c.args.sheet.now.tasks i) c.args.at) own

-- the parts of the pass
abbrev level : (g : given.Over) → goal.After-add_jobs g → Level
level g c = level_of c.self.inside.higher c.self.inside.task

abbrev run : (g : given.Over) → goal.After-add_jobs g → RunState
run g c = record { cells = g.C.Curve.cells c.args.curve.now; since = unwrap_or c.self.inside.last 0; begun = is_some c.self.inside.last }

pub add_jobs-made-requires-clause-room : goal.add_jobs-made-requires-clause-room
add_jobs-made-requires-clause-room g c =
    let level : Level = level_of c.self.inside.higher c.self.inside.task in
    let apart : holds c.self.inside.higher c.self.inside.task ≡ false = ap (λ (p : PassState). holds p.higher p.task) c.self.view_is ∙ c.requires.apart in
    omega (
      arith,
      level_low c.args.sheet.now.tasks level c.args.at apart,
      c.tasks-tasks.ensures.accepted.few,
      c.requires.room,
      sampling_room _ _ _ _ c.support-support.result (record { cells = g.C.Curve.cells c.args.curve.now; since = 0; begun = c.is_some.result }) _ _ _ _ c.resample-made.ensures.noted,
    )

pub add_jobs-requires-clause-room : goal.add_jobs-requires-clause-room
add_jobs-requires-clause-room g c =
    let level : Level = level_of c.self.inside.higher c.self.inside.task in
    let apart : holds c.self.inside.higher c.self.inside.task ≡ false = ap (λ (p : PassState). holds p.higher p.task) c.self.view_is ∙ c.requires.apart in
    let own : filter (λ (job : Job). holds c.with-own.result job.task) (released_at 0 c.args.sheet.now.tasks c.args.at) ≡ own_at c.args.sheet.now.tasks level c.args.at =
    filter_same _ _ (released_at 0 c.args.sheet.now.tasks c.args.at) (λ (job : Job). own_set job.task c.self.inside.task c.with-own.result c.empty.result c.with-own.ensures.members c.empty.ensures.members) in
    omega (
      arith,
      level_low c.args.sheet.now.tasks level c.args.at apart,
      c.tasks-tasks.ensures.accepted.few,
      c.requires.room,
      sampling_room _ _ _ _ c.support-support.result (record { cells = g.C.Curve.cells c.args.curve.now; since = 0; begun = c.is_some.result }) _ _ _ _ c.resample-made.ensures.noted,
      jobs_room _ _ _ _ (table_of c.args.sheet.now.tasks) (higher_at c.args.sheet.now.tasks level c.args.at) (g.C.Curve.cells c.shift.new.self) _ _ _ _ c.add_jobs-made.ensures.noted,
      ap length own,
    )

-- few enough to be counted
pub add_jobs-requires-clause-made : goal.add_jobs-requires-clause-made
add_jobs-requires-clause-made g c =
    let level : Level = level_of c.self.inside.higher c.self.inside.task in
    let apart : holds c.self.inside.higher c.self.inside.task ≡ false = ap (λ (p : PassState). holds p.higher p.task) c.self.view_is ∙ c.requires.apart in
    omega (
      arith,
      level_low c.args.sheet.now.tasks level c.args.at apart,
      c.tasks-tasks.ensures.accepted.few,
      c.requires.before,
      c.self.invariant,
      ap (λ (p : PassState). after_last p.last) c.self.view_is,
      c.resample-made.ensures.made,
      few_samplings c.origin-origin.result.dir c.support-support.result (record { cells = g.C.Curve.cells c.args.curve.now; since = 0; begun = c.is_some.result }),
      c.add_jobs-made.ensures.made,
    )

own_jobs : (g : given.Over) (c : goal.After-add_jobs g) → filter (λ (job : Job). holds c.with-own.result job.task) (released_at 0 c.args.sheet.now.tasks c.args.at) ≡ own_at c.args.sheet.now.tasks (level g c) c.args.at
own_jobs g c = filter_same _ _ (released_at 0 c.args.sheet.now.tasks c.args.at) (λ (job : Job). own_set job.task c.self.inside.task c.with-own.result c.empty.result c.with-own.ensures.members c.empty.ensures.members)

found : (g : given.Over) (c : goal.After-add_jobs g) →
    FoundCells c.origin-origin.result.dir c.args.sheet.now.tasks (level g c) c.support-support.result (run g c) c.args.at
    (g.C.Curve.cells c.resample-made.new.curve) (g.C.Curve.cells c.shift.new.self) (g.C.Curve.cells c.add_jobs-made.new.curve) (g.C.Curve.cells c.add_jobs.new.curve)
found g c = record {
  sampled = c.resample-made.ensures.cells
      ∙ kept_same c.origin-origin.result.dir c.support-support.result (g.C.Curve.cells c.args.curve.now) 0 (unwrap_or c.self.inside.last 0) c.is_some.result (is_some c.self.inside.last) c.is_some.ensures;
  moved = c.shift.ensures.cells ∙ ap (λ n. shifted (c.args.at - n) (g.C.Curve.cells c.resample-made.new.curve)) c.unwrap_or.ensures;
  higher = c.add_jobs-made.ensures.cells;
  own = c.add_jobs.ensures.cells ∙ ap (λ js. tables_added c.origin-origin.result.dir (table_of c.args.sheet.now.tasks) js (g.C.Curve.cells c.add_jobs-made.new.curve)) (own_jobs g c);
}

-- what holds with these parts holds of the pass
of_pass : (g : given.Over) (c : goal.After-add_jobs g) (Goal : Dir → Level → Option Support → RunState → Type 0) →
    Goal c.origin-origin.result.dir (level g c) c.support-support.result (run g c) →
    Goal c.args.self.now.dir (pass_level c.args.self.now) (pass_support c.args.sheet.now c.args.self.now) (pass_run c.args.self.now (g.C.Curve.cells c.args.curve.now))
of_pass g c Goal h =
    same_parts Goal _ _ _ _ _ _ _ _ (ap (λ (o : Origin). o.dir) c.origin-origin.ensures) (ap (λ (p : PassState). pass_level p) c.self.view_is) c.support-support.ensures.value
    (ap (λ (p : PassState). pass_run p (g.C.Curve.cells c.args.curve.now)) c.self.view_is) h

pub returns-clause-list : goal.returns-clause-list
returns-clause-list g c =
    of_pass g c (λ d l s r. g.C.Curve.cells c.add_jobs.new.curve ≡ (after_instant d c.args.sheet.now.tasks l s r c.args.at).cells)
    (made_cells c.origin-origin.result.dir c.args.sheet.now.tasks (level g c) c.support-support.result (run g c) c.args.at _ _ _ _ (found g c))

sampled_number : (g : given.Over) (c : goal.After-add_jobs g) → c.resample-made.result ≡ c.self.inside.made + length (samplings c.origin-origin.result.dir c.support-support.result (run g c))
sampled_number g c =
    c.resample-made.ensures.made
    ∙ ap (λ ops. c.self.inside.made + length ops)
    (samplings_same c.origin-origin.result.dir c.support-support.result (g.C.Curve.cells c.args.curve.now) 0 (unwrap_or c.self.inside.last 0) c.is_some.result (is_some c.self.inside.last) c.is_some.ensures)

number : (g : given.Over) (c : goal.After-add_jobs g) → c.add_jobs.result ≡ c.self.inside.made + length (operations_of c.origin-origin.result.dir c.args.sheet.now.tasks (level g c) c.support-support.result (run g c) c.args.at)
number g c =
    made_number c.origin-origin.result.dir c.args.sheet.now.tasks (level g c) c.support-support.result (run g c) c.args.at c.resample-made.result c.add_jobs-made.result c.add_jobs.result c.self.inside.made
    (sampled_number g c) c.add_jobs-made.ensures.made (c.add_jobs.ensures.made ∙ ap (λ js. c.add_jobs-made.result + length js) (own_jobs g c))

pub returns-clause-made : goal.returns-clause-made
returns-clause-made g c =
    of_pass g c (λ d l s r. c.add_jobs.result ≡ c.args.self.now.made + length (operations_of d c.args.sheet.now.tasks l s r c.args.at))
    (number g c ∙ ap (λ (p : PassState). p.made + length (operations_of c.origin-origin.result.dir c.args.sheet.now.tasks (level g c) c.support-support.result (run g c) c.args.at)) c.self.view_is)

pub returns-clause-few : goal.returns-clause-few
returns-clause-few g c =
    omega (
      arith,
      returns-clause-made g c,
      few_operations c.args.self.now.dir c.args.sheet.now.tasks (pass_level c.args.self.now) (pass_support c.args.sheet.now c.args.self.now) (pass_run c.args.self.now (g.C.Curve.cells c.args.curve.now)) c.args.at c.requires.apart,
      c.tasks-tasks.ensures.accepted.few,
    )

pub returns-clause-noted : goal.returns-clause-noted
returns-clause-noted g c =
    let o : Origin = c.origin-origin.result in
    let n0 : Option (List Entry) = g.N.Notes.noted c.args.notes.now in
    let r0 : ℕ = g.N.Notes.room c.args.notes.now in
    let n3 : Option (List Entry) = g.N.Notes.noted c.add_jobs.new.notes in
    let r3 : ℕ = g.N.Notes.room c.add_jobs.new.notes in
    let first : AreNoted o.dir o.task o.job (1 + c.self.inside.made) (samplings o.dir c.support-support.result (run g c)) n0 r0 (g.N.Notes.noted c.resample-made.new.notes) (g.N.Notes.room c.resample-made.new.notes) =
    subst (λ ops. AreNoted o.dir o.task o.job (1 + c.self.inside.made) ops n0 r0 (g.N.Notes.noted c.resample-made.new.notes) (g.N.Notes.room c.resample-made.new.notes))
    (samplings_same o.dir c.support-support.result (g.C.Curve.cells c.args.curve.now) 0 (unwrap_or c.self.inside.last 0) c.is_some.result (is_some c.self.inside.last) c.is_some.ensures)
    c.resample-made.ensures.noted in
    let third : AreNoted o.dir o.task o.job (1 + c.add_jobs-made.result) (additions o.dir (table_of c.args.sheet.now.tasks) (own_at c.args.sheet.now.tasks (level g c) c.args.at) (g.C.Curve.cells c.add_jobs-made.new.curve))
    (g.N.Notes.noted c.add_jobs-made.new.notes) (g.N.Notes.room c.add_jobs-made.new.notes) n3 r3 =
    subst (λ js. AreNoted o.dir o.task o.job (1 + c.add_jobs-made.result) (additions o.dir (table_of c.args.sheet.now.tasks) js (g.C.Curve.cells c.add_jobs-made.new.curve))
    (g.N.Notes.noted c.add_jobs-made.new.notes) (g.N.Notes.room c.add_jobs-made.new.notes) n3 r3) (own_jobs g c) c.add_jobs.ensures.noted in
    let all : AreNoted o.dir o.task o.job (1 + c.self.inside.made) (operations_of o.dir c.args.sheet.now.tasks (level g c) c.support-support.result (run g c) c.args.at) n0 r0 n3 r3 =
    made_notes o.dir c.args.sheet.now.tasks (level g c) c.support-support.result (run g c) c.args.at o.task o.job c.self.inside.made c.resample-made.result c.add_jobs-made.result _ _ _ _ (found g c)
    n0 r0 _ _ _ _ n3 r3 first (sampled_number g c) c.add_jobs-made.ensures.noted c.add_jobs-made.ensures.made third in
    let made : c.self.inside.made ≡ c.args.self.now.made = ap (λ (p : PassState). p.made) c.self.view_is in
    of_pass g c (λ d l s r. AreNoted d c.args.self.now.task (named_job c.args.sheet.now.tasks (pass_level c.args.self.now) c.args.at) (1 + c.args.self.now.made) (operations_of d c.args.sheet.now.tasks l s r c.args.at) n0 r0 n3 r3)
    (subst (λ m. AreNoted o.dir c.args.self.now.task (named_job c.args.sheet.now.tasks (pass_level c.args.self.now) c.args.at) (1 + m) (operations_of o.dir c.args.sheet.now.tasks (level g c) c.support-support.result (run g c) c.args.at) n0 r0 n3 r3) made
    (subst (λ j. AreNoted o.dir c.args.self.now.task j (1 + c.self.inside.made) (operations_of o.dir c.args.sheet.now.tasks (level g c) c.support-support.result (run g c) c.args.at) n0 r0 n3 r3) (ap (λ (o : Origin). o.job) c.origin-origin.ensures)
    (subst (λ t. AreNoted o.dir t o.job (1 + c.self.inside.made) (operations_of o.dir c.args.sheet.now.tasks (level g c) c.support-support.result (run g c) c.args.at) n0 r0 n3 r3) (ap (λ (o : Origin). o.task) c.origin-origin.ensures) all)))
