-- One more task: its job's table is added where the set has the task and it releases a job.
use Rattle.std.proofs.Common.{◌≡◌, ℕ, ◌+◌, ◌-◌, ◌/◌, ◌<◌, ◌≤◌, Bool, true, false, ◌&&◌, List, [], ◌∷◌, ◌++◌, filter, length, length-append, refl, ap, sym, ◌∙◌, subst, arith}
use Rattle.std.proofs.lemmas.List.{get_or_default}
use Rattle.std.proofs.lemmas.Bool.{and_parts}
use Rattle.prta_mass.specs.Table.{Table}
use Rattle.prta_sheet.specs.Sheet.{Task, task_at, table_in}
use Rattle.prta_sheet.specs.Job.{is_release, released_at, table_of}
use Rattle.prta_jobs.specs.TaskSet.{holds}
use Rattle.prta_dist.specs.Addition.{added}
use Rattle.prta_ledger.specs.Noted.{appended}
use Rattle.prta_backlog.specs.Entries.{addition, entries_of}
use Rattle.prta_backlog.proofs.Released.{job_at}
use Rattle.prta_backlog.proofs.Additions.{added_push, added_same, added_room, so_far, job_more, no_job_more, prefix_low}
use Rattle.prta_backlog.proofs.adding.add_jobs.Goals as goal
use Rattle.prta_backlog.proofs.adding.add_jobs.Goals.{then-both_hold, else-both_hold}

and_other : (a b r : Bool) → (a ≡ true → b ≡ r) → (a && b) ≡ false → (a && r) ≡ false
and_other true b r h e = sym (h refl) ∙ e
and_other false b r h e = refl

pub add_table-requires : goal.add_table-requires
add_table-requires g c =
    let T : List Task = c.tasks-tasks.result.now in
    let i : ℕ = c.loop-i.i in
    let same : T ≡ c.args.sheet.now.tasks = c.tasks-tasks.ensures.tasks in
    let parts : (holds c.args.set i ≡ true) × (holds c.args.released i ≡ true) = and_parts (holds c.args.set i) (holds c.args.released i) (sym c.both_hold.ensures ∙ c.if-both_hold.true) in
    let rel : is_release (task_at T i) c.args.at ≡ true = ap (λ ts. is_release (task_at ts i) c.args.at) same ∙ sym (c.requires.released i parts.0) ∙ parts.1 in
    let more : so_far (holds c.args.set) T c.args.at i c.loop-i-test.true (i + 1) ≡ so_far (holds c.args.set) T c.args.at i c.loop-i-test.true i ++ job_at i (task_at T i) c.args.at ∷ [] =
    job_more (holds c.args.set) T c.args.at i c.loop-i-test.true parts.0 rel in
    let all : length (filter (λ job. holds c.args.set job.task) (released_at 0 T c.args.at)) ≡ length (filter (λ job. holds c.args.set job.task) (released_at 0 c.args.sheet.now.tasks c.args.at)) =
    ap (λ ts. length (filter (λ job. holds c.args.set job.task) (released_at 0 ts c.args.at))) same in
    omega (
      arith,
      added_room _ _ _ _ _ _ _ _ _ _ _ _ _ c.loop-i.invariant.0,
      c.requires.room,
      ap length more,
      length-append (so_far (holds c.args.set) T c.args.at i c.loop-i-test.true i) (job_at i (task_at T i) c.args.at ∷ []),
      prefix_low (holds c.args.set) 0 T c.args.at (i + 1),
      all,
    )

pub loop-i-preserved : goal.loop-i-preserved
loop-i-preserved g c =
    let T : List Task = c.tasks-tasks.result.now in
    let i : ℕ = c.loop-i.i in
    let at : ℕ = c.args.at in
    let same : T ≡ c.args.sheet.now.tasks = c.tasks-tasks.ensures.tasks in
    let low : i < length T = c.loop-i-test.true in
    let agree : holds c.args.set i ≡ true → holds c.args.released i ≡ is_release (task_at T i) at = λ h. c.requires.released i h ∙ ap (λ ts. is_release (task_at ts i) at) (sym same) in
    elim c.if-both_hold.branch [
      | then-both_hold w ↦
          let parts : (holds c.args.set i ≡ true) × (holds c.args.released i ≡ true) = and_parts (holds c.args.set i) (holds c.args.released i) (sym c.both_hold.ensures ∙ w.if-both_hold.true) in
          let rel : is_release (task_at T i) at ≡ true = sym (agree parts.0) ∙ parts.1 in
          let more : so_far (holds c.args.set) T at i low (i + 1) ≡ so_far (holds c.args.set) T at i low i ++ job_at i (task_at T i) at ∷ [] = job_more (holds c.args.set) T at i low parts.0 rel in
          let one : w.index-tasks-i.result ≡ task_at T i = w.index-tasks-i.is ∙ get_or_default T i _ _ low in
          let tab : w.table_at.result.now ≡ table_of T (job_at i (task_at T i) at) = w.table_at.ensures ∙ ap (λ (t : Task). table_in t ((at - t.offset) / t.period)) one in (
            added_same _ _ _ _ _ _ _ _ _ _ _ _ _ _ _ _ _ _ more (ap g.C.Curve.cells w.curve-is) (ap g.N.Notes.noted w.notes-is) (ap g.N.Notes.room w.notes-is) w.op-is
                (added_push _ _ _ _ _ _ _ _ _ (job_at i (task_at T i) at) _ _ _ _ _ _ _ c.loop-i.invariant.0
                (subst (λ (t : Table). g.C.Curve.cells w.add_table.new.curve ≡ added c.args.origin.dir t (g.C.Curve.cells c.loop-i.curve)) tab w.add_table.ensures.cells)
                (subst (λ (t : Table). g.N.Notes.noted w.add_table.new.notes ≡ appended (g.N.Notes.noted c.loop-i.notes) (entries_of c.args.origin.dir c.args.origin.task c.args.origin.job (c.loop-i.op + 1) (addition c.args.origin.dir t (g.C.Curve.cells c.loop-i.curve)))) tab w.add_table.ensures.noted)
                (subst (λ (t : Table). g.N.Notes.room c.loop-i.notes ≤ g.N.Notes.room w.add_table.new.notes + length (entries_of c.args.origin.dir c.args.origin.task c.args.origin.job (c.loop-i.op + 1) (addition c.args.origin.dir t (g.C.Curve.cells c.loop-i.curve)))) tab w.add_table.ensures.room)),
            omega (arith, c.loop-i.invariant.1, ap length more, length-append (so_far (holds c.args.set) T at i low i) (job_at i (task_at T i) at ∷ [])),
          )
      | else-both_hold w ↦
          let none : so_far (holds c.args.set) T at i low (i + 1) ≡ so_far (holds c.args.set) T at i low i =
          no_job_more (holds c.args.set) T at i low (and_other (holds c.args.set i) (holds c.args.released i) (is_release (task_at T i) at) agree (sym c.both_hold.ensures ∙ w.if-both_hold.false)) in (
            added_same _ _ _ _ _ _ _ _ _ _ _ _ _ _ _ _ _ _ none (ap g.C.Curve.cells w.curve-is) (ap g.N.Notes.noted w.notes-is) (ap g.N.Notes.room w.notes-is) w.op-is c.loop-i.invariant.0,
            omega (arith, c.loop-i.invariant.1, ap length none),
          )
    ]
