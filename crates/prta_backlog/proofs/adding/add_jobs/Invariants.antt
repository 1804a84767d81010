-- the tables of the jobs of the tasks so far are added
use Rattle.std.proofs.Common.{◌≤◌, filter, take, length}
use Rattle.prta_sheet.specs.Job.{released_at, table_of}
use Rattle.prta_jobs.specs.TaskSet.{holds}
use Rattle.prta_backlog.proofs.Additions.{Added}
use Rattle.prta_backlog.proofs.adding.add_jobs.Given as goal

abbrev pub invariant-loop-i : goal.invariant-loop-i
invariant-loop-i g l =
    let jobs = filter (λ job. holds l.set job.task) (released_at 0 (take l.i l.tasks) l.at) in
    Added l.origin.dir l.origin.task l.origin.job l.made (table_of l.tasks) jobs (g.C.Curve.cells l.initial.curve) (g.N.Notes.noted l.initial.notes) (g.N.Notes.room l.initial.notes)
    (g.C.Curve.cells l.curve) (g.N.Notes.noted l.notes) (g.N.Notes.room l.notes) l.op
    × (length jobs ≤ l.i)
