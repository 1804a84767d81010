use Rattle.std.proofs.Common.{◌≡◌, ◌+◌, ◌≤◌, length, ap, ◌∙◌, subst, arith}
use Rattle.prta_jobs.specs.Instant.{InstantParts}
use Rattle.prta_ledger.specs.Noted.{appended}
use Rattle.prta_backlog.specs.Pass.{pass_level, pass_support, pass_run, pass_entries}
use Rattle.prta_backlog.proofs.Chances.{size_instant}
use Rattle.prta_backlog.proofs.pass.LevelPass.step.Goals as goal

pub next-instant-requires-clause-before : goal.next-instant-requires-clause-before
next-instant-requires-clause-before g c = omega (arith, c.short_horizon.ensures, c.requires.before)

pub returns-clause-noted : goal.returns-clause-noted
returns-clause-noted g c =
    subst (λ t. g.N.Notes.noted c.make-made.new.notes ≡ appended (g.N.Notes.noted c.args.notes.now) (pass_entries c.args.sheet.now c.args.self.now (g.C.Curve.cells c.args.bench.now.main) t))
    (ap (λ (i : InstantParts). i.at) c.instant.view_is) c.make-made.ensures.noted.entries

pub returns-clause-room : goal.returns-clause-room
returns-clause-room g c =
    subst (λ t. g.N.Notes.room c.args.notes.now ≤ g.N.Notes.room c.make-made.new.notes + length (pass_entries c.args.sheet.now c.args.self.now (g.C.Curve.cells c.args.bench.now.main) t))
    (ap (λ (i : InstantParts). i.at) c.instant.view_is) c.make-made.ensures.noted.room

pub returns-clause-cap : goal.returns-clause-cap
returns-clause-cap g c =
    ap length c.make-made.ensures.list
    ∙ size_instant c.args.self.now.dir c.args.sheet.now.tasks (pass_level c.args.self.now) (pass_support c.args.sheet.now c.args.self.now) (pass_run c.args.self.now (g.C.Curve.cells c.args.bench.now.main)) c.instant.inside.at
