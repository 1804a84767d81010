-- what is left is accepted, has room, and leads to what all lines lead to
use Rattle.std.proofs.Common.{◌≡◌, ◌*◌, ◌≤◌, length}
use Rattle.prta_session.specs.Playing.{AreAccepted, print_count, tasks_analysed}
use Rattle.prta_session.specs.Workers.{lengthened}
use Rattle.prta_session.proofs.tests.play.Given as goal

abbrev pub invariant-lines : goal.invariant-lines
invariant-lines g l = record {
  accepted : AreAccepted l.session.sheet l.script;
  cap : g.W.Worker.cap l.worker ≡ l.session.sheet.settings.cap;
  room : length l.session.sheet.tasks * print_count l.script ≤ g.W.Worker.room l.worker;
  told : lengthened (g.W.Worker.analysed l.worker) (tasks_analysed l.session l.script) ≡ lengthened (g.W.Worker.analysed l.fn.worker) (tasks_analysed l.fn.session l.fn.script);
}

abbrev pub decreases-lines : goal.decreases-lines
decreases-lines g l = length l.script
