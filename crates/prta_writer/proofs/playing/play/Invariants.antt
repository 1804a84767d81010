-- the lines so far are played: the text and the tasks of the script are those so far, and then those of the lines left
use Rattle.std.proofs.Common.{◌≡◌, ◌+◌, ◌*◌, ◌≤◌, length}
use Rattle.prta_report.specs.declared.page.TheConstants.{LINE}
use Rattle.prta_session.specs.Playing.{AreAccepted, print_count}
use Rattle.prta_writer.specs.Playing.{session_played}
use Rattle.prta_writer.proofs.Sessions.{IsPlayed}
use Rattle.prta_writer.proofs.playing.play.Given as goal

abbrev pub invariant-loop-line : goal.invariant-loop-line
invariant-loop-line g l = record {
  played : IsPlayed l.fn.session l.fn.script l.session l.left (g.O.Sink.taken l.fn.out) (g.O.Sink.taken l.out) l.page.written (g.W.Worker.analysed l.fn.worker) (g.W.Worker.analysed l.worker);
  session : session_played l.fn.script l.fn.session ≡ session_played l.left l.session;
  accepted : AreAccepted l.session.sheet l.left;
  cap : g.W.Worker.cap l.worker ≡ l.session.sheet.settings.cap;
  room : length l.session.sheet.tasks * print_count l.left ≤ g.W.Worker.room l.worker;
  page : LINE ≤ length l.page.written + l.page.spare;
  faults : g.O.Sink.faults l.fn.out ≤ g.O.Sink.faults l.out;
}

abbrev pub decreases-loop-line : goal.decreases-loop-line
decreases-loop-line g l = length l.left
