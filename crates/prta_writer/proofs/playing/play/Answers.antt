-- Each turn plays one more line; at the end what stands on the page is put.
use Rattle.std.proofs.Common.{◌≡◌, ℕ, ◌+◌, ◌*◌, ◌≤◌, ◌++◌, List, length, append-nil, refl, ap, sym, ◌∙◌, subst, arith}
use Rattle.prta_session.specs.declared.script.Line.{Line}
use Rattle.prta_session.specs.State.{SessionState}
use Rattle.prta_session.specs.Playing.{AreAccepted, print_count}
use Rattle.prta_report.specs.Page.{PageParts}
use Rattle.prta_writer.specs.Playing.{session_text, session_played}
use Rattle.prta_writer.specs.Writing.{Took, TookPart}
use Rattle.prta_writer.proofs.Parts.{anyway}
use Rattle.prta_writer.proofs.Taking.{put_whole, part_then}
use Rattle.prta_writer.proofs.Sessions.{none_played, line_played, line_cut, accepted_next, same_cap, room_now, room_next}
use Rattle.prta_writer.proofs.playing.play.Given as given
use Rattle.prta_writer.proofs.playing.play.Goals as goal
use Rattle.prta_writer.proofs.playing.play.Goals.{After-put_all}

pub loop-line-init : goal.loop-line-init
loop-line-init g c = record {
  played = none_played c.args.session.now c.args.script _ _ c.clear.new.self.written (ap (λ (p : PageParts). p.written) c.clear.ensures);
  session = refl;
  accepted = c.requires.accepted;
  cap = c.requires.cap;
  room = c.requires.room;
  page = omega (arith, ap (λ (p : PageParts). length p.written + p.spare) c.clear.ensures, c.requires.page);
  faults = omega arith;
}

pub play_line-requires-clause-room : goal.play_line-requires-clause-room
play_line-requires-clause-room g c =
    let session : SessionState = c.loop-line.session in
    let room : ℕ = g.W.Worker.room c.loop-line.worker in
    room_now c.scripts_go_by_lines.ensures session c.in-Some.line c.next.new.self room
    (subst (λ (lines : List Line). length session.sheet.tasks * print_count lines ≤ room) c.in-Some.ensures c.loop-line.invariant.room)

pub loop-line-preserved : goal.loop-line-preserved
loop-line-preserved g c =
    let session : SessionState = c.loop-line.session in
    let line : Line = c.in-Some.line in
    let rest : List Line = c.next.new.self in
    let room : ℕ = g.W.Worker.room c.loop-line.worker in
    let now : ℕ = g.W.Worker.room c.play_line.new.worker in
    let so_far = c.loop-line.invariant in
    let put = c.in_ok-play_line.ensures in
    record {
      played = line_played c.args.session.now c.args.script session line rest c.loop-line.left _ _ (g.O.Sink.taken c.play_line.new.out) c.loop-line.page.written _ _ so_far.played c.in-Some.ensures
          c.play_line.new.session c.play_line.new.page.written (g.W.Worker.analysed c.play_line.new.worker) put.session put.shown put.took put.analysed;
      session = so_far.session ∙ ap (λ (lines : List Line). session_played lines session) c.in-Some.ensures ∙ ap (session_played rest) (sym put.session);
      accepted = subst (λ (s : SessionState). AreAccepted s.sheet rest) (sym put.session) (accepted_next session line rest (subst (AreAccepted session.sheet) c.in-Some.ensures so_far.accepted));
      cap = put.cap ∙ so_far.cap ∙ sym (same_cap session line) ∙ ap (λ (s : SessionState). s.sheet.settings.cap) (sym put.session);
      room = subst (λ (s : SessionState). length s.sheet.tasks * print_count rest ≤ now) (sym put.session)
          (room_next c.scripts_go_by_lines.ensures session line rest room now
          (subst (λ (lines : List Line). length session.sheet.tasks * print_count lines ≤ room) c.in-Some.ensures so_far.room) put.room);
      page = omega (arith, put.size, so_far.page);
      faults = omega (arith, put.never_falls, so_far.faults);
    }

pub returns-in_err-play_line-clause-part : goal.returns-in_err-play_line-clause-part
returns-in_err-play_line-clause-part g c =
    let part : TookPart (g.O.Sink.taken c.args.out.now) (g.O.Sink.taken c.play_line.new.out) (session_text c.args.session.now.sheet c.args.script) =
    line_cut c.args.session.now c.args.script c.loop-line.session c.in-Some.line c.next.new.self c.loop-line.left _ _ (g.O.Sink.taken c.play_line.new.out) c.loop-line.page.written _ _
    c.loop-line.invariant.played c.in-Some.ensures c.in_err-play_line.ensures.part in
    anyway c.from_residual.result part

-- no line is left, so the text so far is the whole
text_is : (g : given.Over) (c : After-put_all g) → c.loop-line.invariant.played.text ≡ session_text c.args.session.now.sheet c.args.script
text_is g c =
    let played = c.loop-line.invariant.played in
    sym
    (played.text_is ∙ ap (λ (lines : List Line). played.text ++ session_text c.loop-line.session.sheet lines) c.in_default.ensures.0 ∙ append-nil played.text)

pub returns-in_err-put_all-clause-part : goal.returns-in_err-put_all-clause-part
returns-in_err-put_all-clause-part g c =
    let at = (goal.at.returns-in_err-put_all-clause-part g c).After-put_all in
    let a = g.O.Sink.taken c.args.out.now in
    let b = g.O.Sink.taken c.loop-line.out in
    let d = g.O.Sink.taken c.put_all.new.sink in
    let played = c.loop-line.invariant.played in
    let part : TookPart a d (session_text c.args.session.now.sheet c.args.script) =
    subst (TookPart a d) (text_is g at) (part_then a b d played.text c.loop-line.page.written played.took (subst (TookPart b d) c.bytes.ensures c.in_err-put_all.ensures.part)) in
    anyway c.from_residual-in_err-put_all.result part

pub returns-clause-text : goal.returns-clause-text
returns-clause-text g c =
    let at = (goal.at.returns-clause-text g c).After-put_all in
    let a = g.O.Sink.taken c.args.out.now in
    let b = g.O.Sink.taken c.loop-line.out in
    let d = g.O.Sink.taken c.put_all.new.sink in
    let played = c.loop-line.invariant.played in
    subst (Took a d) (text_is g at) (put_whole a b d played.text c.loop-line.page.written played.took (subst (Took b d) c.bytes.ensures c.in_ok-put_all.ensures.whole))

pub returns-clause-session : goal.returns-clause-session
returns-clause-session g c = sym (c.loop-line.invariant.session ∙ ap (λ (lines : List Line). session_played lines c.loop-line.session) c.in_default.ensures.0)
