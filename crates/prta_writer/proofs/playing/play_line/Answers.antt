use Rattle.std.proofs.Common.{ℕ, ◌++◌, List, append-nil, sym, subst}
use Rattle.prta_session.specs.declared.script.Line.{Line}
use Rattle.prta_writer.specs.Playing.{text_of}
use Rattle.prta_writer.specs.Writing.{TookAllBut}
use Rattle.prta_writer.proofs.Taking.{page_alone}
use Rattle.prta_writer.proofs.playing.play_line.Goals as goal

-- an edit writes nothing
pub returns-in-Ok-clause-took : goal.returns-in-Ok-clause-took
returns-in-Ok-clause-took g c =
    let a = g.O.Sink.taken c.args.out.now in
    let page : List ℕ = c.args.page.now.written in
    subst (λ (line : Line). TookAllBut a a (page ++ text_of line c.args.session.now) page) (sym c.in-Change.is) (subst (λ t. TookAllBut a a t page) (sym (append-nil page)) (page_alone a page))
