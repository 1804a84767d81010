use Rattle.std.proofs.Common.{rules, ◌≡◌, ℕ, ◌+◌, ◌++◌, length, List, flat_map, codes, ap, ◌∙◌, subst, arith}
use Rattle.prta_sheet.specs.Sheet.{Sheet, sheet_order}
use Rattle.prta_report.specs.Page.{PageParts}
use Rattle.prta_report.specs.Tails.{tail_rows, tail_text}
use Rattle.prta_writer.specs.Writing.{Took, TookPart}
use Rattle.prta_writer.proofs.Taking.{put_whole, part_then}
use Rattle.prta_writer.proofs.Parts.{last_not_put, last_put, last_cut, size_pushed}
use Rattle.prta_writer.proofs.tail.put_tails.Given as given
use Rattle.prta_writer.proofs.tail.put_tails.Goals as goal
use Rattle.prta_writer.proofs.tail.put_tails.Goals.{After-put_levels}

-- the rows of all levels
abbrev rows : Sheet → List ℕ
rows sheet = flat_map (tail_rows sheet) (sheet_order sheet.tasks)

-- what is written before them is the first line
text_is : (g : given.Over) (c : After-put_levels g) → c.push.new.self.written ++ (rows c.args.sheet.now ++ codes "end\n") ≡ tail_text c.args.sheet.now
text_is g c =
    let head : c.push.new.self.written ≡ codes "prta tail 1\n" = ap (λ (p : PageParts). p.written) c.push.ensures ∙ ap (λ (p : PageParts). p.written ++ codes "prta tail 1\n") c.clear.ensures in
    ap (λ t. t ++ (rows c.args.sheet.now ++ codes "end\n")) head

pub returns-in_err-put_levels-clause-part : goal.returns-in_err-put_levels-clause-part
returns-in_err-put_levels-clause-part g c =
    let a = g.O.Sink.taken c.args.out.now in
    let b = g.O.Sink.taken c.put_levels.new.out in
    let part : TookPart a b (tail_text c.args.sheet.now) =
    subst (TookPart a b) (text_is g (goal.at.returns-in_err-put_levels-clause-part g c).After-put_levels)
    (last_cut a b c.push.new.self.written (rows c.args.sheet.now) (codes "end\n") c.put_levels.new.page.written c.in_err-put_levels.ensures.part) in
    search (rules, part)

pub returns-in_err-make_room-clause-part : goal.returns-in_err-make_room-clause-part
returns-in_err-make_room-clause-part g c =
    let a = g.O.Sink.taken c.args.out.now in
    let b = g.O.Sink.taken c.put_levels.new.out in
    let d = g.O.Sink.taken c.make_room.new.sink in
    let part : TookPart a d (tail_text c.args.sheet.now) =
    subst (TookPart a d) (text_is g (goal.at.returns-in_err-make_room-clause-part g c).After-put_levels)
    (last_not_put a b c.push.new.self.written (rows c.args.sheet.now) (codes "end\n") c.put_levels.new.page.written c.in_ok-put_levels.ensures.took d c.in_err-make_room.ensures.part) in
    search (rules, part)

pub returns-in_err-put_all-clause-part : goal.returns-in_err-put_all-clause-part
returns-in_err-put_all-clause-part g c =
    let a = g.O.Sink.taken c.args.out.now in
    let b = g.O.Sink.taken c.put_levels.new.out in
    let d = g.O.Sink.taken c.make_room.new.sink in
    let e = g.O.Sink.taken c.put_all.new.sink in
    let written : c.bytes.result.now ≡ c.make_room.new.page.written ++ codes "end\n" = c.bytes.ensures ∙ ap (λ (p : PageParts). p.written) c.push-2.ensures in
    let part : TookPart a e (tail_text c.args.sheet.now) =
    subst (TookPart a e) (text_is g (goal.at.returns-in_err-put_all-clause-part g c).After-put_levels)
    (part_then a d e (c.push.new.self.written ++ (rows c.args.sheet.now ++ codes "end\n")) c.bytes.result.now
    (last_put a b c.push.new.self.written (rows c.args.sheet.now) (codes "end\n") c.put_levels.new.page.written c.in_ok-put_levels.ensures.took d c.make_room.new.page.written c.bytes.result.now c.in_ok-make_room.ensures.took written)
    c.in_err-put_all.ensures.part) in
    search (rules, part)

pub returns-clause-text : goal.returns-clause-text
returns-clause-text g c =
    let a = g.O.Sink.taken c.args.out.now in
    let b = g.O.Sink.taken c.put_levels.new.out in
    let d = g.O.Sink.taken c.make_room.new.sink in
    let e = g.O.Sink.taken c.put_all.new.sink in
    let written : c.bytes.result.now ≡ c.make_room.new.page.written ++ codes "end\n" = c.bytes.ensures ∙ ap (λ (p : PageParts). p.written) c.push-2.ensures in
    subst (Took a e) (text_is g (goal.at.returns-clause-text g c).After-put_levels)
    (put_whole a d e (c.push.new.self.written ++ (rows c.args.sheet.now ++ codes "end\n")) c.bytes.result.now
    (last_put a b c.push.new.self.written (rows c.args.sheet.now) (codes "end\n") c.put_levels.new.page.written c.in_ok-put_levels.ensures.took d c.make_room.new.page.written c.bytes.result.now c.in_ok-make_room.ensures.took written)
    c.in_ok-put_all.ensures.whole)

-- the page has its size when the rows are written
size_is : (g : given.Over) (c : After-put_levels g) → length c.push.new.self.written + c.push.new.self.spare ≡ length c.args.page.now.written + c.args.page.now.spare
size_is g c =
    size_pushed c.push.new.self c.clear.new.self (codes "prta tail 1\n") c.push.ensures (omega (arith, ap (λ (p : PageParts). p.spare) c.clear.ensures, c.requires.page))
    ∙ omega (arith, ap (λ (p : PageParts). length p.written + p.spare) c.clear.ensures)

pub make_room-requires : goal.make_room-requires
make_room-requires g c = omega (arith, c.requires.page, c.in_ok-put_levels.ensures.size, size_is g (goal.at.make_room-requires g c).After-put_levels)

pub returns-in_err-make_room-clause-size : goal.returns-in_err-make_room-clause-size
returns-in_err-make_room-clause-size g c =
    c.in_err-make_room.ensures.size ∙ c.in_ok-put_levels.ensures.size ∙ size_is g (goal.at.returns-in_err-make_room-clause-size g c).After-put_levels

pub returns-in_err-put_all-clause-size : goal.returns-in_err-put_all-clause-size
returns-in_err-put_all-clause-size g c =
    size_pushed c.push-2.new.self c.make_room.new.page (codes "end\n") c.push-2.ensures (omega (arith, c.in_ok-make_room.ensures.room))
    ∙ c.in_ok-make_room.ensures.size ∙ c.in_ok-put_levels.ensures.size ∙ size_is g (goal.at.returns-in_err-put_all-clause-size g c).After-put_levels

pub returns-clause-size : goal.returns-clause-size
returns-clause-size g c =
    size_pushed c.push-2.new.self c.make_room.new.page (codes "end\n") c.push-2.ensures (omega (arith, c.in_ok-make_room.ensures.room))
    ∙ c.in_ok-make_room.ensures.size ∙ c.in_ok-put_levels.ensures.size ∙ size_is g (goal.at.returns-clause-size g c).After-put_levels
