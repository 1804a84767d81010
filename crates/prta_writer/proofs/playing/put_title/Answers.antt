use Rattle.std.proofs.Common.{rules, ◌≡◌, ℕ, ◌++◌, List, codes, ap, append_assoc, subst}
use Rattle.prta_sheet.specs.Sheet.{Sheet, hyperperiod}
use Rattle.prta_sheet.specs.Counts.{all_jobs}
use Rattle.prta_report.specs.Page.{PageParts}
use Rattle.prta_report.specs.Text.{count_line}
use Rattle.prta_writer.specs.Writing.{TookPart, TookAllBut}
use Rattle.prta_writer.proofs.Taking.{more_put, part_then, part_of_more, line_written}
use Rattle.prta_writer.proofs.playing.put_title.Given as given
use Rattle.prta_writer.proofs.playing.put_title.Goals as goal

abbrev title : List ℕ
title = codes "prta analyse 1\n"

abbrev counts : Sheet → List ℕ
counts sheet = count_line (hyperperiod sheet.tasks) (all_jobs sheet)

pub returns-in_err-make_room-clause-part : goal.returns-in_err-make_room-clause-part
returns-in_err-make_room-clause-part g c =
    let a = g.O.Sink.taken c.args.out.now in
    let b = g.O.Sink.taken c.make_room.new.sink in
    let part : TookPart a b (c.args.page.now.written ++ (title ++ counts c.args.sheet.now)) = part_of_more a b c.args.page.now.written (title ++ counts c.args.sheet.now) c.in_err-make_room.ensures.part in
    search (rules, part)

pub returns-in_err-make_room-2-clause-part : goal.returns-in_err-make_room-2-clause-part
returns-in_err-make_room-2-clause-part g c =
    let a = g.O.Sink.taken c.args.out.now in
    let b = g.O.Sink.taken c.make_room.new.sink in
    let d = g.O.Sink.taken c.make_room-2.new.sink in
    let start : List ℕ = c.args.page.now.written in
    let pushed : c.push.new.self.written ≡ c.make_room.new.page.written ++ title = ap (λ (p : PageParts). p.written) c.push.ensures in
    let first : TookAllBut a b (start ++ title) c.push.new.self.written = line_written a b start c.make_room.new.page.written c.push.new.self.written title c.in_ok-make_room.ensures.took pushed in
    let part : TookPart a d (start ++ (title ++ counts c.args.sheet.now)) =
    subst (λ t. TookPart a d t) (append_assoc start title (counts c.args.sheet.now))
    (part_of_more a d (start ++ title) (counts c.args.sheet.now) (part_then a b d (start ++ title) c.push.new.self.written first c.in_err-make_room-2.ensures.part)) in
    search (rules, part)

pub returns-clause-took : goal.returns-clause-took
returns-clause-took g c =
    let a = g.O.Sink.taken c.args.out.now in
    let b = g.O.Sink.taken c.make_room.new.sink in
    let d = g.O.Sink.taken c.make_room-2.new.sink in
    let start : List ℕ = c.args.page.now.written in
    let pushed : c.push.new.self.written ≡ c.make_room.new.page.written ++ title = ap (λ (p : PageParts). p.written) c.push.ensures in
    let first : TookAllBut a b (start ++ title) c.push.new.self.written = line_written a b start c.make_room.new.page.written c.push.new.self.written title c.in_ok-make_room.ensures.took pushed in
    let then : TookAllBut a d (start ++ title) c.make_room-2.new.page.written = more_put a b d (start ++ title) c.push.new.self.written c.make_room-2.new.page.written first c.in_ok-make_room-2.ensures.took in
    subst (λ t. TookAllBut a d t c.count_line.new.page.written) (append_assoc start title (counts c.args.sheet.now))
    (line_written a d (start ++ title) c.make_room-2.new.page.written c.count_line.new.page.written (counts c.args.sheet.now) then c.count_line.ensures.written)
