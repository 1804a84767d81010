use Rattle.std.proofs.Common.{rules, ◌≡◌, ℕ, ◌++◌, List, flat_map, codes, refl, ap, subst}
use Rattle.prta_sheet.specs.Sheet.{Sheet, sheet_order, hyperperiod}
use Rattle.prta_sheet.specs.Counts.{all_jobs}
use Rattle.prta_report.specs.Page.{PageParts}
use Rattle.prta_report.specs.Text.{count_line}
use Rattle.prta_report.specs.Analysis.{analyse_text, analyse_rows}
use Rattle.prta_writer.specs.Writing.{TookPart, TookAllBut}
use Rattle.prta_writer.proofs.Taking.{then_written, then_part}
use Rattle.prta_writer.proofs.Parts.{last_cut, last_not_put, last_put}
use Rattle.prta_writer.proofs.playing.put_analysis.Given as given
use Rattle.prta_writer.proofs.playing.put_analysis.Goals as goal

abbrev head : Sheet → List ℕ
head sheet = codes "prta analyse 1\n" ++ count_line (hyperperiod sheet.tasks) (all_jobs sheet)

abbrev rows : Sheet → List ℕ
rows sheet = flat_map (analyse_rows sheet) (sheet_order sheet.tasks)

abbrev last : List ℕ
last = codes "end\n"

text_is : (start : List ℕ) (sheet : Sheet) → start ++ ((head sheet ++ rows sheet) ++ last) ≡ start ++ analyse_text sheet
text_is start sheet = refl

pub returns-in_err-put_title-clause-part : goal.returns-in_err-put_title-clause-part
returns-in_err-put_title-clause-part g c =
    let sheet : Sheet = c.args.session.now.sheet in
    let a = g.O.Sink.taken c.args.out.now in
    let b = g.O.Sink.taken c.put_title.new.out in
    let start : List ℕ = c.args.page.now.written in
    let titled : TookPart a b (start ++ head sheet) = subst (λ (s : Sheet). TookPart a b (start ++ head s)) c.sheet.ensures c.in_err-put_title.ensures.part in
    let part : TookPart a b (start ++ analyse_text sheet) =
    subst (λ t. TookPart a b t) (text_is start sheet) (last_cut a b start (head sheet ++ rows sheet) last c.put_title.new.page.written (last_cut a b start (head sheet) (rows sheet) c.put_title.new.page.written titled)) in
    search (rules, part)

pub returns-in_err-put_rows-clause-part : goal.returns-in_err-put_rows-clause-part
returns-in_err-put_rows-clause-part g c =
    let sheet : Sheet = c.args.session.now.sheet in
    let a = g.O.Sink.taken c.args.out.now in
    let b = g.O.Sink.taken c.put_title.new.out in
    let d = g.O.Sink.taken c.put_rows.new.out in
    let start : List ℕ = c.args.page.now.written in
    let titled : TookAllBut a b (start ++ head sheet) c.put_title.new.page.written =
    subst (λ (s : Sheet). TookAllBut a b (start ++ head s) c.put_title.new.page.written) c.sheet.ensures c.in_ok-put_title.ensures.took in
    let part : TookPart a d (start ++ analyse_text sheet) =
    subst (λ t. TookPart a d t) (text_is start sheet)
    (last_cut a d start (head sheet ++ rows sheet) last c.put_rows.new.page.written (then_part a b d start (head sheet) c.put_title.new.page.written titled (rows sheet) c.in_err-put_rows.ensures.part)) in
    search (rules, part)

pub returns-in_err-make_room-clause-part : goal.returns-in_err-make_room-clause-part
returns-in_err-make_room-clause-part g c =
    let sheet : Sheet = c.args.session.now.sheet in
    let a = g.O.Sink.taken c.args.out.now in
    let b = g.O.Sink.taken c.put_title.new.out in
    let d = g.O.Sink.taken c.put_rows.new.out in
    let e = g.O.Sink.taken c.make_room.new.sink in
    let start : List ℕ = c.args.page.now.written in
    let titled : TookAllBut a b (start ++ head sheet) c.put_title.new.page.written =
    subst (λ (s : Sheet). TookAllBut a b (start ++ head s) c.put_title.new.page.written) c.sheet.ensures c.in_ok-put_title.ensures.took in
    let so_far = then_written a b d start (head sheet) c.put_title.new.page.written titled (rows sheet) c.put_rows.new.page.written c.in_ok-put_rows.ensures.took in
    let part : TookPart a e (start ++ analyse_text sheet) =
    subst (λ t. TookPart a e t) (text_is start sheet) (last_not_put a d start (head sheet ++ rows sheet) last c.put_rows.new.page.written so_far e c.in_err-make_room.ensures.part) in
    search (rules, part)

pub returns-clause-took : goal.returns-clause-took
returns-clause-took g c =
    let sheet : Sheet = c.args.session.now.sheet in
    let a = g.O.Sink.taken c.args.out.now in
    let b = g.O.Sink.taken c.put_title.new.out in
    let d = g.O.Sink.taken c.put_rows.new.out in
    let e = g.O.Sink.taken c.make_room.new.sink in
    let start : List ℕ = c.args.page.now.written in
    let titled : TookAllBut a b (start ++ head sheet) c.put_title.new.page.written =
    subst (λ (s : Sheet). TookAllBut a b (start ++ head s) c.put_title.new.page.written) c.sheet.ensures c.in_ok-put_title.ensures.took in
    let so_far = then_written a b d start (head sheet) c.put_title.new.page.written titled (rows sheet) c.put_rows.new.page.written c.in_ok-put_rows.ensures.took in
    let pushed : c.push.new.self.written ≡ c.make_room.new.page.written ++ last = ap (λ (p : PageParts). p.written) c.push.ensures in
    subst (λ t. TookAllBut a e t c.push.new.self.written) (text_is start sheet)
    (last_put a d start (head sheet ++ rows sheet) last c.put_rows.new.page.written so_far e c.make_room.new.page.written c.push.new.self.written c.in_ok-make_room.ensures.took pushed)
