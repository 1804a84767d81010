use Rattle.std.proofs.Common.{rules, ◌≡◌, ℕ, ◌+◌, ◌++◌, length, List, flat_map, ap, ◌∙◌, subst, arith}
use Rattle.prta_sheet.specs.Sheet.{Sheet, sheet_order}
use Rattle.prta_report.specs.Page.{PageParts}
use Rattle.prta_writer.specs.Report.{head, rows, last_line, report_text}
use Rattle.prta_writer.specs.Writing.{Took, TookPart}
use Rattle.prta_writer.proofs.Taking.{more_put, longer, put_whole, part_then, part_of_more}
use Rattle.prta_writer.proofs.RowsInTurn.{cut_short}
use Rattle.prta_writer.proofs.Parts.{in_parts, size_pushed}
use Rattle.prta_writer.proofs.report.put_report.Given as given
use Rattle.prta_writer.proofs.report.put_report.Goals as goal
use Rattle.prta_writer.proofs.report.put_report.Goals.{After-make_room}

-- what was written is the text but for its end
text_is : (g : given.Over) (c : After-make_room g) →
    (c.push_head.new.page.written ++ flat_map (rows c.args.what c.args.sheet.now) (sheet_order c.args.sheet.now.tasks)) ++ last_line c.args.what ≡ report_text c.args.what c.args.sheet.now
text_is g c =
    let sheet : Sheet = c.args.sheet.now in
    let first : c.push_head.new.page.written ≡ head c.args.what sheet = c.push_head.ensures.written ∙ ap (λ (p : PageParts). p.written ++ head c.args.what sheet) c.clear.ensures in
    ap (λ t. (t ++ flat_map (rows c.args.what sheet) (sheet_order sheet.tasks)) ++ last_line c.args.what) first ∙ in_parts c.args.what sheet

pub returns-in_err-make_room-clause-part : goal.returns-in_err-make_room-clause-part
returns-in_err-make_room-clause-part g c =
    let a = g.O.Sink.taken c.args.out.now in
    let b = g.O.Sink.taken c.put_rows.new.out in
    let d = g.O.Sink.taken c.make_room.new.sink in
    let part : TookPart a d (report_text c.args.what c.args.sheet.now) =
    subst (λ t. TookPart a d t) (text_is g (goal.at.returns-in_err-make_room-clause-part g c).After-make_room)
    (cut_short a b d _ (last_line c.args.what) c.put_rows.new.desk.page.written c.in_ok-put_rows.ensures.took c.in_err-make_room.ensures.part) in
    search (rules, part)

pub returns-in_err-put_all-clause-part : goal.returns-in_err-put_all-clause-part
returns-in_err-put_all-clause-part g c =
    let a = g.O.Sink.taken c.args.out.now in
    let b = g.O.Sink.taken c.put_rows.new.out in
    let d = g.O.Sink.taken c.make_room.new.sink in
    let e = g.O.Sink.taken c.put_all.new.sink in
    let page : List ℕ = c.make_room.new.page.written in
    let last : List ℕ = last_line c.args.what in
    let bytes : c.bytes.result.now ≡ page ++ last = c.bytes.ensures ∙ ap (λ (p : PageParts). p.written) c.push.ensures ∙ ap (λ more. page ++ more) c.last_line.ensures.line in
    let went = more_put a b d _ c.put_rows.new.desk.page.written page c.in_ok-put_rows.ensures.took c.in_ok-make_room.ensures.took in
    let part : TookPart a e (report_text c.args.what c.args.sheet.now) =
    subst (λ t. TookPart a e t) (text_is g (goal.at.returns-in_err-put_all-clause-part g c).After-make_room)
    (part_then a d e _ (page ++ last) (longer a d _ page last went) (subst (λ t. TookPart d e t) bytes c.in_err-put_all.ensures.part)) in
    search (rules, part)

pub returns-in_err-put_rows-clause-part : goal.returns-in_err-put_rows-clause-part
returns-in_err-put_rows-clause-part g c =
    let a = g.O.Sink.taken c.args.out.now in
    let b = g.O.Sink.taken c.put_rows.new.out in
    let sheet : Sheet = c.args.sheet.now in
    let body : List ℕ = flat_map (rows c.args.what sheet) (sheet_order sheet.tasks) in
    let first : c.push_head.new.page.written ≡ head c.args.what sheet = c.push_head.ensures.written ∙ ap (λ (p : PageParts). p.written ++ head c.args.what sheet) c.clear.ensures in
    let part : TookPart a b (report_text c.args.what sheet) =
    subst (λ t. TookPart a b t) (ap (λ t. (t ++ body) ++ last_line c.args.what) first ∙ in_parts c.args.what sheet) (part_of_more a b (c.push_head.new.page.written ++ body) (last_line c.args.what) c.in_err-put_rows.ensures.part) in
    search (rules, part)

pub returns-clause-text : goal.returns-clause-text
returns-clause-text g c =
    let a = g.O.Sink.taken c.args.out.now in
    let b = g.O.Sink.taken c.put_rows.new.out in
    let d = g.O.Sink.taken c.make_room.new.sink in
    let e = g.O.Sink.taken c.put_all.new.sink in
    let page : List ℕ = c.make_room.new.page.written in
    let last : List ℕ = last_line c.args.what in
    let bytes : c.bytes.result.now ≡ page ++ last = c.bytes.ensures ∙ ap (λ (p : PageParts). p.written) c.push.ensures ∙ ap (λ more. page ++ more) c.last_line.ensures.line in
    let went = more_put a b d _ c.put_rows.new.desk.page.written page c.in_ok-put_rows.ensures.took c.in_ok-make_room.ensures.took in
    subst (λ t. Took a e t) (text_is g (goal.at.returns-clause-text g c).After-make_room)
    (put_whole a d e _ (page ++ last) (longer a d _ page last went) (subst (λ t. Took d e t) bytes c.in_ok-put_all.ensures.whole))

pub returns-in_err-put_all-clause-page : goal.returns-in_err-put_all-clause-page
returns-in_err-put_all-clause-page g c =
    size_pushed c.push.new.self c.make_room.new.page c.last_line.result.now c.push.ensures (omega (arith, c.last_line.ensures.short, c.in_ok-make_room.ensures.room))
    ∙ c.in_ok-make_room.ensures.size ∙ c.in_ok-put_rows.ensures.page ∙ c.push_head.ensures.size
    ∙ omega (arith, ap (λ (p : PageParts). length p.written + p.spare) c.clear.ensures)

pub returns-clause-page : goal.returns-clause-page
returns-clause-page g c =
    size_pushed c.push.new.self c.make_room.new.page c.last_line.result.now c.push.ensures (omega (arith, c.last_line.ensures.short, c.in_ok-make_room.ensures.room))
    ∙ c.in_ok-make_room.ensures.size ∙ c.in_ok-put_rows.ensures.page ∙ c.push_head.ensures.size
    ∙ omega (arith, ap (λ (p : PageParts). length p.written + p.spare) c.clear.ensures)
