use Rattle.std.proofs.Common.{rules, ◌≡◌, ℕ, ◌++◌, List, flat_map, codes, ap, ◌∙◌, arith}
use Rattle.prta_sheet.specs.Sheet.{sheet_order}
use Rattle.prta_report.specs.Page.{PageParts}
use Rattle.prta_report.specs.Certificates.{verify_rows, steady_text}
use Rattle.prta_writer.specs.Writing.{TookPart}
use Rattle.prta_writer.proofs.Taking.{part_then}
use Rattle.prta_writer.proofs.Parts.{last_not_put, last_put, size_pushed}
use Rattle.prta_writer.proofs.verifying.put_levels.Goals as goal

pub returns-in_err-make_room-clause-part : goal.returns-in_err-make_room-clause-part
returns-in_err-make_room-clause-part g c =
    let a = g.O.Sink.taken c.args.out.now in
    let b = g.O.Sink.taken c.put_rows.new.out in
    let d = g.O.Sink.taken c.make_room.new.sink in
    let rows : List ℕ = flat_map (verify_rows c.args.sheet.now c.args.levels.now) (sheet_order c.args.sheet.now.tasks) in
    let part : TookPart a d (c.args.page.now.written ++ steady_text c.args.sheet.now c.args.levels.now) =
    last_not_put a b c.args.page.now.written rows (codes "end\n") c.put_rows.new.page.written c.in_ok-put_rows.ensures.took d c.in_err-make_room.ensures.part in
    search (rules, part)

pub returns-in_err-put_all-clause-part : goal.returns-in_err-put_all-clause-part
returns-in_err-put_all-clause-part g c =
    let a = g.O.Sink.taken c.args.out.now in
    let b = g.O.Sink.taken c.put_rows.new.out in
    let d = g.O.Sink.taken c.make_room.new.sink in
    let e = g.O.Sink.taken c.put_all.new.sink in
    let rows : List ℕ = flat_map (verify_rows c.args.sheet.now c.args.levels.now) (sheet_order c.args.sheet.now.tasks) in
    let text : List ℕ = c.args.page.now.written ++ steady_text c.args.sheet.now c.args.levels.now in
    let written : c.bytes.result.now ≡ c.make_room.new.page.written ++ codes "end\n" = c.bytes.ensures ∙ ap (λ (p : PageParts). p.written) c.push.ensures in
    let part : TookPart a e text =
    part_then a d e text c.bytes.result.now
    (last_put a b c.args.page.now.written rows (codes "end\n") c.put_rows.new.page.written c.in_ok-put_rows.ensures.took d c.make_room.new.page.written c.bytes.result.now c.in_ok-make_room.ensures.took written)
    c.in_err-put_all.ensures.part in
    search (rules, part)

pub returns-in_err-put_all-clause-size : goal.returns-in_err-put_all-clause-size
returns-in_err-put_all-clause-size g c =
    size_pushed c.push.new.self c.make_room.new.page (codes "end\n") c.push.ensures (omega (arith, c.in_ok-make_room.ensures.room)) ∙ c.in_ok-make_room.ensures.size ∙ c.in_ok-put_rows.ensures.size

pub returns-clause-size : goal.returns-clause-size
returns-clause-size g c =
    size_pushed c.push.new.self c.make_room.new.page (codes "end\n") c.push.ensures (omega (arith, c.in_ok-make_room.ensures.room)) ∙ c.in_ok-make_room.ensures.size ∙ c.in_ok-put_rows.ensures.size
