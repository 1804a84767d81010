use Rattle.std.proofs.Common.{rules, ◌≡◌, ℕ, suc, ◌+◌, ◌<◌, ◌++◌, Option, List, [], ◌∷◌, length, take, drop, flat_map, get_or, append-nil, ap, sym, ◌∙◌, subst, subst₂, append_assoc, arith}
use Rattle.std.proofs.Math.Seq.{take-suc}
use Rattle.std.proofs.lemmas.List.{take-append-drop}
use Rattle.std.proofs.lemmas.Grind.{flat_map-append}
use Rattle.prta_sheet.specs.Sheet.{Task}
use Rattle.prta_ledger.specs.declared.entry.Entry.{Entry}
use Rattle.prta_report.specs.Text.{line_of_entry}
use Rattle.prta_writer.specs.Writing.{TookPart, TookAllBut}
use Rattle.prta_writer.proofs.Taking.{more_put, longer}
use Rattle.prta_writer.proofs.RowsInTurn.{cut_short}
use Rattle.prta_writer.proofs.rows.put_entries.Goals as goal

pub returns-in_err-make_room-clause-part : goal.returns-in_err-make_room-clause-part
returns-in_err-make_room-clause-part g c =
    let lines : List Entry → List ℕ = λ entries. flat_map (line_of_entry c.args.sheet.now.tasks) entries in
    let n = c.loop-entry.entry-index in
    let before : List ℕ = lines (take n c.args.entries.now) in
    let rest : List ℕ = lines (drop n c.args.entries.now) in
    let whole : before ++ rest ≡ lines c.args.entries.now =
    sym (flat_map-append (line_of_entry c.args.sheet.now.tasks) (take n c.args.entries.now) (drop n c.args.entries.now)) ∙ ap lines (take-append-drop n c.args.entries.now) in
    let part : TookPart (g.O.Sink.taken c.args.out.now) (g.O.Sink.taken c.make_room.new.sink) (c.args.page.now.written ++ lines c.args.entries.now) =
    subst (λ text. TookPart (g.O.Sink.taken c.args.out.now) (g.O.Sink.taken c.make_room.new.sink) text)
    (append_assoc c.args.page.now.written before rest ∙ ap (λ text. c.args.page.now.written ++ text) whole)
    (cut_short (g.O.Sink.taken c.args.out.now) (g.O.Sink.taken c.loop-entry.out) (g.O.Sink.taken c.make_room.new.sink) (c.args.page.now.written ++ before) rest c.loop-entry.page.written
    c.loop-entry.invariant.took c.in_err-make_room.ensures.part) in
    search (rules, part)

entries_more : (tasks : List Task) (entries : List Entry) (n : ℕ) (d : Entry) → n < length entries →
    flat_map (line_of_entry tasks) (take (n + 1) entries) ≡ flat_map (line_of_entry tasks) (take n entries) ++ line_of_entry tasks (get_or entries n d)
entries_more tasks entries n d l =
    let next : n + 1 ≡ suc n = omega arith in
    ap (λ k. flat_map (line_of_entry tasks) (take k entries)) next ∙ ap (flat_map (line_of_entry tasks)) (take-suc entries n d l)
    ∙ flat_map-append (line_of_entry tasks) (take n entries) (get_or entries n d ∷ []) ∙ ap (λ line. flat_map (line_of_entry tasks) (take n entries) ++ line) (append-nil (line_of_entry tasks (get_or entries n d)))

entry_pushed : (a b c : Option (List ℕ)) (start : List ℕ) (tasks : List Task) (entries : List Entry) (n : ℕ) (d : Entry) (p q r : List ℕ) → n < length entries →
    TookAllBut a b (start ++ flat_map (line_of_entry tasks) (take n entries)) p → TookAllBut b c p q → r ≡ q ++ line_of_entry tasks (get_or entries n d) →
    TookAllBut a c (start ++ flat_map (line_of_entry tasks) (take (n + 1) entries)) r
entry_pushed a b c start tasks entries n d p q r l h k e =
    let before : List ℕ = flat_map (line_of_entry tasks) (take n entries) in
    let line : List ℕ = line_of_entry tasks (get_or entries n d) in
    subst₂ (λ t r. TookAllBut a c t r) (append_assoc start before line ∙ ap (λ t. start ++ t) (sym (entries_more tasks entries n d l))) (sym e)
    (more_put a b c ((start ++ before) ++ line) (p ++ line) (q ++ line) (longer a b (start ++ before) p line h) (longer b c p q line k))

pub loop-entry-preserved : goal.loop-entry-preserved
loop-entry-preserved g c = record {
  took = entry_pushed (g.O.Sink.taken c.args.out.now) (g.O.Sink.taken c.loop-entry.out) (g.O.Sink.taken c.make_room.new.sink) c.args.page.now.written c.args.sheet.now.tasks c.args.entries.now
      c.loop-entry.entry-index _ c.loop-entry.page.written c.make_room.new.page.written c.entry_line.new.page.written c.loop-entry-test.true
      c.loop-entry.invariant.took c.in_ok-make_room.ensures.took c.entry_line.ensures.written;
  size = omega (arith, c.entry_line.ensures.size, c.in_ok-make_room.ensures.size, c.loop-entry.invariant.size);
  faults = omega (arith, c.in_ok-make_room.ensures.never_falls, c.loop-entry.invariant.faults);
}
