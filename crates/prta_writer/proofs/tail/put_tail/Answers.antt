use Rattle.std.proofs.Common.{◌≡◌, ℕ, ◌++◌, OnOk, OnErr, List, map, ap, ◌∙◌, subst}
use Rattle.std.specs.List.{range_with_len}
use Rattle.prta_sheet.specs.Job.{nth_job}
use Rattle.prta_backlog.specs.Level.{sheet_level}
use Rattle.prta_backlog.specs.Greatest.{worst_backlog}
use Rattle.prta_certificate.proofs.SheetLevels.{level_below}
use Rattle.prta_report.specs.Text.{tail_line}
use Rattle.prta_report.specs.Certificates.{name_of, rows_of}
use Rattle.prta_report.specs.Tails.{tail_in}
use Rattle.prta_tail.specs.Tail.{base_list}
use Rattle.prta_writer.specs.Writing.{TookPart, TookAllBut}
use Rattle.prta_writer.proofs.NumberRows.{size_is, lines_are_rows, low_numbers}
use Rattle.prta_writer.proofs.Parts.{body_put, body_cut, on_ok, on_err}
use Rattle.prta_writer.proofs.TailNumbers.{tail_low}
use Rattle.prta_writer.proofs.tail.put_tail.Given as given
use Rattle.prta_writer.proofs.tail.put_tail.Goals as goal
use Rattle.prta_writer.proofs.tail.put_tail.Goals.{After-tail_steady}

-- the number of a job
abbrev number : (g : given.Over) (c : After-tail_steady g) → ℕ → ℕ
number g c = tail_in c.args.sheet.now c.args.task c.args.ratio

-- the numbers that were found
found_is : (g : given.Over) (c : After-tail_steady g) → c.tail_steady.new.found ≡ map (number g c) (range_with_len 0 c.jobs_in_turn.result)
found_is g c =
    c.tail_steady.ensures.numbers
    ∙ ap (λ n. map (number g c) (range_with_len 0 n)) (size_is c.jobs_in_turn.result _ c.args.places.now c.jobs_in_turn.ensures.most c.requires.places)

pub tail_steady-requires-clause-places : goal.tail_steady-requires-clause-places
tail_steady-requires-clause-places g c = size_is c.jobs_in_turn.result _ c.args.places.now c.jobs_in_turn.ensures.most c.requires.places ∙ c.jobs_in_turn.ensures.count

pub put_numbers-requires-clause-low : goal.put_numbers-requires-clause-low
put_numbers-requires-clause-low g c =
    let here = (goal.at.put_numbers-requires-clause-low g c).After-tail_steady in
    let sheet = c.args.sheet.now in
    let level = sheet_level c.args.task in
    low_numbers (number g here) c.tail_steady.new.found c.jobs_in_turn.result
    (λ k. tail_low sheet.tasks level (base_list sheet.tasks level sheet.settings.cap c.args.ratio) (nth_job sheet.tasks c.args.task k) sheet.settings.turns) (found_is g here)

pub returns-clause-took : goal.returns-clause-took
returns-clause-took g c =
    let here = (goal.at.returns-clause-took g c).After-tail_steady in
    let sheet = c.args.sheet.now in
    let rows = lines_are_rows sheet c.args.task (number g here) c.tail_steady.new.found c.jobs_in_turn.result c.jobs_in_turn.ensures.count (found_is g here) in
    let line : List ℕ = tail_line (name_of sheet c.args.task) c.args.ratio (worst_backlog sheet.tasks (sheet_level c.args.task)) in
    let written : c.tail_line.new.page.written ≡ c.make_room.new.page.written ++ line =
    c.tail_line.ensures.written ∙ ap (λ w. c.make_room.new.page.written ++ tail_line (name_of sheet c.args.task) c.args.ratio w) (c.worst_backlog-worst.ensures.worst ∙ ap (worst_backlog sheet.tasks) (level_below c.below.result c.args.task c.below.ensures.members)) in
    let put = subst (λ rows. OnOk c.put_numbers.result (TookAllBut (g.O.Sink.taken c.make_room.new.sink) (g.O.Sink.taken c.put_numbers.new.out) (c.tail_line.new.page.written ++ rows) c.put_numbers.new.page.written)) rows c.put_numbers.ensures.took in
    on_ok c.put_numbers.result put
    (body_put (g.O.Sink.taken c.args.out.now) (g.O.Sink.taken c.make_room.new.sink) c.args.page.now.written line (rows_of sheet c.args.task (number g here)) c.make_room.new.page.written c.tail_line.new.page.written
    c.in_ok-make_room.ensures.took written (g.O.Sink.taken c.put_numbers.new.out) c.put_numbers.new.page.written)

pub returns-clause-part : goal.returns-clause-part
returns-clause-part g c =
    let here = (goal.at.returns-clause-part g c).After-tail_steady in
    let sheet = c.args.sheet.now in
    let rows = lines_are_rows sheet c.args.task (number g here) c.tail_steady.new.found c.jobs_in_turn.result c.jobs_in_turn.ensures.count (found_is g here) in
    let line : List ℕ = tail_line (name_of sheet c.args.task) c.args.ratio (worst_backlog sheet.tasks (sheet_level c.args.task)) in
    let written : c.tail_line.new.page.written ≡ c.make_room.new.page.written ++ line =
    c.tail_line.ensures.written ∙ ap (λ w. c.make_room.new.page.written ++ tail_line (name_of sheet c.args.task) c.args.ratio w) (c.worst_backlog-worst.ensures.worst ∙ ap (worst_backlog sheet.tasks) (level_below c.below.result c.args.task c.below.ensures.members)) in
    let part = subst (λ rows. OnErr c.put_numbers.result (TookPart (g.O.Sink.taken c.make_room.new.sink) (g.O.Sink.taken c.put_numbers.new.out) (c.tail_line.new.page.written ++ rows))) rows c.put_numbers.ensures.part in
    on_err c.put_numbers.result part
    (body_cut (g.O.Sink.taken c.args.out.now) (g.O.Sink.taken c.make_room.new.sink) c.args.page.now.written line (rows_of sheet c.args.task (number g here)) c.make_room.new.page.written c.tail_line.new.page.written
    c.in_ok-make_room.ensures.took written (g.O.Sink.taken c.put_numbers.new.out))
