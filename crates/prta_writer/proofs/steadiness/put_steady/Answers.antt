use Rattle.std.proofs.Common.{◌≡◌, ℕ, ◌++◌, OnOk, OnErr, map, ap, ◌∙◌, subst, arith}
use Rattle.std.specs.List.{range_with_len}
use Rattle.prta_report.specs.Certificates.{steady_in}
use Rattle.prta_writer.specs.Writing.{TookPart, TookAllBut}
use Rattle.prta_writer.proofs.NumberRows.{size_is, lines_are_rows, low_numbers}
use Rattle.prta_writer.proofs.steadiness.put_steady.Given as given
use Rattle.prta_writer.proofs.steadiness.put_steady.Goals as goal
use Rattle.prta_writer.proofs.steadiness.put_steady.Goals.{After-steady}

-- the number of a job, for the list on the main curve
abbrev number : (g : given.Over) (c : After-steady g) → ℕ → ℕ
number g c = steady_in c.args.sheet.now c.args.task (g.C.Curve.cells c.args.bench.now.main)

-- the numbers that were found
found_is : (g : given.Over) (c : After-steady g) → c.steady.new.found ≡ map (number g c) (range_with_len 0 c.jobs_in_turn.result)
found_is g c =
    c.steady.ensures.numbers
    ∙ ap (λ n. map (number g c) (range_with_len 0 n)) (size_is c.jobs_in_turn.result _ c.args.places.now c.jobs_in_turn.ensures.most c.requires.places)

pub steady-requires-clause-places : goal.steady-requires-clause-places
steady-requires-clause-places g c = size_is c.jobs_in_turn.result _ c.args.places.now c.jobs_in_turn.ensures.most c.requires.places ∙ c.jobs_in_turn.ensures.count

pub put_numbers-requires-clause-low : goal.put_numbers-requires-clause-low
put_numbers-requires-clause-low g c =
    let here = (goal.at.put_numbers-requires-clause-low g c).After-steady in
    low_numbers (number g here) c.steady.new.found c.jobs_in_turn.result (λ k. omega arith) (found_is g here)

pub returns-clause-took : goal.returns-clause-took
returns-clause-took g c =
    let here = (goal.at.returns-clause-took g c).After-steady in
    let rows = lines_are_rows c.args.sheet.now c.args.task (number g here) c.steady.new.found c.jobs_in_turn.result c.jobs_in_turn.ensures.count (found_is g here) in
    subst (λ rows. OnOk c.put_numbers.result (TookAllBut (g.O.Sink.taken c.args.out.now) (g.O.Sink.taken c.put_numbers.new.out) (c.args.page.now.written ++ rows) c.put_numbers.new.page.written)) rows c.put_numbers.ensures.took

pub returns-clause-part : goal.returns-clause-part
returns-clause-part g c =
    let here = (goal.at.returns-clause-part g c).After-steady in
    let rows = lines_are_rows c.args.sheet.now c.args.task (number g here) c.steady.new.found c.jobs_in_turn.result c.jobs_in_turn.ensures.count (found_is g here) in
    subst (λ rows. OnErr c.put_numbers.result (TookPart (g.O.Sink.taken c.args.out.now) (g.O.Sink.taken c.put_numbers.new.out) (c.args.page.now.written ++ rows))) rows c.put_numbers.ensures.part
