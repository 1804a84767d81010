use Rattle.std.proofs.Common.{rules, ◌≡◌, ℕ, ◌<◌, ◌≤◌, ◌++◌, flat_map, ap, sym, ◌∙◌, subst, arith}
use Rattle.std.specs.List.{range_with_len}
use Rattle.prta_sheet.specs.Sheet.{Sheet}
use Rattle.prta_sheet.specs.Counts.{job_count}
use Rattle.prta_backlog.specs.Level.{sheet_level}
use Rattle.prta_writer.specs.declared.rows.JobLine.{JobLine}
use Rattle.prta_writer.specs.Rows.{line_at, job_rows}
use Rattle.prta_writer.specs.Writing.{TookPart, TookAllBut}
use Rattle.prta_writer.proofs.RowsInTurn.{job_row, InTurn, rows_in_turn, row_pushed, row_cut, bounds_at, count_found}
use Rattle.prta_writer.proofs.Checks.{few_jobs}
use Rattle.prta_writer.proofs.rows.put_jobs.Goals as goal

-- the rows are those of the numbers in turn
rows_are : (line : JobLine) (sheet : Sheet) (i : ℕ) → InTurn sheet i → flat_map (job_row line sheet i) (range_with_len 0 (job_count sheet i)) ≡ job_rows line sheet i
rows_are line sheet i e = sym (rows_in_turn (line_at line sheet) sheet i e)

pub returns-in_err-make_room-clause-part : goal.returns-in_err-make_room-clause-part
returns-in_err-make_room-clause-part g c =
    let sheet : Sheet = c.args.sheet.now in
    let i = c.args.task in
    let n = c.loop-number.number in
    let in_turn : InTurn sheet i = c.own_jobs_in_turn.ensures sheet i c.tasks-tasks.ensures.accepted c.requires.task in
    let within : n ≤ job_count sheet i = omega (arith, count_found sheet (sheet_level i) c.args.found.now c.requires.numbers, c.loop-number.auto.number-end) in
    let part : TookPart (g.O.Sink.taken c.args.out.now) (g.O.Sink.taken c.make_room.new.sink) (c.args.page.now.written ++ job_rows c.args.line sheet i) =
    subst (λ rows. TookPart (g.O.Sink.taken c.args.out.now) (g.O.Sink.taken c.make_room.new.sink) (c.args.page.now.written ++ rows)) (rows_are c.args.line sheet i in_turn)
    (row_cut (g.O.Sink.taken c.args.out.now) (g.O.Sink.taken c.loop-number.out) (g.O.Sink.taken c.make_room.new.sink) c.args.page.now.written (job_row c.args.line sheet i)
    n c.loop-number.page.written c.loop-number.invariant.took (job_count sheet i) within c.in_err-make_room.ensures.part) in
    search (rules, part)

pub push_line-requires-clause-numbers : goal.push_line-requires-clause-numbers
push_line-requires-clause-numbers g c =
    let sheet : Sheet = c.args.sheet.now in
    let n = c.loop-number.number in
    let within : n < job_count sheet c.args.task = omega (arith, count_found sheet (sheet_level c.args.task) c.args.found.now c.requires.numbers, c.loop-number-test.true) in
    bounds_at sheet (sheet_level c.args.task) c.args.found.now n (record { lower = 0; upper = 0 }) c.requires.numbers within

pub overflow_cast-number : goal.overflow_cast-number
overflow_cast-number g c =
    let sheet : Sheet = c.args.sheet.now in
    omega (arith, count_found sheet (sheet_level c.args.task) c.args.found.now c.requires.numbers, few_jobs sheet c.args.task c.tasks-tasks.ensures.accepted, c.loop-number-test.true)

pub loop-number-preserved : goal.loop-number-preserved
loop-number-preserved g c = record {
  took = row_pushed (g.O.Sink.taken c.args.out.now) (g.O.Sink.taken c.loop-number.out) (g.O.Sink.taken c.make_room.new.sink) c.args.page.now.written (job_row c.args.line c.args.sheet.now c.args.task)
      c.loop-number.number c.loop-number.page.written c.loop-number.invariant.took c.make_room.new.page.written c.push_line.new.page.written c.in_ok-make_room.ensures.took c.push_line.ensures.written;
  size = omega (arith, c.push_line.ensures.size, c.in_ok-make_room.ensures.size, c.loop-number.invariant.size);
  faults = omega (arith, c.in_ok-make_room.ensures.never_falls, c.loop-number.invariant.faults);
}

pub returns-clause-took : goal.returns-clause-took
returns-clause-took g c =
    let sheet : Sheet = c.args.sheet.now in
    let i = c.args.task in
    let in_turn : InTurn sheet i = c.own_jobs_in_turn.ensures sheet i c.tasks-tasks.ensures.accepted c.requires.task in
    let all : c.loop-number.number ≡ job_count sheet i = omega (arith, count_found sheet (sheet_level i) c.args.found.now c.requires.numbers, c.loop-number-test.false, c.loop-number.auto.number-end) in
    subst (λ rows. TookAllBut (g.O.Sink.taken c.args.out.now) (g.O.Sink.taken c.loop-number.out) (c.args.page.now.written ++ rows) c.loop-number.page.written)
    (ap (λ n. flat_map (job_row c.args.line sheet i) (range_with_len 0 n)) all ∙ rows_are c.args.line sheet i in_turn) c.loop-number.invariant.took
