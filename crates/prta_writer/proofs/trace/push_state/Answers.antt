use Rattle.std.proofs.Common.{◌≡◌, ◌++◌, ap, sym, ◌∙◌}
use Rattle.prta_ticksim.specs.Machine.{MachineParts}
use Rattle.prta_report.specs.Trace.{left_after}
use Rattle.prta_writer.proofs.Standing.{none_left, finished}
use Rattle.prta_writer.proofs.trace.push_state.Goals as goal

pub returns-in-Some-clause-written : goal.returns-in-Some-clause-written
returns-in-Some-clause-written c =
    let machine : MachineParts = c.args.machine.now in
    let none : left_after machine c.args.i machine.horizon ≡ 0 = rw (← c.requires.end) (none_left _ c.in-Some.ensures.none.1) in
    c.push_finished.ensures.written ∙ ap (λ text. c.args.page.now.written ++ text) (sym (finished c.trace_tells_misses.ensures machine c.args.i c.args.deadline c.in-Some.finish c.in-Some.ensures.finish none))
