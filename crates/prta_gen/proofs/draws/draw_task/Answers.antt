use Rattle.std.proofs.Common.{Result, Ok, Err, OnOk}
use Rattle.prta_gen.proofs.States.{task_state}
use Rattle.prta_gen.proofs.draws.draw_task.Goals as goal

whether_made : {T E P : Type 0} (r : Result T E) → P → OnOk r P
whether_made (Ok made) p = p
whether_made (Err fault) p = tt

pub returns-clause-state : goal.returns-clause-state
returns-clause-state c =
    whether_made c.new.result
    (task_state c.args.draws.now.state c.draw_period-period.new.self.state c.draw-offset.new.self.state c.draw-count.new.self.state c.draw_cycle.new.draws.state c.draw-count.result
    c.draw_period-period.ensures.state c.draw-offset.ensures.state c.draw-count.ensures.state c.draw-count.ensures.drawn c.in_ok-cycle.ensures.state)
