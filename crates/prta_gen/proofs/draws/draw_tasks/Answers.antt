use Rattle.std.proofs.Common.{◌∙◌}
use Rattle.prta_gen.proofs.States.{tasks_step}
use Rattle.prta_gen.proofs.draws.draw_tasks.Goals as goal

pub loop-i-preserved : goal.loop-i-preserved
loop-i-preserved c =
    tasks_step c.loop-i.tasks.items c.push.new.self.items c.args.count c.loop-i.i c.loop-i.draws.state c.draw_task.new.draws.state c.in_ok-draw_task.field-0 c.loop-i-test.true c.in_ok-draw_task.ensures.task c.in_ok-draw_task.ensures.state c.in_ok-push.ensures.items
    ∙ c.loop-i.invariant
