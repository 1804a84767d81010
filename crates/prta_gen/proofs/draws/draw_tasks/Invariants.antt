-- with the tasks that are left these are all tasks
use Rattle.std.proofs.Common.{◌≡◌, ◌-◌, ◌++◌}
use Rattle.prta_gen.specs.Generator.{drawn_tasks}
use Rattle.prta_gen.proofs.draws.draw_tasks.Given as goal

abbrev pub invariant-loop-i : goal.invariant-loop-i
invariant-loop-i l = l.tasks.items ++ drawn_tasks l.i (l.count - l.i) l.draws.state ≡ drawn_tasks 0 l.count l.initial.draws.state
