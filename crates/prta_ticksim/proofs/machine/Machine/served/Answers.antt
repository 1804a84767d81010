use Rattle.std.proofs.Common.{◌≡◌, List, position, subst}
use Rattle.prta_sheet.specs.Assignment.{Timed}
use Rattle.prta_sheet.specs.Machine.{is_served}
use Rattle.prta_ticksim.proofs.Waiting.{first_runs}
use Rattle.prta_ticksim.proofs.machine.Machine.served.Goals as goal

pub returns : goal.returns
returns c =
    let first = rw (c.deref.ensures.value, c.list.ensures, c.deref-2.ensures.value) at c.first_waiting.ensures in
    rw (← c.self.view_is)
    (subst (λ (state : List Timed). c.first_waiting.result ≡ position (is_served c.self.inside.order.items c.self.inside.ticks state) state) c.self.invariant.state
    (first_runs c.self.inside.order.items c.self.inside.jobs c.self.invariant.apart c.self.inside.left.items c.self.invariant.left_each c.self.inside.ticks c.first_waiting.result first))
