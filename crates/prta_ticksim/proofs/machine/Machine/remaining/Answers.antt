use Rattle.prta_ticksim.proofs.Kept.{kept_remaining}
use Rattle.prta_ticksim.proofs.machine.Machine.remaining.Goals as goal

pub returns : goal.returns
returns c =
    let low = rw (← c.self.view_is) at c.requires in
    rw (← c.self.view_is) (kept_remaining _ _ _ _ _ _ _ c.self.invariant c.args.i c.index.result.now low c.index.ensures)
