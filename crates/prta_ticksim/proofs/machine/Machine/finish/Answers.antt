use Rattle.std.proofs.Common.{arith, refl}
use Rattle.prta_ticksim.proofs.Kept.{kept_remaining}
use Rattle.prta_ticksim.proofs.machine.Machine.finish.Goals as goal

pub returns-then-index-gt0-clause-none : goal.returns-then-index-gt0-clause-none
returns-then-index-gt0-clause-none c =
    let low = rw (← c.self.view_is) at c.requires in
    rw (← c.self.view_is) (λ e. omega (arith, kept_remaining _ _ _ _ _ _ _ c.self.invariant c.args.i c.index.result.now low c.index.ensures), λ h. refl)

pub returns-clause-none : goal.returns-clause-none
returns-clause-none c =
    let low = rw (← c.self.view_is) at c.requires in
    rw (← c.self.view_is) (λ e. cc, λ h. absurd (omega (arith, kept_remaining _ _ _ _ _ _ _ c.self.invariant c.args.i c.index.result.now low c.index.ensures)))
