use Rattle.std.proofs.Common.{◌∙◌, sym}
use Rattle.prta_ticksim.proofs.Kept.{kept_at_start}
use Rattle.prta_ticksim.proofs.machine.Machine.of_parts.Goals as goal

pub invariant_of-result : goal.invariant_of-result
invariant_of-result c =
    rw (c.jobs.view_is, c.in_ok-from_slice.ensures.items, c.in_ok-from_slice-2.ensures.items)
    (kept_at_start _ _ _ _ _ _ c.requires.times c.requires.some c.requires.apart c.requires.near c.in_ok-from_slice-3.ensures.items (sym c.in_ok-vec.field-0.ok.0 ∙ c.in_ok-vec.ensures.len))
