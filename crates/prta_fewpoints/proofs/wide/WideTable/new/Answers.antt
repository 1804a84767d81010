use Rattle.std.proofs.Common.{◌≡◌, None, sym, ◌∙◌}
use Rattle.prta_fewpoints.specs.Wide.{wide_fault}
use Rattle.prta_fewpoints.specs.declared.wide.TheConstants.{WIDE_LIMIT}
use Rattle.prta_mass.proofs.Faults.{IsTable-from_none}
use Rattle.prta_fewpoints.proofs.wide.WideTable.new.Goals as goal

pub invariant_of-result : goal.invariant_of-result
invariant_of-result c =
    let none : wide_fault c.args.pairs.now ≡ None = sym c.fault_within.ensures ∙ c.in_default.is in
    rw c.in-Ok.ensures.items (IsTable-from_none WIDE_LIMIT c.args.pairs.now none)
