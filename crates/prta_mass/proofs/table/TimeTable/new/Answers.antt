use Rattle.std.proofs.Common.{◌≡◌, None, sym, ◌∙◌}
use Rattle.prta_mass.specs.Table.{fault_of}
use Rattle.prta_mass.specs.declared.table.TheConstants.{POINT_LIMIT}
use Rattle.prta_mass.proofs.Faults.{IsTable-from_none}
use Rattle.prta_mass.proofs.table.TimeTable.new.Goals as goal

pub of_points-requires : goal.of_points-requires
of_points-requires c =
    let none : fault_of c.args.pairs.now ≡ None = sym c.fault_within.ensures ∙ c.in_default.is in
    rw c.in-Ok.ensures.items (IsTable-from_none POINT_LIMIT c.args.pairs.now none)
