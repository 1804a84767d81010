-- Whether `assign` finds an order.
use Rattle.std.specs.Prelude.{Bool, true, false}
use Rattle.prta_audsley.specs.declared.assigned.Assigned.{Assigned}
use Rattle.prta_audsley.specs.declared.assigned.Assigned.TheVariants.{Order, Undecided, Impossible}

abbrev pub is_found : Assigned → Bool
is_found (Order order) = true
is_found (Undecided set) = false
is_found (Impossible set) = false
