use Rattle.prta_fewpoints.specs.Recursion.{kept_times}
use Rattle.prta_fewpoints.proofs.Reduction.{wide_rises, kept_cheapest}
use Rattle.prta_fewpoints.proofs.Moved.{choices_safe}
use Rattle.prta_fewpoints.proofs.laws.reduction_is_safe.Goals as goal

pub returns : goal.returns
returns c = λ wide k w pos. choices_safe wide k (kept_times wide k) w (kept_cheapest wide k (wide_rises wide w) w.some pos).choice
