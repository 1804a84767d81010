use Rattle.std.proofs.Common.{refl}
use Rattle.std.specs.Fmt.{digits}
use Rattle.prta_gen.proofs.laws.worked_draws.Goals as goal

pub returns : goal.returns
unfolding digits
returns c = record {
  first = refl;
  second = refl;
  third = refl;
  ninth = refl;
  one_task = refl;
}
