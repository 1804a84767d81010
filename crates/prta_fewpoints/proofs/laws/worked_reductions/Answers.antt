use Rattle.std.proofs.Common.{refl}
use Rattle.prta_fewpoints.proofs.laws.worked_reductions.Goals as goal

pub returns : goal.returns
returns c = record {
  moves_up = refl;
  stays = refl;
  costs_two = refl;
  costs_more = refl;
  counts_weights = refl;
  weighs = refl;
  merges = refl;
  two = refl;
  least = refl;
  too_few = refl;
  one = refl;
  all = refl;
  more_than_all = refl;
  first = refl;
  at_the_weight = refl;
  keeps = refl;
  no_pairs = refl;
  no_fault = refl;
  zero_time = refl;
  falls = refl;
  zero_weight = refl;
}
