use Rattle.std.proofs.Common.{refl}
use Rattle.csv.proofs.OnLiterals.{csv_on_literals}
use Rattle.prta_times.proofs.laws.worked_counts.Goals as goal

pub returns : goal.returns
unfolding csv_on_literals
returns c = record {
  sums = refl;
  rising = refl;
  others_aside = refl;
  kept = refl;
  replaced = refl;
  good_rows = refl;
  no_rows = refl;
  short_header = refl;
  zero_time = refl;
  zero_weight = refl;
  good_tables = refl;
  unknown = refl;
  faultless = refl;
  made = refl;
  reduced_faultless = refl;
  reduced_made = refl;
}
