-- The worked values of the conditions, by computation.
use Rattle.std.proofs.Common.{refl}
use Rattle.prta_sheet.specs.RefusedSheets.{RefusedSheets}

pub refused_sheets : RefusedSheets
refused_sheets = record {
  no_toml = refl;
  empty = refl;
  row = refl;
  unknown = refl;
  missing = refl;
  kind = refl;
  range = refl;
  count = refl;
  name = refl;
  offset = refl;
  falling = refl;
  total = refl;
  greatest_total = refl;
  low_cap = refl;
  least_cap = refl;
  third_format = refl;
  second_format = refl;
  cycle = refl;
  greatest_cycle = refl;
  early_cycle = refl;
  both = refl;
  neither = refl;
  no_array = refl;
  no_tables = refl;
  many_tables = refl;
  second_falls = refl;
  second_total = refl;
}
