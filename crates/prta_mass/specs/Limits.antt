-- The unit and the limits of a table, as numbers. The definitions name the code's constants; this says what those are.
use Rattle.std.specs.Prelude.{◌≡◌, ◌^◌}
use Rattle.prta_mass.specs.declared.unit.TheConstants.{UNIT}
use Rattle.prta_mass.specs.declared.table.TheConstants.{POINT_LIMIT, TOTAL_LIMIT}
use Rattle.prta_mass.specs.Unit.{unit}

pub record StatedLimits : Type 0 where
  pub unit_is : unit ≡ 2 ^ 60
  pub unit_of_code : UNIT ≡ unit
  pub points : POINT_LIMIT ≡ 32
  pub total : TOTAL_LIMIT ≡ 281474976710656
