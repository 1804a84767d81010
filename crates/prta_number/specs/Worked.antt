-- Worked numbers.
use Rattle.std.specs.Prelude.{◌≡◌, Some, None, [], codes}
use Rattle.prta_number.specs.Decimal.{number_within}

pub record WorkedNumbers : Type 0 where
  pub zero_alone : number_within 0 9 (codes "0") ≡ Some 0
  pub below : number_within 1 9 (codes "0") ≡ None
  pub inside : number_within 1 1000 (codes "407") ≡ Some 407
  pub above : number_within 1 9 (codes "10") ≡ None
  pub leading_zero : number_within 0 9 (codes "07") ≡ None
  pub nothing : number_within 0 9 [] ≡ None
  pub a_sign : number_within 0 9 (codes "+1") ≡ None
  pub white_space : number_within 0 9 (codes " 1") ≡ None
