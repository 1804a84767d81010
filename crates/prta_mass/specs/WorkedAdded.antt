-- A worked table with ticks added.
use Rattle.std.specs.Prelude.{◌≡◌, [], ◌∷◌}
use Rattle.prta_mass.specs.Table.{Table, total, times, greatest}
use Rattle.prta_mass.specs.Added.{with_added}

-- 3 with a weight of 9, and 7 with 1
abbrev pub tenth : Table
tenth = (3, 9) ∷ (7, 1) ∷ []

pub record WorkedAdded : Type 0 where
  pub two_more : with_added tenth 2 ≡ (5, 9) ∷ (9, 1) ∷ []
  pub its_total : total (with_added tenth 2) ≡ 10
  pub its_times : times (with_added tenth 2) ≡ 5 ∷ 9 ∷ []
  pub its_greatest : greatest (with_added tenth 2) ≡ 9
  pub none_more : with_added tenth 0 ≡ tenth
