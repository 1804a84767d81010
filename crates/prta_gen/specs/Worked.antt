-- Worked draws.
use Rattle.std.specs.Prelude.{◌≡◌, ◌/◌, [], ◌∷◌, codes}
use Rattle.prta_gen.specs.Generator.{state_after, generated}

pub record WorkedDraws : Type 0 where
  -- the first draws of the seed 1, before they are reduced
  pub first : state_after 1 1 / 65536 ≡ 1
  pub second : state_after 2 1 / 65536 ≡ 7257
  pub third : state_after 3 1 / 65536 ≡ 50009
  pub ninth : state_after 9 1 / 65536 ≡ 57815
  -- one task of the seed 1
  pub one_task : (generated 1 1).tasks ≡ record {
    name = codes "t0";
    offset = 57;
    period = 100;
    deadline = 100;
    cycle = ((3, 72) ∷ (6, 64) ∷ (7, 16) ∷ []) ∷ [];
    allow = (1, 1000);
  } ∷ []
