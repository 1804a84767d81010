-- The reduction by recursion over the number of chosen times and the pairs from some place on.
use Rattle.std.specs.Prelude.{ℕ, zero, suc, ◌+◌, ◌-◌, ◌*◌, min, Option, Some, None, Bool, false, nat_eq, if◌then◌else◌, List, [], ◌∷◌, length}
use Rattle.prta_mass.specs.Table.{Table}
use Rattle.prta_fewpoints.specs.Choices.{merged}

-- costs, of which there are none where there is no choice
abbrev pub plus : ℕ → Option ℕ → Option ℕ
plus n None = None
plus n (Some m) = Some (n + m)

abbrev pub lesser : Option ℕ → Option ℕ → Option ℕ
lesser None b = b
lesser (Some a) None = Some a
lesser (Some a) (Some b) = Some (min a b)

abbrev pub reaches : Option ℕ → Option ℕ → Bool
reaches None goal = false
reaches (Some a) None = false
reaches (Some a) (Some goal) = nat_eq a goal

-- The least cost over the places of the next chosen time. What is gathered on the way, of this weight, was moved to the
-- time since at the cost moved, and moves on with the place; behind is the least cost of the pairs after the place.
abbrev pub scan : (Table → Option ℕ) → ℕ → ℕ → ℕ → Table → Option ℕ
scan behind weight moved since [] = None
scan behind weight moved since (pair ∷ rest) =
    let here = moved + weight * (pair.0 - since) in
    lesser (plus here (behind rest)) (scan behind (weight + pair.1) here pair.0 rest)

-- the least cost of moving these pairs to just j times among theirs, where that can be done
abbrev pub least_cost : ℕ → Table → Option ℕ
least_cost zero [] = Some 0
least_cost zero (pair ∷ rest) = None
least_cost (suc j) table = scan (least_cost j) 0 0 0 table

-- the first place at which the goal is reached, and what is chosen after it
abbrev pub pick : (Table → Option ℕ) → (Table → List ℕ) → Option ℕ → ℕ → ℕ → ℕ → Table → List ℕ
pick behind after goal weight moved since [] = []
pick behind after goal weight moved since (pair ∷ rest) =
    let here = moved + weight * (pair.0 - since) in
    if reaches (plus here (behind rest)) goal then pair.0 ∷ after rest else pick behind after goal (weight + pair.1) here pair.0 rest

-- the chosen times, from the least on
abbrev pub picks : ℕ → Table → List ℕ
picks zero table = []
picks (suc j) table = pick (least_cost j) (picks j) (least_cost (suc j) table) 0 0 0 table

-- the times that the reduction of a wide table to k points keeps
abbrev pub kept_times : Table → ℕ → List ℕ
kept_times wide k = picks (min k (length wide)) wide

-- the reduction of a wide table to k points
abbrev pub reduced : Table → ℕ → Table
reduced wide k = merged (kept_times wide k) wide
