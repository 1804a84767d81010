-- Worked texts of `assign`.
use Rattle.std.specs.Prelude.{◌≡◌, [], ◌∷◌, ◌++◌, codes}
use Rattle.prta_sheet.specs.Sheet.{Sheet}
use Rattle.prta_report.specs.Assignment.{assign_text}
use Rattle.prta_report.specs.WorkedTraces.{named}
use Rattle.prta_report.specs.WorkedTexts.{capped}

-- one of 2 ticks each 4 ticks, above one of 1 tick each 2 ticks that has to end in the tick of its release
abbrev pub wrong_way : Sheet
wrong_way = capped 8 (named (codes "B") 0 4 4 ((2, 1) ∷ []) ∷ named (codes "A") 0 2 1 ((1, 1) ∷ []) ∷ [])

-- two that both have to end in the tick of their release
abbrev pub clash : Sheet
clash = capped 8 (named (codes "A") 0 2 1 ((1, 1) ∷ []) ∷ named (codes "B") 0 2 1 ((1, 1) ∷ []) ∷ [])

-- one that is late in one of ten cases, and allowed to be: rounded up, the number is above the allowance, rounded down below
abbrev pub close : Sheet
close = capped 12 (record (named (codes "A") 0 10 5 ((3, 9) ∷ (7, 1) ∷ [])) { allow = (1, 10) } ∷ [])

pub record WorkedAssignmentTexts : Type 0 where
  pub order : assign_text wrong_way ≡ codes "prta assign 1\n" ++ codes "order A B\n" ++ codes "end\n"
  pub impossible : assign_text clash ≡ codes "prta assign 1\n" ++ codes "impossible A B\n" ++ codes "end\n"
  pub undecided : assign_text close ≡ codes "prta assign 1\n" ++ codes "undecided A\n" ++ codes "end\n"
