-- the tables so far are made, and the others as they were
use Rattle.std.proofs.Common.{◌≡◌, ℕ, ◌≤◌, [], take, map, get_or}
use Rattle.prta_mass.specs.Added.{with_added}
use Rattle.prta_sheet.proofs.added.put_added.Given as goal

abbrev pub invariant-loop-i : goal.invariant-loop-i
invariant-loop-i l = record {
  made : take l.i l.tables ≡ map (λ table. with_added table l.s) (take l.i l.base);
  rest : (k : ℕ) → l.i ≤ k → get_or l.tables k [] ≡ get_or l.initial.tables k [];
}
