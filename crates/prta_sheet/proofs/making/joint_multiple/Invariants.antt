-- no multiple so far is one of b
use Rattle.std.proofs.Common.{◌≡◌, ℕ, ◌+◌, ◌*◌, ◌%◌, ◌<◌, false, nat_eq}
use Rattle.prta_sheet.proofs.making.joint_multiple.Given as goal

abbrev pub invariant-loop-k : goal.invariant-loop-k
invariant-loop-k l = (j : ℕ) → j < l.k → nat_eq (l.a * (1 + j) % l.b) 0 ≡ false
