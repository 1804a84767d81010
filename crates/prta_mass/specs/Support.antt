-- Support points: the places below a cap that a re-sampling keeps.
use Rattle.std.specs.Prelude.{ℕ, ◌-◌, ◌%◌, Bool, ◌||◌, nat_le, nat_eq}
use Rattle.prta_mass.specs.declared.support.Support.{Support}

-- 0 to fine, every multiple of step, and the last cell
abbrev pub is_support : Support → ℕ → ℕ → Bool
is_support support cap k = nat_le k support.fine || (nat_eq (k % support.step) 0 || nat_eq k (cap - 1))
