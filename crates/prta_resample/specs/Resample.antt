-- Re-sampling a list of chances at a stated support.
use Rattle.std.specs.Prelude.{ℕ, zero, suc, ◌+◌, ◌-◌, max, nat_eq, if◌then◌else◌, List, length}
use Rattle.std.specs.List.{range_with_len, position_or_len}
use Rattle.prta_mass.specs.declared.direction.Dir.{Dir}
use Rattle.prta_mass.specs.declared.direction.Dir.TheVariants.{Up, Down}
use Rattle.prta_mass.specs.declared.support.Support.{Support}
use Rattle.prta_mass.specs.Support.{is_support}
use Rattle.prta_mass.specs.Chances.{at, cells_of}

-- the greatest support point that is at most k
abbrev pub support_below : Support → ℕ → ℕ → ℕ
support_below support cap zero = 0
support_below support cap (suc k) = if is_support support cap (suc k) then suc k else support_below support cap k

-- the least support point above k
abbrev pub support_above : Support → ℕ → ℕ → ℕ
support_above support cap k = k + 1 + position_or_len (is_support support cap) (range_with_len (k + 1) (cap - (k + 1)))

-- the place that is read for cell k: in Up the support point at or before it, in Down the place just before the next support point
abbrev pub read_place : Dir → Support → ℕ → ℕ → ℕ
read_place Up support cap k = support_below support cap k
read_place Down support cap k = if nat_eq k (cap - 1) then k else support_above support cap k - 1

-- the re-sampled list
abbrev pub resampled : Dir → Support → List ℕ → List ℕ
resampled dir support cells = cells_of (length cells) (λ k. at cells (read_place dir support (length cells) k))

-- how far two numbers are apart
abbrev pub difference : ℕ → ℕ → ℕ
difference a b = (a - b) + (b - a)

-- the largest of the first n values of a function
abbrev pub largest : ℕ → (ℕ → ℕ) → ℕ
largest zero F = 0
largest (suc n) F = max (largest n F) (F n)

-- the largest difference of a cell before and after
abbrev pub moved_amount : List ℕ → List ℕ → ℕ
moved_amount old new = largest (length old) (λ k. difference (at old k) (at new k))
