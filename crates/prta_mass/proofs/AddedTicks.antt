-- Ticks that are added to each time of a table.
use Rattle.std.proofs.Common.{◌≡◌, ℕ, ◌+◌, ◌-◌, ◌<◌, List, [], ◌∷◌, length, get_or, map, All, refl, ap, ap₂, sym, ◌∙◌, subst, arith}
use Rattle.std.specs.List.Sorted.{IsStrictlyIncreasing}
use Rattle.std.proofs.lemmas.List.{length-map, get_or-map}
use Rattle.std.proofs.lemmas.List.Elements.{All-map}
use Rattle.std.proofs.lemmas.List.Sums.{sum_by-cons}
use Rattle.prta_mass.specs.Table.{Table, total, times, greatest, IsTable}
use Rattle.prta_mass.specs.Added.{with_added, AddedTables}
use Rattle.prta_mass.proofs.Latest.{times_low}

-- a pair with s ticks added
abbrev pub later : ℕ → ℕ × ℕ → ℕ × ℕ
later s pair = (pair.0 + s, pair.1)

pub added_none : (table : Table) → with_added table 0 ≡ table
added_none [] = refl
added_none (pair ∷ table) = ap₂ (λ (p : ℕ × ℕ) (ps : Table). p ∷ ps) (ap (λ n. (n, pair.1)) (omega arith)) (added_none table)

added_twice : (table : Table) (r s : ℕ) → with_added (with_added table r) s ≡ with_added table (r + s)
added_twice [] r s = refl
added_twice (pair ∷ table) r s = ap₂ (λ (p : ℕ × ℕ) (ps : Table). p ∷ ps) (ap (λ n. (n, pair.1)) (omega arith)) (added_twice table r s)

pub total_added : (table : Table) (s : ℕ) → total (with_added table s) ≡ total table
total_added [] s = refl
total_added (pair ∷ table) s =
    omega (arith, sum_by-cons (λ (p : ℕ × ℕ). p.1) (later s pair) (with_added table s), sum_by-cons (λ (p : ℕ × ℕ). p.1) pair table, total_added table s)

times_added : (table : Table) (s : ℕ) → times (with_added table s) ≡ map (λ time. time + s) (times table)
times_added [] s = refl
times_added (pair ∷ table) s = ap (λ (ts : List ℕ). (pair.0 + s) ∷ ts) (times_added table s)

pub greatest_added : (table : Table) (s : ℕ) → 0 < length table → greatest (with_added table s) ≡ greatest table + s
greatest_added table s some =
    let size : length (with_added table s) ≡ length table = length-map table (later s) in
    ap (λ n. (get_or (with_added table s) (n - 1) (0, 0)).0) size
    ∙ ap (λ (p : ℕ × ℕ). p.0) (get_or-map (later s) table (length table - 1) (0, 0) (0, 0) (omega arith))

increasing_added : (table : Table) (s : ℕ) → IsStrictlyIncreasing (times table) → IsStrictlyIncreasing (times (with_added table s))
increasing_added table s up = subst IsStrictlyIncreasing (sym (times_added table s)) (λ k low.
    let plus : ℕ → ℕ = λ time. time + s in
    let size : length (map plus (times table)) ≡ length (times table) = length-map (times table) plus in
    let less = up k (omega arith) in
    let here = get_or-map plus (times table) k 0 0 (omega arith) in
    let next = get_or-map plus (times table) (k + 1) 0 0 (omega arith) in
    omega (arith, here, next, less))

pub IsTable-added : (table : Table) (s : ℕ) → IsTable table → IsTable (with_added table s)
IsTable-added table s is =
    let size : length (with_added table s) ≡ length table = length-map table (later s) in
    let weights : total (with_added table s) ≡ total table = total_added table s in
    record {
      some = omega (arith, is.some, size);
      few = omega (arith, is.few, size);
      positive_times = All-map (λ (pair : ℕ × ℕ). 0 < pair.0) (later s) table (λ k d low. omega (arith, is.positive_times k d low));
      increasing = increasing_added table s is.increasing;
      positive_weights = All-map (λ (pair : ℕ × ℕ). 0 < pair.1) (later s) table (λ k d low. is.positive_weights k d low);
      weighs = omega (arith, is.weighs, weights);
      limited = omega (arith, is.limited, weights);
    }

pub added_tables : AddedTables
added_tables = record {
  none = added_none;
  twice = added_twice;
  points = λ table s. length-map table (later s);
  weights = total_added;
  each_time = times_added;
  greatest_time = greatest_added;
  makes = IsTable-added;
}

-- where the greatest time stays below a limit, each does
pub times_below : (table : Table) (s limit : ℕ) → IsTable table → greatest table + s < limit → All (λ pair. pair.0 + s < limit) table
times_below table s limit is low k d l = omega (arith, times_low table is k d l, low)
