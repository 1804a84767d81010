-- Accepted sheets are statable.
use Rattle.std.proofs.Common.{◌≡◌, ℕ, zero, suc, ◌+◌, ◌-◌, ◌<◌, ◌≤◌, Option, Some, None, List, length, get_or, All, arith, add-zero, le_refl}
use Rattle.std.specs.List.Sorted.{IsStrictlyIncreasing}
use Rattle.std.proofs.lemmas.List.{get_or-map, length-map}
use Rattle.std.proofs.lemmas.List.Sums.{get_or-le-sum_by}
use Rattle.prta_mass.specs.Table.{Table, IsTable, greatest, times}
use Rattle.prta_mass.specs.declared.support.Support.{Support}
use Rattle.prta_sheet.specs.declared.limits.TheConstants.{TIME_LIMIT}
use Rattle.prta_sheet.specs.Sheet.{Task}
use Rattle.prta_sheet.specs.Accepted.{IsTask, IsSupport}
use Rattle.prta_sheet.specs.Canonical.{IsTomlPair, IsTomlSupport, IsStatableTask, AcceptedAreStatable}

-- numbers that rise are at most the later ones
rises : (xs : List ℕ) → IsStrictlyIncreasing xs → (k more : ℕ) → k + more < length xs → get_or xs k 0 ≤ get_or xs (k + more) 0
rises xs up k zero low = rw add-zero (le_refl _)
rises xs up k (suc more) low =
    let next : k + suc more ≡ k + more + 1 = omega arith in
    let before : get_or xs k 0 ≤ get_or xs (k + more) 0 = rises xs up k more (omega arith) in
    let step : get_or xs (k + more) 0 < get_or xs (k + more + 1) 0 = up (k + more) (omega arith) in
    rw next (omega arith)

-- each time of a table is at most the greatest
pub time_within : (pairs : Table) → IsTable pairs → (k : ℕ) (d : ℕ × ℕ) → k < length pairs → (get_or pairs k d).0 ≤ greatest pairs
time_within pairs is k d low =
    let size : length (times pairs) ≡ length pairs = length-map pairs (λ pair. pair.0) in
    let last : k + (length pairs - 1 - k) ≡ length pairs - 1 = omega arith in
    let up = rises (times pairs) is.increasing k (length pairs - 1 - k) (omega arith) in
    let here = get_or-map (λ pair. pair.0) pairs k d 0 low in
    let there = get_or-map (λ pair. pair.0) pairs (length pairs - 1) (0, 0) 0 (omega arith) in
    rw (last, here, there) at up

statable_table : (times : Table) → IsTable times → greatest times ≤ TIME_LIMIT → All IsTomlPair times
statable_table times is early = λ k d low. record {
  first = let a = time_within times is k d low in omega arith;
  second = let a = get_or-le-sum_by (λ pair. pair.1) times k d low in let b = is.limited in omega arith;
}

statable_task : (cap : ℕ) (task : Task) → cap ≤ 16384 → IsTask cap task → IsStatableTask task
statable_task cap task few is = record {
  name = is.name;
  offset = let a = is.offset in let b = is.period_high in omega arith;
  period = let b = is.period_high in omega arith;
  deadline = let b = is.deadline_high in omega arith;
  some_tables = is.cycle_low;
  tables = λ i e in_cycle. statable_table (get_or task.cycle i e) (is.tables i e in_cycle) (is.times i e in_cycle);
  allow = let a = is.allow.part in let b = is.allow.whole_high in record { first = omega arith; second = omega arith };
}

statable_support : (support : Option Support) → IsSupport support → IsTomlSupport support
statable_support None is = tt
statable_support (Some support) is = record {
  first = let a = is.fine in omega arith;
  second = let a = is.step_high in omega arith;
}

pub accepted_are_statable : AcceptedAreStatable
accepted_are_statable sheet is = record {
  settings = record {
    cap = let a = is.settings.cap_high in omega arith;
    hyperperiods = let a = is.settings.hyperperiods_high in omega arith;
    turns = let a = is.settings.turns in omega arith;
    support = statable_support sheet.settings.support is.settings.support;
  };
  some = is.some;
  tasks = λ k d low. statable_task sheet.settings.cap (get_or sheet.tasks k d) is.settings.cap_high (is.tasks k d low);
}
