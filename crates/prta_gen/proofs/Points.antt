-- Points that are drawn make a table.
use Rattle.std.proofs.Common.{◌≡◌, ℕ, zero, suc, ◌+◌, ◌-◌, ◌*◌, ◌<◌, ◌≤◌, length, get_or, None, refl, add-one, arith}
use Rattle.std.specs.List.{AllByRecursion as Each}
use Rattle.std.proofs.lemmas.List.{length-map}
use Rattle.std.proofs.lemmas.List.Elements.{All-from_recursion}
use Rattle.std.proofs.lemmas.List.Sums.{sum_by-cons}
use Rattle.prta_mass.specs.Table.{total, times, greatest, IsTable, fault_of}
use Rattle.prta_mass.specs.declared.table.TheConstants.{POINT_LIMIT}
use Rattle.prta_mass.proofs.Faultless.{no_table_fault}
use Rattle.prta_sheet.proofs.Each.{Each-weaker}
use Rattle.prta_gen.specs.Generator.{drawn, state_after, points_from}
use Rattle.prta_gen.proofs.States.{drawn_below}

-- the time and the weight of the first point
abbrev first_time : ℕ → ℕ → ℕ
first_time time x = time + (drawn 3 (state_after 1 x) + 1)

abbrev first_weight : ℕ → ℕ
first_weight x = drawn 100 (state_after 2 x) + 1

pub points_length : (n time x : ℕ) → length (points_from n time x) ≡ n
points_length zero time x = refl
points_length (suc n) time x = let rest = points_length n (first_time time x) (state_after 2 x) in omega (arith, rest)

-- each point: its time is after the start and within three ticks a point, and its weight from 1 to 100
record IsPoint (low high : ℕ) (pair : ℕ × ℕ) : Type 0 where
  after : low < pair.0
  until : pair.0 ≤ high
  some : 0 < pair.1
  few : pair.1 ≤ 100

are_points : (n time x : ℕ) → Each (IsPoint time (time + 3 * n)) (points_from n time x)
are_points zero time x = tt
are_points (suc n) time x =
    let step = drawn_below 3 (state_after 1 x) (omega arith) in
    let weight = drawn_below 100 (state_after 2 x) (omega arith) in (
      record { after = omega arith; until = omega arith; some = omega arith; few = omega arith },
      Each-weaker (IsPoint (first_time time x) (first_time time x + 3 * n)) (IsPoint time (time + 3 * suc n))
          (λ pair is. let a = is.after in let u = is.until in record { after = omega arith; until = omega arith; some = is.some; few = is.few })
          (points_from n (first_time time x) (state_after 2 x)) (are_points n (first_time time x) (state_after 2 x)),
    )

-- each time is below the next
rise : (n time x k : ℕ) → suc k < n → get_or (times (points_from n time x)) k 0 < get_or (times (points_from n time x)) (suc k) 0
rise zero time x k low = absurd (omega arith)
rise (suc zero) time x k low = absurd (omega arith)
rise (suc (suc n)) time x zero low = omega arith
rise (suc (suc n)) time x (suc k) low = rise (suc n) (first_time time x) (state_after 2 x) k (omega arith)

-- the weights sum to 1 to 100 a point
totals : (n time x : ℕ) → (n ≤ total (points_from n time x)) × (total (points_from n time x) ≤ 100 * n)
totals zero time x = (omega arith, omega arith)
totals (suc n) time x =
    let (low, high) = totals n (first_time time x) (state_after 2 x) in
    let weight = drawn_below 100 (state_after 2 x) (omega arith) in
    let all = sum_by-cons (λ (pair : ℕ × ℕ). pair.1) (first_time time x, first_weight x) (points_from n (first_time time x) (state_after 2 x)) in
    (omega arith, omega arith)

module _ (n x : ℕ) (some : 1 ≤ n) (few : n ≤ 20) where
  pub points_are_a_table : IsTable (points_from n 0 x)
  points_are_a_table =
      let size = points_length n 0 x in
      let (low, high) = totals n 0 x in
      let points = All-from_recursion (IsPoint 0 (0 + 3 * n)) (points_from n 0 x) (are_points n 0 x) in
      record {
        some = omega arith;
        few = omega arith;
        positive_times = λ k d l. (points k d l).after;
        increasing = λ k l. rw add-one (rise n 0 x k (let long = length-map (points_from n 0 x) (λ (pair : ℕ × ℕ). pair.0) in omega arith));
        positive_weights = λ k d l. (points k d l).some;
        weighs = omega arith;
        limited = omega arith;
      }

  pub points_have_no_fault : fault_of (points_from n 0 x) ≡ None
  points_have_no_fault = no_table_fault POINT_LIMIT (points_from n 0 x) points_are_a_table

  pub short_times : greatest (points_from n 0 x) ≤ 60
  short_times =
      let size = points_length n 0 x in
      let points = All-from_recursion (IsPoint 0 (0 + 3 * n)) (points_from n 0 x) (are_points n 0 x) in
      let last = (points (length (points_from n 0 x) - 1) (0, 0) (omega arith)).until in
      omega arith
