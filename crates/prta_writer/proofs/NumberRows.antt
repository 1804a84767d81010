-- The rows of numbers that were found for a task's jobs of one hyperperiod.
use Rattle.std.proofs.Common.{◌≡◌, ℕ, zero, suc, ◌+◌, ◌-◌, ◌<◌, ◌≤◌, ◌++◌, List, length, get_or, take, All, map, flat_map, refl, ap, ap₂, ◌∙◌, arith, inl, inr}
use Rattle.std.specs.List.{range_with_len}
use Rattle.std.proofs.lemmas.Bool.{cases_lt}
use Rattle.std.proofs.lemmas.List.{length-take-le}
use Rattle.std.proofs.lemmas.List.Elements.{All-map, All-same}
use Rattle.std.proofs.lemmas.List.FromFn.{length-map-range_with_len, get_or-map-range_with_len}
use Rattle.prta_mass.specs.Unit.{unit}
use Rattle.prta_sheet.specs.Sheet.{Sheet}
use Rattle.prta_sheet.specs.Counts.{job_count}
use Rattle.prta_sheet.specs.Accepted.{IsAccepted}
use Rattle.prta_certificate.proofs.FirstJobs.{is_analysed}
use Rattle.prta_report.specs.Text.{steady_line}
use Rattle.prta_report.specs.Certificates.{name_of, jobs_in_turn, rows_of}
use Rattle.prta_writer.specs.Steadiness.{number_lines}

-- a hyperperiod has no more of a task's jobs than are analysed
pub few_in_turn : (sheet : Sheet) (i : ℕ) → IsAccepted sheet → i < length sheet.tasks → jobs_in_turn sheet i ≤ job_count sheet i
few_in_turn sheet i is low =
    elim (cases_lt 0 (jobs_in_turn sheet i)) [
      | inl some ↦ omega (arith, is_analysed sheet i is low (jobs_in_turn sheet i - 1) (omega arith))
      | inr none ↦ omega (arith, none)
    ]

-- the line of a number that was found
abbrev pub number_row : Sheet → ℕ → List ℕ → ℕ → List ℕ
number_row sheet i found k = steady_line (name_of sheet i) k (get_or found k 0)

-- lines that are the same for each number of a range
lines_same : (f g : ℕ → List ℕ) (k n : ℕ) → ((j : ℕ) → k ≤ j → j < k + n → f j ≡ g j) → flat_map f (range_with_len k n) ≡ flat_map g (range_with_len k n)
lines_same f g k zero same = refl
lines_same f g k (suc n) same = ap₂ (λ a b. a ++ b) (same k (omega arith) (omega arith)) (lines_same f g (k + 1) n (λ j low high. same j (omega arith) (omega arith)))

-- the lines of the numbers that were found are the rows
pub lines_are_rows : (sheet : Sheet) (i : ℕ) (number : ℕ → ℕ) (found : List ℕ) (n : ℕ) → n ≡ jobs_in_turn sheet i → found ≡ map number (range_with_len 0 n) →
    number_lines sheet i found ≡ rows_of sheet i number
lines_are_rows sheet i number found n count e =
    let size : length found ≡ n = ap length e ∙ length-map-range_with_len number 0 n in
    let all : length found ≡ jobs_in_turn sheet i = size ∙ count in
    lines_same (number_row sheet i found) (λ k. steady_line (name_of sheet i) k (number k)) 0 (length found)
    (λ j low high.
    ap (steady_line (name_of sheet i) j) (ap (λ xs. get_or xs j 0) e ∙ get_or-map-range_with_len number 0 n j j 0 (omega (arith, high, size)) (omega arith)))
    ∙ ap (λ m. flat_map (λ k. steady_line (name_of sheet i) k (number k)) (range_with_len 0 m)) all

-- none is more than the unit
pub low_numbers : (number : ℕ → ℕ) (found : List ℕ) (n : ℕ) → ((k : ℕ) → number k ≤ unit) → found ≡ map number (range_with_len 0 n) → All (λ upper. upper ≤ unit) found
low_numbers number found n low e =
    All-same (λ upper. upper ≤ unit) found (map number (range_with_len 0 n)) e
    (All-map (λ upper. upper ≤ unit) number (range_with_len 0 n) (λ k d within. low (get_or (range_with_len 0 n) k d)))

-- as many places as there are jobs in turn
pub size_is : (n most : ℕ) (places : List ℕ) → n ≤ most → most ≤ length places → length (take n places) ≡ n
size_is n most places few fit = length-take-le n places (omega (arith, few, fit))
