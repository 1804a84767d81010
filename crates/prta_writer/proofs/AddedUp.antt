-- What is counted and added up, task by task.
use Rattle.std.proofs.Common.{◌≡◌, ℕ, ◌+◌, ◌≤◌, cond, List, [], ◌∷◌, length, map, sum_by, All, refl, ap, sym, ◌∙◌, arith}
use Rattle.std.specs.List.{range_with_len}
use Rattle.std.proofs.lemmas.List.{map-id}
use Rattle.std.proofs.lemmas.List.Elements.{All-map, All-same}
use Rattle.std.proofs.lemmas.List.Sums.{sum_by-cons}
use Rattle.prta_mass.specs.Unit.{unit}
use Rattle.std.proofs.lemmas.List.FromFn.{sum_by-map-range_with_len_more}
use Rattle.prta_sheet.specs.Sheet.{Sheet}
use Rattle.prta_sheet.specs.Job.{Job, nth_job}
use Rattle.prta_sheet.specs.Counts.{job_count}
use Rattle.prta_sheet.specs.Weights.{one_if}
use Rattle.prta_backlog.specs.Level.{sheet_level}
use Rattle.prta_dual.specs.declared.bounds.Bounds.{Bounds}
use Rattle.prta_dual.specs.Numbers.{bounds_of, all_bounds}
use Rattle.prta_dual.specs.Entries.{entries}
use Rattle.prta_certificate.specs.Candidates.{verdict_of}
use Rattle.prta_certificate.specs.Levels.{level_for}
use Rattle.prta_certificate.specs.declared.verdict.Verdict.{Verdict}
use Rattle.prta_report.specs.Analysis.{bounds_in, is_list, is_certified}
use Rattle.prta_writer.specs.declared.amounts.Amounts.{Amounts}
use Rattle.prta_writer.specs.Amounts.{own_sum, amounts_of}
use Rattle.prta_writer.proofs.RowsInTurn.{InTurn}

sum_by-map : {X Y : Type 0} (f : Y → ℕ) (g : X → Y) (xs : List X) → sum_by f (map g xs) ≡ sum_by (λ x. f (g x)) xs
sum_by-map f g [] = refl
sum_by-map f g (x ∷ xs) = sum_by-cons f (g x) (map g xs) ∙ ap (λ n. f (g x) + n) (sum_by-map f g xs) ∙ sym (sum_by-cons (λ y. f (g y)) x xs)

-- one more task
pub sum_more : (f : ℕ → ℕ) (n : ℕ) → sum_by f (range_with_len 0 (n + 1)) ≡ sum_by f (range_with_len 0 n) + f n
sum_more f n =
    ap (sum_by f) (sym (map-id (range_with_len 0 (n + 1))))
    ∙ sum_by-map-range_with_len_more f (λ k. k) 0 n n (omega arith)
    ∙ ap (λ xs. sum_by f xs + f n) (map-id (range_with_len 0 n))

-- the numbers that were found add up to those of the task's jobs
pub found_sum : (number : Bounds → ℕ) (sheet : Sheet) (i : ℕ) (found : List Bounds) → InTurn sheet i → found ≡ all_bounds sheet (sheet_level i) → sum_by number found ≡ own_sum number sheet i
found_sum number sheet i found turn e =
    ap (sum_by number) e
    ∙ sum_by-map number (bounds_of sheet (sheet_level i)) (range_with_len 0 (job_count sheet i))
    ∙ sym (sum_by-map (λ (job : Job). number (bounds_in sheet job)) (nth_job sheet.tasks i) (range_with_len 0 (job_count sheet i)))
    ∙ ap (sum_by (λ (job : Job). number (bounds_in sheet job))) (sym turn)

-- the amounts with one more task
pub amounts_more : (sheet : Sheet) (n : ℕ) (before : Amounts) (count one lower upper : ℕ) → before ≡ amounts_of sheet n →
    count ≡ length (entries sheet (sheet_level n)) → one ≡ one_if (is_certified sheet n) → lower ≡ own_sum (λ bounds. bounds.lower) sheet n → upper ≡ own_sum (λ bounds. bounds.upper) sheet n →
    record { entries = before.entries + count; certified = before.certified + one; lower = before.lower + lower; upper = before.upper + upper } ≡ amounts_of sheet (n + 1)
amounts_more sheet n before count one lower upper e c o l u =
    rw (e, c, o, l, u, sum_more (λ i. length (entries sheet (sheet_level i))) n, sum_more (λ i. cond (is_certified sheet i) 1 0) n, sum_more (own_sum (λ bounds. bounds.lower) sheet) n, sum_more (own_sum (λ bounds. bounds.upper) sheet) n) refl

-- whether a list is found, by the verdict
pub certified_is : (sheet : Sheet) (i : ℕ) (verdict : Verdict) → verdict ≡ verdict_of sheet.tasks (sheet_level i) sheet.settings.cap sheet.settings.turns →
    is_certified sheet i ≡ is_list (level_for sheet.tasks (sheet_level i) sheet.settings.cap sheet.settings.turns verdict)
certified_is sheet i verdict e = ap (λ v. is_list (level_for sheet.tasks (sheet_level i) sheet.settings.cap sheet.settings.turns v)) (sym e)

-- no number that was found is more than the unit
pub low_found : (number : Bounds → ℕ) (sheet : Sheet) (i : ℕ) (found : List Bounds) → ((n : ℕ) → number (bounds_of sheet (sheet_level i) n) ≤ unit) → found ≡ all_bounds sheet (sheet_level i) →
    All (λ bounds. number bounds ≤ unit) found
low_found number sheet i found low e =
    All-same (λ bounds. number bounds ≤ unit) found (all_bounds sheet (sheet_level i)) e
    (All-map (λ bounds. number bounds ≤ unit) (bounds_of sheet (sheet_level i)) (range_with_len 0 (job_count sheet i)) (λ k d l. low _))
