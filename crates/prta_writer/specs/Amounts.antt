-- What is counted and added up over the tasks of a sheet.
use Rattle.std.specs.Prelude.{ℕ, ◌*◌, ◌^◌, ◌≤◌, length, sum_by, count_by}
use Rattle.std.specs.List.{range_with_len}
use Rattle.prta_sheet.specs.Sheet.{Sheet}
use Rattle.prta_backlog.specs.Level.{sheet_level}
use Rattle.prta_backlog.specs.Room.{own_jobs}
use Rattle.prta_dual.specs.declared.bounds.Bounds.{Bounds}
use Rattle.prta_dual.specs.Entries.{entries}
use Rattle.prta_report.specs.Analysis.{bounds_in, is_certified}
use Rattle.prta_writer.specs.declared.amounts.Amounts.{Amounts}

-- a number of each analysed job of a task, added up
abbrev pub own_sum : (Bounds → ℕ) → Sheet → ℕ → ℕ
own_sum number sheet i = sum_by (λ job. number (bounds_in sheet job)) (own_jobs sheet i)

-- over the first n tasks
abbrev pub amounts_of : Sheet → ℕ → Amounts
amounts_of sheet n = record {
  entries = sum_by (λ i. length (entries sheet (sheet_level i))) (range_with_len 0 n);
  certified = count_by (is_certified sheet) (range_with_len 0 n);
  lower = sum_by (own_sum (λ bounds. bounds.lower) sheet) (range_with_len 0 n);
  upper = sum_by (own_sum (λ bounds. bounds.upper) sheet) (range_with_len 0 n);
}

-- those of n tasks are so small that none of the next task wraps
pub record AreSmall (n : ℕ) (amounts : Amounts) : Type 0 where
  pub entries : amounts.entries ≤ n * 2 ^ 64
  pub certified : amounts.certified ≤ n
  pub lower : amounts.lower ≤ n * 2 ^ 80
  pub upper : amounts.upper ≤ n * 2 ^ 80
