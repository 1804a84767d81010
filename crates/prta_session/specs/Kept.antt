-- The numbers that a session keeps.
use Rattle.std.specs.Prelude.{◌≡◌, ℕ, ◌<◌, Bool, true, false, not, List, filter, length, slice_index_or, Vec}
use Rattle.std.specs.List.{range_with_len}
use Rattle.std.specs.declared.alloc.Global.{Global}
use Rattle.prta_sheet.specs.Sheet.{Sheet}
use Rattle.prta_sheet.specs.Counts.{job_count}
use Rattle.prta_backlog.specs.Level.{sheet_level}
use Rattle.prta_dual.specs.declared.bounds.Bounds.{Bounds}
use Rattle.prta_dual.specs.Numbers.{all_bounds}

-- a task is marked as fresh
abbrev pub is_marked : List Bool → ℕ → Bool
is_marked fresh task = slice_index_or fresh task false

-- the tasks below n that aren't
abbrev pub unmarked : List Bool → ℕ → List ℕ
unmarked fresh n = filter (λ task. not (is_marked fresh task)) (range_with_len 0 n)

-- the numbers of a task: one for each analysed job, and those of the sheet where it is fresh
pub record IsPlace (sheet : Sheet) (task : ℕ) (fresh : Bool) (bounds : List Bounds) : Type 0 where
  pub size : length bounds ≡ job_count sheet task
  pub numbers : fresh ≡ true → bounds ≡ all_bounds sheet (sheet_level task)

-- a mark and numbers for each task of a sheet
pub record AreKept (sheet : Sheet) (fresh : List Bool) (found : List (Vec Bounds Global)) : Type 0 where
  pub marks : length fresh ≡ length sheet.tasks
  pub count : length found ≡ length sheet.tasks
  pub each : (task : ℕ) (default : Vec Bounds Global) → task < length found → IsPlace sheet task (is_marked fresh task) (slice_index_or found task default).items

-- places for the numbers of the tasks below n
pub record HavePlaces (sheet : Sheet) (found : List (Vec Bounds Global)) (n : ℕ) : Type 0 where
  pub count : length found ≡ n
  pub each : (task : ℕ) (default : Vec Bounds Global) → task < n → length (slice_index_or found task default).items ≡ job_count sheet task
