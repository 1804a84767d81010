-- Numbers that were found for a task's jobs of one hyperperiod, as lines.
use Rattle.std.specs.Prelude.{ℕ, List, length, flat_map, slice_index_or}
use Rattle.std.specs.List.{range_with_len}
use Rattle.prta_sheet.specs.Sheet.{Sheet}
use Rattle.prta_report.specs.Text.{steady_line}
use Rattle.prta_report.specs.Certificates.{name_of}

-- the lines of these numbers, for a task's jobs from the first on
abbrev pub number_lines : Sheet → ℕ → List ℕ → List ℕ
number_lines sheet i numbers = flat_map (λ k. steady_line (name_of sheet i) k (slice_index_or numbers k 0)) (range_with_len 0 (length numbers))
