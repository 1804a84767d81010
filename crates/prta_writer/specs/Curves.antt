-- The curves of an analysis: their kind by the sheet's support, and whether they are enough for a cap.
use Rattle.std.specs.Prelude.{ℕ, Bool, true, false, nat_le, if◌then◌else◌, Option, Some, None, count_by, length, vec_len}
use Rattle.std.specs.List.{range_with_len}
use Rattle.prta_mass.specs.declared.support.Support.{Support}
use Rattle.prta_mass.specs.Support.{is_support}
use Rattle.prta_sheet.specs.Sheet.{Sheet}
use Rattle.prta_backlog.specs.Fitting.{FitsCap}
use Rattle.prta_writer.specs.declared.curves.TheConstants.{FEW_POINTS}
use Rattle.prta_writer.specs.declared.curves.Kind.{Kind}
use Rattle.prta_writer.specs.declared.curves.Kind.TheVariants as kind
use Rattle.prta_writer.specs.declared.curves.Curves.{Curves}
use Rattle.prta_writer.specs.declared.curves.Curves.TheVariants.{Cells, Steps}

-- a support has few points below a cap
abbrev pub has_few_points : Support → ℕ → Bool
has_few_points support cap = nat_le (count_by (is_support support cap) (range_with_len 0 cap)) FEW_POINTS

-- steps where there is a support with few points, else cells
abbrev pub kind_at : ℕ → Option Support → Kind
kind_at cap None = kind.Cells
kind_at cap (Some support) = if has_few_points support cap then kind.Steps else kind.Cells

abbrev pub kind_for : Sheet → Kind
kind_for sheet = kind_at sheet.settings.cap sheet.settings.support

-- two kinds are one
abbrev pub is_same : Kind → Kind → Bool
is_same kind.Cells kind.Cells = true
is_same kind.Steps kind.Steps = true
is_same a b = false

abbrev pub kind_of : Curves → Kind
kind_of (Cells bench) = kind.Cells
kind_of (Steps bench) = kind.Steps

-- the cells of the lists
abbrev pub cap_of : Curves → ℕ
cap_of (Cells bench) = length bench.main
cap_of (Steps bench) = length bench.main

-- the curves and the work lists have as many cells as a cap
abbrev pub FitsCurves : ℕ → Curves → Type 0
FitsCurves cap (Cells bench) = FitsCap cap bench.main bench.spare bench.kept (vec_len bench.cells) (vec_len bench.tail) (vec_len bench.room)
FitsCurves cap (Steps bench) = FitsCap cap bench.main bench.spare bench.kept (vec_len bench.cells) (vec_len bench.tail) (vec_len bench.room)
