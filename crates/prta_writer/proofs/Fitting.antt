-- Rooms that are enough for a sheet.
use Rattle.std.proofs.Common.{◌≡◌, ℕ, ◌≤◌, ◌&&◌, Bool, true, nat_eq, nat_le, if◌then◌else◌, Option, Some, refl, ap, sym, ◌∙◌}
use Rattle.std.proofs.lemmas.Bool.{and_from, eq-eqb, le-leb}
use Rattle.prta_mass.specs.declared.support.Support.{Support}
use Rattle.prta_sheet.specs.Sheet.{Sheet}
use Rattle.prta_backlog.specs.Room.{room_for}
use Rattle.prta_writer.specs.Curves.{has_few_points, kind_at, kind_for, is_same, cap_of, FitsCurves}
use Rattle.prta_writer.specs.Report.{RoomParts, fits, most_jobs}
use Rattle.prta_writer.specs.declared.curves.Kind.{Kind}
use Rattle.prta_writer.specs.declared.curves.Kind.TheVariants.{Cells, Steps}
use Rattle.prta_writer.specs.declared.curves.Curves.{Curves}
use Rattle.prta_writer.specs.declared.curves.Curves.TheVariants as curves

same_kind : (a b : Kind) → a ≡ b → is_same a b ≡ true
same_kind Cells Cells e = refl
same_kind Cells Steps e = cc
same_kind Steps Cells e = cc
same_kind Steps Steps e = refl

pub fits_from : (sheet : Sheet) (room : RoomParts) → room.cap ≡ sheet.settings.cap → room.kind ≡ kind_for sheet → room_for sheet ≤ room.entries → most_jobs sheet ≤ room.jobs → fits sheet room ≡ true
fits_from sheet room cap kind entries jobs =
    and_from (nat_eq room.cap sheet.settings.cap) (is_same room.kind (kind_for sheet) && (nat_le (room_for sheet) room.entries && nat_le (most_jobs sheet) room.jobs)) (eq-eqb room.cap sheet.settings.cap cap)
    (and_from (is_same room.kind (kind_for sheet)) (nat_le (room_for sheet) room.entries && nat_le (most_jobs sheet) room.jobs) (same_kind room.kind (kind_for sheet) kind)
    (and_from (nat_le (room_for sheet) room.entries) (nat_le (most_jobs sheet) room.jobs) (le-leb (room_for sheet) room.entries entries) (le-leb (most_jobs sheet) room.jobs jobs)))

-- the kind for a support that a sheet asks for
pub kind_few : (cap : ℕ) (asked : Option Support) (support : Support) (few : Bool) → asked ≡ Some support → few ≡ has_few_points support cap → kind_at cap asked ≡ if few then Steps else Cells
kind_few cap asked support few e h = ap (kind_at cap) e ∙ ap (λ (b : Bool). if b then Steps else Cells) (sym h)

-- curves that fit a cap have it
pub cap_is : (cap : ℕ) (all : Curves) → FitsCurves cap all → cap_of all ≡ cap
cap_is cap (curves.Cells bench) fits = fits.main_is
cap_is cap (curves.Steps bench) fits = fits.main_is
