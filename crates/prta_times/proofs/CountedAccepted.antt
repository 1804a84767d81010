-- A file without a fault makes an accepted sheet of one that was.
use Rattle.std.proofs.Common.{◌≡◌, ℕ, ◌≤◌, None, List, option_map, nat_lt, length}
use Rattle.std.proofs.lemmas.Bool.{ltb-false}
use Rattle.prta_mass.specs.Table.{when}
use Rattle.prta_sheet.specs.declared.limits.TheConstants.{WORK_LIMIT}
use Rattle.prta_sheet.specs.Sheet.{Sheet}
use Rattle.prta_sheet.specs.Accepted.{IsAccepted}
use Rattle.prta_sheet.specs.Work.{work}
use Rattle.prta_sheet.proofs.FirstOf.{first_none, next_none, when_none, map_none}
use Rattle.prta_sheet.proofs.Accepts.{accepted}
use Rattle.prta_times.specs.declared.fault.CountsFault.TheVariants as fault
use Rattle.prta_times.specs.declared.limits.TheConstants.{COUNTS_LIMIT}
use Rattle.prta_times.specs.Counts.{Count, records_in, later_records, counts_in, unknown_task, too_many_points, total_too_large, too_much_work, counted_sheet, sheet_by, rows_fault, tables_fault, fault_by}
use Rattle.prta_times.specs.declared.points.Points.{Points}
use Rattle.prta_times.specs.Parts.{CanAsk}
use Rattle.prta_times.proofs.InRange.{are_in_range}
use Rattle.prta_times.proofs.Making.{Relies}
use Rattle.prta_times.proofs.OnlyWork.{none_left}

-- what is known of the counts of a file without a fault
pub record HasPassed (points : Points) (sheet : Sheet) (counts : List Count) : Type 0 where
  pub few : too_many_points points sheet.tasks counts ≡ None
  pub light : total_too_large sheet.tasks counts ≡ None
  pub limited : work (counted_sheet points sheet counts) ≤ WORK_LIMIT

pub has_passed : (points : Points) (sheet : Sheet) (bytes : List ℕ) → fault_by points sheet bytes ≡ None → HasPassed points sheet (counts_in bytes)
has_passed points sheet bytes h =
    let counts = counts_in bytes in
    let past_length = next_none (when (nat_lt COUNTS_LIMIT (length bytes)) fault.TooLong) _ h in
    let past_rows = next_none (rows_fault (records_in bytes)) (tables_fault points sheet counts) past_length in
    let past_unknown = next_none (option_map (λ n. fault.UnknownTask n) (unknown_task sheet.tasks counts)) _ past_rows in
    let many = option_map (λ i. fault.TooManyPoints i) (too_many_points points sheet.tasks counts) in
    let heavy = option_map (λ i. fault.TotalTooLarge i) (total_too_large sheet.tasks counts) in
    let past_many = next_none many _ past_unknown in
    let few = map_none (λ i. fault.TooManyPoints i) (too_many_points points sheet.tasks counts) (first_none many _ past_unknown) in
    let light = map_none (λ i. fault.TotalTooLarge i) (total_too_large sheet.tasks counts) (first_none heavy _ past_many) in
    let little = next_none heavy (too_much_work (counted_sheet points sheet counts)) past_many in
    let limited : work (counted_sheet points sheet counts) ≤ WORK_LIMIT = ltb-false _ _ (when_none _ (fault.TooMuchWork (work (counted_sheet points sheet counts))) little) in
    record { few = few; light = light; limited = limited }

pub counted_are_accepted : Relies → (points : Points) (sheet : Sheet) (bytes : List ℕ) → CanAsk points → IsAccepted sheet → fault_by points sheet bytes ≡ None → IsAccepted (sheet_by points sheet bytes)
counted_are_accepted relies points sheet bytes asked is h =
    let counts = counts_in bytes in
    let passed : HasPassed points sheet counts = has_passed points sheet bytes h in
    accepted relies.makes (counted_sheet points sheet counts) (none_left relies points sheet counts asked is (are_in_range (later_records (records_in bytes))) passed.few passed.light passed.limited)
