-- The tests of the counts, one after the other, and what is left after the tables.
use Rattle.std.proofs.Common.{◌≡◌, ◌≢◌, ℕ, List, Option, Some, None, option_map, map, nat_lt, position, All, refl, ap, sym, ◌∙◌, inl, inr}
use Rattle.std.proofs.lemmas.Bool.{cases_lt, lt-ltb, le-ltb}
use Rattle.prta_mass.specs.Table.{Table, or_else, total}
use Rattle.prta_mass.specs.declared.table.TheConstants.{TOTAL_LIMIT}
use Rattle.prta_sheet.specs.declared.limits.TheConstants.{WORK_LIMIT}
use Rattle.prta_sheet.specs.declared.fault.SheetFault.{SheetFault}
use Rattle.prta_sheet.specs.declared.fault.SheetFault.TheVariants as sheet_fault
use Rattle.prta_sheet.specs.Sheet.{Task, Sheet}
use Rattle.prta_sheet.specs.Accepted.{IsAccepted}
use Rattle.prta_sheet.specs.Work.{work}
use Rattle.prta_sheet.specs.SheetConditions.{part_fault}
use Rattle.prta_sheet.proofs.FirstOf.{first_some, past_none, when_true, when_false}
use Rattle.prta_times.specs.declared.fault.CountsFault.{CountsFault}
use Rattle.prta_times.specs.declared.fault.CountsFault.TheVariants as fault
use Rattle.prta_times.specs.Counts.{Count, counted, unknown_task, too_many_points, total_too_large, too_much_work, counted_sheet, tables_fault}
use Rattle.prta_times.specs.declared.points.Points.{Points}
use Rattle.prta_times.specs.Parts.{IsInRange, CanAsk, AreTested}
use Rattle.prta_times.proofs.Kept.{position-same}
use Rattle.prta_times.proofs.Making.{Relies}
use Rattle.prta_times.proofs.OnlyWork.{none_left, work_left}

-- the first of the tallies that is too heavy is that of the first task whose weights sum to too much
pub first_heavy_is : (tasks : List Task) (counts : List Count) →
    position (λ table. nat_lt TOTAL_LIMIT (total table)) (map (λ task. counted task.name counts) tasks) ≡ total_too_large tasks counts
first_heavy_is tasks counts =
    position-same (λ (task : Task). counted task.name counts) (λ (table : Table). nat_lt TOTAL_LIMIT (total table)) (λ (task : Task). nat_lt TOTAL_LIMIT (total (counted task.name counts))) (λ task. refl) tasks

module _ (points : Points) (sheet : Sheet) (counts : List Count) where
  abbrev heavy_fault : Option CountsFault
  heavy_fault = option_map (λ i. fault.TotalTooLarge i) (total_too_large sheet.tasks counts)

  past_known : unknown_task sheet.tasks counts ≡ None → too_many_points points sheet.tasks counts ≡ None → tables_fault points sheet counts ≡ or_else heavy_fault (too_much_work (counted_sheet points sheet counts))
  past_known known few =
      past_none (option_map (λ n. fault.UnknownTask n) (unknown_task sheet.tasks counts)) _ (ap (option_map (λ n. fault.UnknownTask n)) known)
      ∙ past_none (option_map (λ i. fault.TooManyPoints i) (too_many_points points sheet.tasks counts)) _ (ap (option_map (λ i. fault.TooManyPoints i)) few)

  pub heavy_here : unknown_task sheet.tasks counts ≡ None → too_many_points points sheet.tasks counts ≡ None → (i : ℕ) → total_too_large sheet.tasks counts ≡ Some i → tables_fault points sheet counts ≡ Some (fault.TotalTooLarge i)
  heavy_here known few i e = past_known known few ∙ first_some heavy_fault _ _ (ap (option_map (λ i. fault.TotalTooLarge i)) e)

  module _ (relies : Relies) (asked : CanAsk points) (is : IsAccepted sheet) (in_range : All IsInRange counts) (are : AreTested points sheet counts) where
    abbrev new : Sheet
    new = counted_sheet points sheet counts

    past_heavy : tables_fault points sheet counts ≡ too_much_work new
    past_heavy = past_known are.known are.few ∙ past_none heavy_fault _ (ap (option_map (λ i. fault.TotalTooLarge i)) are.light)

    -- the fault of the new sheet, where it has one, is that of its work
    pub work_alone : (f : SheetFault) → part_fault new ≡ Some f → (f ≡ sheet_fault.TooMuchWork (work new)) × (tables_fault points sheet counts ≡ Some (fault.TooMuchWork (work new)))
    work_alone f e =
        elim (cases_lt WORK_LIMIT (work new)) [
          | inl much ↦
              let left : part_fault new ≡ Some (sheet_fault.TooMuchWork (work new)) = work_left relies points sheet counts asked is in_range are.few are.light much in
              (cc, past_heavy ∙ when_true _ _ (lt-ltb WORK_LIMIT (work new) much))
          | inr little ↦ let none : part_fault new ≡ None = none_left relies points sheet counts asked is in_range are.few are.light little in cc
        ]

    pub work_refused : (n : ℕ) → part_fault new ≡ Some (sheet_fault.TooMuchWork n) → tables_fault points sheet counts ≡ Some (fault.TooMuchWork n)
    work_refused n e =
        let (same, refused) = work_alone (sheet_fault.TooMuchWork n) e in
        let number : n ≡ work new = cc in
        refused ∙ ap (λ k. Some (fault.TooMuchWork k)) (sym number)

    -- without a fault its work is little
    pub none_refused : part_fault new ≡ None → tables_fault points sheet counts ≡ None
    none_refused e =
        elim (cases_lt WORK_LIMIT (work new)) [
          | inl much ↦ let left : part_fault new ≡ Some (sheet_fault.TooMuchWork (work new)) = work_left relies points sheet counts asked is in_range are.few are.light much in cc
          | inr little ↦ past_heavy ∙ when_false _ _ (le-ltb WORK_LIMIT (work new) little)
        ]

    -- a fault of another kind can't come
    pub no_other : (f : SheetFault) → part_fault new ≡ Some f → ((n : ℕ) → f ≢ sheet_fault.TooMuchWork n) → ⊥
    no_other f e other = other (work new) (work_alone f e).0
