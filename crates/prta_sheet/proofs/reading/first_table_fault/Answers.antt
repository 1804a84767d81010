use Rattle.std.proofs.Common.{◌≡◌, option_map, map, length, ap, sym, ◌∙◌, arith, inl, inr}
use Rattle.std.proofs.lemmas.List.{length-map}
use Rattle.std.proofs.lemmas.Bool.{cases_lt}
use Rattle.prta_sheet.specs.declared.fault.SheetFault.TheVariants.{BadTable}
use Rattle.prta_sheet.specs.SheetConditions.{table_fault_at}
use Rattle.prta_sheet.proofs.FirstOf.{first_of_range, none_below}
use Rattle.prta_sheet.proofs.ReadItems.{task_read, task_at_map, fault_at}
use Rattle.prta_sheet.proofs.reading.first_table_fault.Goals as goal

pub returns-in-Some : goal.returns-in-Some
returns-in-Some c =
    let tasks = map task_read c.args.tables.now in
    let i = c.loop-i.i in
    let long = length-map c.args.tables.now task_read in
    let here = task_at_map task_read c.args.tables.now i c.index-tables-i.result c.loop-i-test.true c.index-tables-i.is in
    let fault = fault_at tasks i (task_read c.index-tables-i.result) (map (λ points. points.items) c.deref.result.now) c.first_shape_fault.result here (ap (map (λ points. points.items)) c.deref.ensures.value ∙ c.in_ok-cycle.ensures) c.first_shape_fault.ensures in
    sym (first_of_range (table_fault_at tasks) 0 (length tasks) i (BadTable i c.in-Some.fault) (omega arith) (omega (arith, long)) (λ k low high. c.loop-i.invariant k high) (fault ∙ ap (option_map (BadTable i)) c.in-Some.is))

pub loop-i-preserved : goal.loop-i-preserved
loop-i-preserved c = λ k low.
    let tasks = map task_read c.args.tables.now in
    let i = c.loop-i.i in
    let here = task_at_map task_read c.args.tables.now i c.index-tables-i.result c.loop-i-test.true c.index-tables-i.is in
    let fault = fault_at tasks i (task_read c.index-tables-i.result) (map (λ points. points.items) c.deref.result.now) c.first_shape_fault.result here (ap (map (λ points. points.items)) c.deref.ensures.value ∙ c.in_ok-cycle.ensures) c.first_shape_fault.ensures in
    elim (cases_lt k i) [
      | inl earlier ↦ c.loop-i.invariant k earlier
      | inr now ↦ let same : k ≡ i = omega arith in ap (table_fault_at tasks) same ∙ fault ∙ ap (option_map (BadTable i)) c.in_default.is
    ]

pub returns : goal.returns
returns c =
    let long = length-map c.args.tables.now task_read in
    sym (none_below (table_fault_at (map task_read c.args.tables.now)) (length (map task_read c.args.tables.now)) (λ k low. c.loop-i.invariant k (omega (arith, long))))
