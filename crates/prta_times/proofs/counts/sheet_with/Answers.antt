use Rattle.std.proofs.Common.{◌∙◌, nat_lt, position, ap, sym, refl}
use Rattle.prta_mass.specs.Table.{Table, total}
use Rattle.prta_mass.specs.declared.table.TheConstants.{TOTAL_LIMIT}
use Rattle.prta_times.specs.Counts.{unknown_task, too_many_points, total_too_large}
use Rattle.prta_times.proofs.Tested.{first_heavy_is, heavy_here}
use Rattle.prta_times.proofs.counts.sheet_with.Goals as goal

pub returns-in-Some-first_heavy-clause-refused : goal.returns-in-Some-first_heavy-clause-refused
returns-in-Some-first_heavy-clause-refused c = λ other.
    let counts = c.args.counts.now in
    let items = c.deref.ensures.value ∙ c.in_ok-tallies.ensures.tallies in
    heavy_here c.args.points c.args.sheet.now counts
    (ap (λ ts. unknown_task ts counts) (sym c.tasks.ensures.tasks) ∙ sym c.in_default.ensures)
    (ap (λ ts. too_many_points c.args.points ts counts) (sym c.tasks-2.ensures.tasks) ∙ c.in_ok-tallies.ensures.accepted refl)
    c.in-Some-first_heavy.i
    (ap (λ ts. total_too_large ts counts) (sym c.tasks-2.ensures.tasks) ∙ sym (first_heavy_is c.tasks-2.result.now counts) ∙ ap (position (λ (table : Table). nat_lt TOTAL_LIMIT (total table))) (sym items) ∙ sym c.in-Some-first_heavy.ensures)

pub tested_sheet-requires-clause-tested : goal.tested_sheet-requires-clause-tested
tested_sheet-requires-clause-tested c =
    let counts = c.args.counts.now in
    let items = c.deref.ensures.value ∙ c.in_ok-tallies.ensures.tallies in
    record {
      known = ap (λ ts. unknown_task ts counts) (sym c.tasks.ensures.tasks) ∙ sym c.in_default.ensures;
      few = ap (λ ts. too_many_points c.args.points ts counts) (sym c.tasks-2.ensures.tasks) ∙ c.in_ok-tallies.ensures.accepted refl;
      light = ap (λ ts. total_too_large ts counts) (sym c.tasks-2.ensures.tasks) ∙ sym (first_heavy_is c.tasks-2.result.now counts) ∙ ap (position (λ (table : Table). nat_lt TOTAL_LIMIT (total table))) (sym items) ∙ sym c.in_default-first_heavy.ensures;
    }
