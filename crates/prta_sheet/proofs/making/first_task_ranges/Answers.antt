use Rattle.std.proofs.Common.{◌≡◌, Some, None, length, ap, arith, sym, ◌∙◌, subst}
use Rattle.std.proofs.lemmas.List.{get_or_default}
use Rattle.prta_sheet.specs.Sheet.{task_at}
use Rattle.prta_sheet.specs.SheetConditions.{task_ranges}
use Rattle.prta_sheet.proofs.FirstOf.{first_of_range, none_of_range, below_next}
use Rattle.prta_sheet.proofs.Ranges.{All_from_places}
use Rattle.prta_sheet.proofs.Accepts.{TablesAreMade}
use Rattle.prta_sheet.proofs.making.first_task_ranges.Goals as goal

pub loop-i-preserved : goal.loop-i-preserved
loop-i-preserved c =
    let tasks = c.args.tasks.now in
    let i = c.loop-i.i in
    let read : c.index-tasks-i.result ≡ task_at tasks i = c.index-tasks-i.is ∙ get_or_default tasks i _ _ c.loop-i-test.true in
    let within : task_ranges i (task_at tasks i) ≡ None = ap (task_ranges i) (sym read) ∙ sym c.task_ranges.ensures.ranges ∙ c.in_default.is in
    record {
      ranges = below_next (λ k. task_ranges k (task_at tasks k) ≡ None) i c.loop-i.invariant.ranges within;
      tables = below_next (λ k. TablesAreMade (task_at tasks k)) i c.loop-i.invariant.tables (subst TablesAreMade read (c.task_ranges.ensures.tables c.in_default.is));
    }

pub returns-clause-ranges : goal.returns-clause-ranges
returns-clause-ranges c =
    let tasks = c.args.tasks.now in
    sym (none_of_range (λ i. task_ranges i (task_at tasks i)) 0 (length tasks) (λ k low high. c.loop-i.invariant.ranges k (omega arith)))

pub returns-clause-tables : goal.returns-clause-tables
returns-clause-tables c = λ none. All_from_places TablesAreMade c.args.tasks.now _ (λ k low. c.loop-i.invariant.tables k (omega arith))

pub returns-in-Some-clause-ranges : goal.returns-in-Some-clause-ranges
returns-in-Some-clause-ranges c =
    let tasks = c.args.tasks.now in
    let i = c.loop-i.i in
    let read : c.index-tasks-i.result ≡ task_at tasks i = c.index-tasks-i.is ∙ get_or_default tasks i _ _ c.loop-i-test.true in
    let out : task_ranges i (task_at tasks i) ≡ Some c.in-Some.fault = ap (task_ranges i) (sym read) ∙ sym c.task_ranges.ensures.ranges ∙ c.in-Some.is in
    sym (first_of_range (λ i. task_ranges i (task_at tasks i)) 0 (length tasks) i c.in-Some.fault (omega arith) (omega arith) (λ k low high. c.loop-i.invariant.ranges k high) out)
