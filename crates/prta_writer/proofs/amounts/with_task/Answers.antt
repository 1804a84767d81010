use Rattle.std.proofs.Common.{◌≡◌, ◌≤◌, List, length, take, ap, ap₂, ◌∙◌, arith}
use Rattle.prta_sheet.specs.declared.limits.TheConstants.{JOB_LIMIT}
use Rattle.prta_sheet.specs.Sheet.{Sheet}
use Rattle.prta_backlog.specs.Level.{sheet_level}
use Rattle.prta_dual.specs.declared.bounds.Bounds.{Bounds}
use Rattle.prta_dual.specs.Numbers.{all_bounds}
use Rattle.prta_writer.proofs.AddedUp.{amounts_more, found_sum, low_found}
use Rattle.prta_writer.proofs.Checks.{count_within, few_jobs}
use Rattle.prta_writer.proofs.RowsInTurn.{InTurn, count_found, low_bounds}
use Rattle.prta_writer.proofs.amounts.with_task.Given as given
use Rattle.prta_writer.proofs.amounts.with_task.Goals as goal
use Rattle.prta_writer.proofs.amounts.with_task.Goals.{After-entries}

numbers_are : (g : given.Over) (c : After-entries g) → take c.job_count.result c.deref.result.now ≡ all_bounds c.args.sheet.now (sheet_level c.args.task)
numbers_are g c = ap₂ (λ n (items : List Bounds). take n items) c.job_count.ensures c.deref.ensures.value ∙ c.analyse.ensures.numbers

few : (g : given.Over) (c : After-entries g) → length (take c.job_count.result c.deref.result.now) ≤ JOB_LIMIT
few g c =
    omega (arith, count_found c.args.sheet.now (sheet_level c.args.task) (take c.job_count.result c.deref.result.now) (numbers_are g c), few_jobs c.args.sheet.now c.args.task c.tasks-tasks.ensures.accepted)

pub analyse-requires-clause-jobs : goal.analyse-requires-clause-jobs
analyse-requires-clause-jobs g c = count_within c.args.sheet.now c.args.task _ c.requires.task c.requires.jobs

pub lower_sum-requires-clause-few : goal.lower_sum-requires-clause-few
lower_sum-requires-clause-few g c = few g (goal.at.lower_sum-requires-clause-few g c).After-entries

pub lower_sum-requires-clause-limit : goal.lower_sum-requires-clause-limit
lower_sum-requires-clause-limit g c =
    low_found (λ (bounds : Bounds). bounds.lower) c.args.sheet.now c.args.task _ (λ n. (low_bounds c.args.sheet.now (sheet_level c.args.task) n).0) (numbers_are g (goal.at.lower_sum-requires-clause-limit g c).After-entries)

pub upper_sum-requires-clause-few : goal.upper_sum-requires-clause-few
upper_sum-requires-clause-few g c = few g (goal.at.upper_sum-requires-clause-few g c).After-entries

pub upper_sum-requires-clause-limit : goal.upper_sum-requires-clause-limit
upper_sum-requires-clause-limit g c =
    low_found (λ (bounds : Bounds). bounds.upper) c.args.sheet.now c.args.task _ (λ n. (low_bounds c.args.sheet.now (sheet_level c.args.task) n).1) (numbers_are g (goal.at.upper_sum-requires-clause-limit g c).After-entries)

pub returns-clause-amounts : goal.returns-clause-amounts
returns-clause-amounts g c =
    let sheet : Sheet = c.args.sheet.now in
    let turn : InTurn sheet c.args.task = c.own_jobs_in_turn.ensures sheet c.args.task c.tasks-tasks.ensures.accepted c.requires.task in
    let numbers = numbers_are g (goal.at.returns-clause-amounts g c).After-entries in
    amounts_more sheet c.args.task c.args.before _ _ _ _ c.requires.before (ap length (c.entries.ensures ∙ c.analyse.ensures.noted)) c.certified-certified.ensures.number
    (c.lower_sum.ensures.sum ∙ found_sum (λ (bounds : Bounds). bounds.lower) sheet c.args.task _ turn numbers)
    (c.upper_sum.ensures.sum ∙ found_sum (λ (bounds : Bounds). bounds.upper) sheet c.args.task _ turn numbers)
