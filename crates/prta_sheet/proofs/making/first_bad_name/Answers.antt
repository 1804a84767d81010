use Rattle.std.proofs.Common.{◌≡◌, true, length, arith, sym, ◌∙◌}
use Rattle.prta_mass.specs.Table.{when}
use Rattle.prta_sheet.specs.SheetConditions.{is_bad_at}
use Rattle.prta_sheet.proofs.FirstOf.{first_of_range, none_below, when_true, when_false}
use Rattle.prta_sheet.proofs.making.first_bad_name.Goals as goal

pub returns-clause-first : goal.returns-clause-first
returns-clause-first c =
    let tasks = c.args.tasks.now in
    sym (none_below (λ i. when (is_bad_at tasks i) i) (length tasks) (λ k low. when_false (is_bad_at tasks k) k (c.loop-i.invariant k (omega arith))))

pub returns-then-is_bad_at-clause-first : goal.returns-then-is_bad_at-clause-first
returns-then-is_bad_at-clause-first c =
    let tasks = c.args.tasks.now in
    let i = c.loop-i.i in
    let bad : is_bad_at tasks i ≡ true = sym c.is_bad_at.ensures ∙ c.if-is_bad_at.true in
    sym (first_of_range (λ k. when (is_bad_at tasks k) k) 0 (length tasks) i i (omega arith) (omega arith) (λ k a b. when_false (is_bad_at tasks k) k (c.loop-i.invariant k b)) (when_true (is_bad_at tasks i) i bad))
