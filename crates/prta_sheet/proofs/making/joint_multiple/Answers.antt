use Rattle.std.proofs.Common.{◌<◌, sym, subst, arith}
use Rattle.prta_sheet.specs.declared.limits.TheConstants.{PERIOD_LIMIT}
use Rattle.prta_sheet.proofs.Multiples.{multiple_at, never_past, second_within}
use Rattle.prta_sheet.proofs.making.joint_multiple.Goals as goal

pub returns-then-n-clause-found : goal.returns-then-n-clause-found
returns-then-n-clause-found c = sym (multiple_at c.args.a c.args.b c.loop-k.k (omega arith) c.loop-k.invariant c.if-n-b-eq0.true)

pub returns-else-n-clause-above : goal.returns-else-n-clause-above
returns-else-n-clause-above c = λ none. subst (λ n. PERIOD_LIMIT < n) (sym (multiple_at c.args.a c.args.b c.loop-k.k (omega arith) c.loop-k.invariant c.if-n-b-eq0.true)) c.if-n.false

pub returns-clause-above : goal.returns-clause-above
returns-clause-above c = λ none. absurd (never_past c.args.a c.args.b (omega arith) (λ j low. c.loop-k.invariant j (omega arith)))

pub returns-then-b-clause-above : goal.returns-then-b-clause-above
returns-then-b-clause-above c = λ none. omega (arith, c.if-b.true, second_within c.args.a c.args.b c.requires.start c.requires.some)
