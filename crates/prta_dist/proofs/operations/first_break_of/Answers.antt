use Rattle.std.proofs.Common.{length, arith, sym, ap, option_map}
use Rattle.prta_mass.proofs.Find.{find_none_in_range}
use Rattle.prta_dist.specs.Curve.{breaks_at, break_at}
use Rattle.prta_dist.proofs.Breaks.{break_found}
use Rattle.prta_dist.proofs.operations.first_break_of.Goals as goal

pub returns-then-image-k : goal.returns-then-image-k
returns-then-image-k c = break_found c.args.cells.now c.args.image.now c.loop-k.k c.requires c.loop-k-test.true c.if-image-k.true c.loop-k.invariant

pub returns : goal.returns
returns c = sym (ap (option_map (break_at c.args.cells.now c.args.image.now)) (find_none_in_range (breaks_at c.args.cells.now c.args.image.now) 0 (length c.args.cells.now) (λ k low high. c.loop-k.invariant k (omega arith))))
