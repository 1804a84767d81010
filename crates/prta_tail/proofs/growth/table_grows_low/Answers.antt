-- The greatest time of a table decides.
use Rattle.std.proofs.Common.{◌+◌, ◌^◌, min, nat_le, ap, ◌∙◌}
use Rattle.prta_tail.specs.Walk.{grown}
use Rattle.prta_tail.proofs.Proper.{proper}
use Rattle.prta_tail.proofs.Growing.{greatest_decides}
use Rattle.prta_tail.proofs.growth.table_grows_low.Goals as goal

pub returns : goal.returns
returns c =
    ap (λ g. nat_le g (2 ^ 60)) (c.grow.ensures ∙ ap (λ n. min (grown c.args.ratio n) (2 ^ 60 + 1)) c.greatest.ensures.greatest)
    ∙ greatest_decides c.args.ratio (proper c.args.ratio c.requires.listed) c.args.table.now c.greatest.ensures.table
