use Rattle.std.proofs.Common.{◌≡◌, ◌∙◌, length, vec_len, rules, sym}
use Rattle.prta_stair.proofs.Storing.{size_now, chances_now}
use Rattle.prta_stair.proofs.stair.StairCurve.cap.Goals as goal

pub returns-clause-cap : goal.returns-clause-cap
returns-clause-cap c =
    let size : vec_len c.self.inside.steps ≡ length c.self.inside.steps.items = search rules in
    c.len.ensures ∙ size ∙ sym (size_now c.self.inside.steps.items c.self.inside.spare.items c.self.inside.marks.items c.self.inside.count c.args.self.now c.self.invariant c.self.view_is)

pub returns-clause-chances : goal.returns-clause-chances
returns-clause-chances c = chances_now c.self.inside.steps.items c.self.inside.spare.items c.self.inside.marks.items c.self.inside.count c.args.self.now c.self.invariant c.self.view_is
