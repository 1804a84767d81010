use Rattle.std.proofs.Common.{List, subst, refl}
use Rattle.prta_sheet.specs.Sheet.{Task}
use Rattle.prta_sheet.specs.Accepted.{IsAccepted}
use Rattle.prta_sheet.proofs.Accepts.{accepted}
use Rattle.prta_sheet.proofs.making.make_sheet.Goals as goal

pub of_parts-requires-clause-accepted : goal.of_parts-requires-clause-accepted
of_parts-requires-clause-accepted c =
    let Accepts : List Task → Type 0 = λ tasks. IsAccepted (record { settings = c.args.settings; tasks = tasks }) in
    subst Accepts c.deref.ensures.value (accepted c.faultless_pairs.ensures (record { settings = c.args.settings; tasks = c.deref.result.now }) (c.in-Ok.ensures.accepted refl))
