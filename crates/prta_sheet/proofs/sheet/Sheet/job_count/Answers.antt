use Rattle.std.proofs.Common.{◌≡◌, ◌/◌, get_or, ap, ap₂, sym, subst, ◌∙◌}
use Rattle.prta_sheet.specs.Sheet.{Task, Sheet}
use Rattle.prta_sheet.specs.Accepted.{IsAccepted}
use Rattle.prta_sheet.proofs.Whole.{job_count_is}
use Rattle.prta_sheet.proofs.sheet.Sheet.job_count.Goals as goal

pub returns : goal.returns
returns c =
    let accepted : IsAccepted c.args.self.now = subst IsAccepted c.self.view_is c.self.invariant.0 in
    let read : c.index.result.now ≡ get_or c.args.self.now.tasks c.args.task c.index.result.now = c.index.ensures ∙ ap (λ (sheet : Sheet). get_or sheet.tasks c.args.task c.index.result.now) c.self.view_is in
    ap₂ (λ a b. a / b) c.horizon.ensures (c.period.ensures ∙ ap (λ (task : Task). task.period) read)
    ∙ sym (job_count_is c.args.self.now accepted c.args.task c.requires c.index.result.now)
