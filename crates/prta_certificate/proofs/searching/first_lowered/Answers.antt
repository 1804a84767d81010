use Rattle.std.proofs.Common.{◌≡◌, ℕ, List, refl, ap, ap₂, sym, ◌∙◌}
use Rattle.prta_sheet.specs.Sheet.{Task}
use Rattle.prta_dist.specs.Curve.{lower}
use Rattle.prta_backlog.specs.Level.{Level, sheet_level}
use Rattle.prta_certificate.specs.Certificate.{certifies}
use Rattle.prta_certificate.specs.Candidates.{lowered, slack}
use Rattle.prta_certificate.proofs.Search.{one_more_fails}
use Rattle.prta_certificate.proofs.searching.first_lowered.Goals as goal

-- a list that is lowered on the spare curve is one of those that are tried
lowered_same : (s t top worst : ℕ) (cells other list : List ℕ) → list ≡ lower s top cells → s ≡ t → top ≡ worst → cells ≡ other → list ≡ lower t worst other
lowered_same s t top worst cells other list is slacks tops lists = is ∙ ap₂ (λ s top. lower s top cells) slacks tops ∙ ap (lower t worst) lists

pub loop-n-preserved : goal.loop-n-preserved
loop-n-preserved g c =
    let tasks : List Task = c.args.sheet.now.tasks in
    let level : Level = sheet_level c.args.task in
    let list : ℕ → List ℕ = λ i. lowered tasks level c.args.sheet.now.settings.cap c.args.sheet.now.settings.turns (slack i) in
    let main_is : g.C.Curve.cells c.lower_spare.new.bench.main ≡ list c.loop-n.n =
    lowered_same _ _ _ _ _ _ _ c.lower_spare.ensures.main c.slack_of-slack.ensures c.worst_of-worst.ensures (c.loop-n.invariant.spare ∙ c.requires.main) in
    let spare_stays : g.C.Curve.cells c.lower_spare.new.bench.spare ≡ g.C.Curve.cells c.loop-n.bench.spare = rw c.lower_spare.ensures.others refl in
    record {
      fits = c.is_certified.ensures.fits;
      spare = c.is_certified.ensures.spare ∙ spare_stays ∙ c.loop-n.invariant.spare;
      fail = one_more_fails (certifies tasks level) list c.loop-n.n c.loop-n.invariant.fail
          (ap (certifies tasks level) (sym main_is) ∙ sym c.is_certified.ensures.test ∙ c.if-is_certified.false);
    }
