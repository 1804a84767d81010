use Rattle.std.proofs.Common.{◌≡◌, ℕ, suc, ◌+◌, arith, List, ap, sym, ◌∙◌}
use Rattle.prta_sheet.specs.Sheet.{Task}
use Rattle.prta_backlog.specs.Level.{Level, sheet_level}
use Rattle.prta_certificate.specs.Certificate.{next_image, certifies}
use Rattle.prta_certificate.specs.Candidates.{image_of_point}
use Rattle.prta_certificate.proofs.Search.{one_more_fails}
use Rattle.prta_certificate.proofs.searching.first_image.Goals as goal

one_further : (tasks : List Task) (level : Level) (cap j : ℕ) → next_image tasks level (image_of_point tasks level cap j) ≡ image_of_point tasks level cap (j + 1)
one_further tasks level cap j = let e : suc j ≡ j + 1 = omega arith in ap (image_of_point tasks level cap) e

pub loop-turn-preserved : goal.loop-turn-preserved
loop-turn-preserved g c =
    let tasks : List Task = c.args.sheet.now.tasks in
    let level : Level = sheet_level c.args.task in
    record {
      fits = c.was_certified.ensures.fits;
      main = c.was_certified.ensures.main ∙ ap (next_image tasks level) c.loop-turn.invariant.main ∙ one_further tasks level c.args.sheet.now.settings.cap c.loop-turn.turn;
      fail = one_more_fails (certifies tasks level) (image_of_point tasks level c.args.sheet.now.settings.cap) c.loop-turn.turn c.loop-turn.invariant.fail
          (ap (certifies tasks level) (sym c.loop-turn.invariant.main) ∙ sym c.was_certified.ensures.test ∙ c.if-was_certified.false);
    }
