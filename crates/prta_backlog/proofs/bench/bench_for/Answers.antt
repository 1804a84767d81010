-- Each curve has the cap's cells.
use Rattle.std.proofs.Common.{◌≡◌, length, ap, ◌∙◌}
use Rattle.prta_backlog.proofs.Chances.{size_point}
use Rattle.prta_backlog.proofs.bench.bench_for.Goals as goal

pub returns-clause-fits : goal.returns-clause-fits
returns-clause-fits g c =
    let main : length c.in_ok-main.main ≡ c.args.sheet.now.settings.cap = ap length c.in_ok-main.ensures ∙ size_point c.cap-cap.result 0 ∙ c.cap-cap.ensures in
    rw main at c.in_ok-bench.ensures.fits
