-- Each curve has the cap's cells.
use Rattle.std.proofs.Common.{◌≡◌, length, ap, ◌∙◌}
use Rattle.prta_backlog.proofs.Chances.{size_point}
use Rattle.prta_writer.proofs.curves.bench_of_steps.Goals as goal

pub returns : goal.returns
returns c =
    let main : length c.in_ok-main.main ≡ c.args.sheet.now.settings.cap = ap length c.in_ok-main.ensures ∙ size_point c.cap-cap.result 0 ∙ c.cap-cap.ensures in
    rw main at c.in_ok-bench.ensures.fits
