use Rattle.std.proofs.Common.{◌≡◌, ℕ, ◌+◌, ◌-◌, min, length, ◌∙◌, ap}
use Rattle.std.specs.List.{slice_range}
use borrow.Rule.Slice.PartMut.{put_mid}
use Rattle.prta_dist.specs.Window.{window_end}
use Rattle.prta_dist.proofs.Windows.{added_in_place, rounded_in_place}
use Rattle.prta_preempt.proofs.window.add_to_tail.Goals as goal

pub returns-clause-tail : goal.returns-clause-tail
returns-clause-tail g c =
    let lo : ℕ = c.window_of-lo.result.0 in
    let hi : ℕ = c.window_of-lo.result.1 in
    let end : ℕ = c.at_most-end.result in
    let ended : end ≡ window_end c.args.table.now c.args.tail.now hi = c.at_most-end.ensures ∙ ap (λ n. min (hi + n) (length c.args.tail.now)) c.greatest.ensures.greatest in
    ap (put_mid lo (end - lo) c.args.tail.now)
    (c.copy_from_slice.ensures.after ∙ ap (λ xs. slice_range (put_mid lo (end - lo) c.args.room.now xs) lo end) c.convolve-rounded.ensures.cells)
    ∙ added_in_place c.args.dir c.args.table.now c.args.tail.now c.args.room.now lo hi end c.greatest.ensures.table c.window_of-lo.ensures c.requires.same ended

pub returns-clause-rounded : goal.returns-clause-rounded
returns-clause-rounded g c =
    let lo : ℕ = c.window_of-lo.result.0 in
    let hi : ℕ = c.window_of-lo.result.1 in
    let end : ℕ = c.at_most-end.result in
    let ended : end ≡ window_end c.args.table.now c.args.tail.now hi = c.at_most-end.ensures ∙ ap (λ n. min (hi + n) (length c.args.tail.now)) c.greatest.ensures.greatest in
    c.convolve-rounded.ensures.rounded ∙ rounded_in_place c.args.dir c.args.table.now c.args.tail.now lo hi end c.greatest.ensures.table c.window_of-lo.ensures ended
