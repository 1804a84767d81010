use Rattle.std.proofs.Common.{◌≡◌, ◌<◌, ℕ, List, Bool, false, length, ap, sym, ◌∙◌, arith}
use Rattle.std.proofs.lemmas.Bool.{false≢true}
use Rattle.std.proofs.lemmas.List.FromFn.{length-map-range_with_len, get_or-map-range_with_len}
use Rattle.prta_sheet.specs.Sheet.{Sheet}
use Rattle.prta_session.specs.Kept.{is_marked}
use Rattle.prta_session.proofs.session.Session.new.Goals as goal

pub invariant_of-result : goal.invariant_of-result
invariant_of-result c =
    let sheet : Sheet = c.args.sheet in
    let n : ℕ = length sheet.tasks in
    let places = c.in_ok-found.ensures in
    record {
      marks = ap length c.in_ok-fresh.ensures ∙ length-map-range_with_len (λ (task : ℕ). false) 0 n;
      count = places.count;
      each = λ task d low.
          let within : task < n = omega (arith, low, places.count) in
          let stale : is_marked c.in_ok-fresh.fresh.items task ≡ false =
          ap (λ (fresh : List Bool). is_marked fresh task) c.in_ok-fresh.ensures ∙ get_or-map-range_with_len (λ (task : ℕ). false) 0 n task task false within (omega arith) in
          record { size = places.each task d within; numbers = λ e. absurd (false≢true (sym stale ∙ e)) };
    }
