use Rattle.std.proofs.Common.{◌∙◌, ap, sym, arith, length}
use Rattle.prta_times.proofs.WithWeight.{place, stands, place_within, inserted_at, grown_at}
use Rattle.prta_times.proofs.tally.add_to.Goals as goal

pub returns-then-stands_at-clause-added : goal.returns-then-stands_at-clause-added
returns-then-stands_at-clause-added c =
    let p = c.place_of-place.result in
    let items = c.args.points.now.items in
    grown_at c.args.time c.args.weight items p (c.place_of-place.ensures ∙ ap (place c.args.time) c.deref.ensures.value) c.index_mut.result.now c.index_mut.ensures.value
    (ap (stands c.args.time p) (sym c.deref-2.ensures.value) ∙ sym c.stands_at.ensures ∙ c.if-stands_at.true)

pub insert-requires : goal.insert-requires
insert-requires c =
    omega (arith, place_within c.args.time c.args.weight c.args.points.now.items c.place_of-place.result (c.place_of-place.ensures ∙ ap (place c.args.time) c.deref.ensures.value), c.deref.ensures.len, ap length c.deref.ensures.value)

pub returns-clause-added : goal.returns-clause-added
returns-clause-added c =
    let p = c.place_of-place.result in
    let items = c.args.points.now.items in
    c.in_ok-insert.ensures.items
    ∙ inserted_at c.args.time c.args.weight items p (c.place_of-place.ensures ∙ ap (place c.args.time) c.deref.ensures.value)
    (ap (stands c.args.time p) (sym c.deref-2.ensures.value) ∙ sym c.stands_at.ensures ∙ c.if-stands_at.false)
