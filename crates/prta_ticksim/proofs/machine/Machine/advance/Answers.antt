use Rattle.std.proofs.Common.{length, ap, sym, ◌∙◌}
use Rattle.std.proofs.lemmas.List.{with_items_is, length-set}
use Rattle.prta_ticksim.proofs.Kept.{idle_kept, idle_runs, served_parts, served_runs}
use Rattle.prta_ticksim.proofs.machine.Machine.advance.Goals as goal
use Rattle.prta_ticksim.proofs.machine.Machine.advance.Goals.{in-Some, in-None}

pub invariant_of-self : goal.invariant_of-self
invariant_of-self c =
    let event = rw c.list-2.ensures at c.next_event-event.ensures in
    let within = rw (← c.self.view_is) at c.requires.within in
    elim c.match-who.branch [
      | in-Some w ↦
          let first = rw (c.deref.ensures.value, c.list.ensures, c.deref-2.ensures.value, w.in-Some.is) at c.first_waiting-who.ensures in
          let left = rw w.deref_mut.ensures.value at w.serve-self-inside.ensures.left in
          let ends = rw w.deref_mut-in-Some.ensures.value at w.serve-self-inside.ensures.ends in
          rw (w.self-is, w.self-inside-is)
          (served_parts _ _ _ _ _ _ _ c.self.invariant w.in-Some.i first c.args.t _ _ event within (rw w.deref_mut.ensures.value at w.serve-self-inside.ensures.time) _ _
          (with_items_is c.self.inside.left _ (ap length left ∙ length-set _ _ _ ∙ sym c.self.inside.left.ok.0) ∙ left)
          (with_items_is c.self.inside.ends _ (ap length ends ∙ length-set _ _ _ ∙ sym c.self.inside.ends.ok.0) ∙ ends))
      | in-None w ↦
          let none = rw (c.deref.ensures.value, c.list.ensures, c.deref-2.ensures.value, w.in-None.is) at c.first_waiting-who.ensures in
          rw (w.self-is, w.self-inside-is) (idle_kept _ _ _ _ _ _ _ c.self.invariant none c.args.t _ event within)
    ]

pub returns-clause-same : goal.returns-clause-same
returns-clause-same c =
    let event = rw c.list-2.ensures at c.next_event-event.ensures in
    let within = rw (← c.self.view_is) at c.requires.within in
    rw (← c.self.view_is) (λ n low high. elim c.match-who.branch [
      | in-Some w ↦
          let first = rw (c.deref.ensures.value, c.list.ensures, c.deref-2.ensures.value, w.in-Some.is) at c.first_waiting-who.ensures in
          rw w.who-is
          (served_runs _ _ _ _ _ _ _ c.self.invariant w.in-Some.i first c.args.t _ _ event within (rw w.deref_mut.ensures.value at w.serve-self-inside.ensures.time) n low (rw w.self-is at high))
      | in-None w ↦
          let none = rw (c.deref.ensures.value, c.list.ensures, c.deref-2.ensures.value, w.in-None.is) at c.first_waiting-who.ensures in
          rw (w.who-is, w.in-None.is) (idle_runs _ _ _ _ _ _ _ c.self.invariant none c.args.t _ event within n low (rw w.self-is at high))
    ])
