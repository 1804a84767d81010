use Rattle.std.proofs.Common.{◌≡◌, ◌<◌, refl, [], ◌∷◌, IfSome, length, ap, subst, arith}
use Rattle.std.proofs.lemmas.List.{length-append}
use Rattle.std.proofs.lemmas.List.Elements.{All-push}
use Rattle.prta_ticksim.specs.declared.run.Run.{Run}
use Rattle.prta_ticksim.specs.Machine.{MachineParts}
use Rattle.prta_ticksim.specs.Run.{IsLongestRun}
use Rattle.prta_writer.proofs.Runs.{at_any_tick, one_more}
use Rattle.prta_writer.proofs.trace.all_runs.Goals as goal

-- the run is the first of those that were to come
pub loop-run-preserved : goal.loop-run-preserved
loop-run-preserved c =
    let machine : MachineParts = c.args.machine.now in
    let now = c.loop-run.machine.ticks in
    let before = c.loop-run.invariant in
    let run : Run = c.in-Some.run' in
    let moved = c.in-Some.ensures.moved in
    let longest : IsLongestRun machine run = at_any_tick machine run now (subst (λ (m : MachineParts). IsLongestRun m run) before.rest c.in-Some.ensures.run) in
    let job : IfSome run.who (λ i. i < length machine.jobs) = subst (λ (m : MachineParts). IfSome run.who (λ i. i < length m.jobs)) before.rest c.in-Some.ensures.job in
    let ticks : c.next_run.new.self.ticks ≡ run.to = ap (λ (m : MachineParts). m.ticks) moved in
    let pushed = c.in_ok-push.ensures.items in
    record {
      rest = rw (moved, before.rest) refl;
      within = omega (arith, ticks, longest.within);
      runs = rw (pushed, ticks) (one_more machine 0 now c.loop-run.runs.items run before.runs c.in-Some.ensures.from longest);
      jobs = rw pushed (All-push (λ (r : Run). IfSome r.who (λ i. i < length machine.jobs)) c.loop-run.runs.items run before.jobs job);
      few = omega (arith, ap length pushed, length-append c.loop-run.runs.items (run ∷ []), before.few, ticks, longest.some, c.in-Some.ensures.from);
    }
