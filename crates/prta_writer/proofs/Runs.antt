-- One run more of those that follow one another.
use Rattle.std.proofs.Common.{◌≡◌, ℕ, List, [], ◌∷◌, ◌++◌, refl, sym, ◌∙◌}
use Rattle.prta_ticksim.specs.declared.run.Run.{Run}
use Rattle.prta_ticksim.specs.Machine.{MachineParts}
use Rattle.prta_ticksim.specs.Run.{IsLongestRun}
use Rattle.prta_report.specs.TraceLaws.{AreInTurn}

module _ (machine : MachineParts) where
  -- what runs when doesn't depend on the ticks that were made
  pub at_any_tick : (run : Run) (n : ℕ) → IsLongestRun (record machine { ticks = n }) run → IsLongestRun machine run
  at_any_tick run n is = record { some = is.some; within = is.within; same = is.same; longest = is.longest }

  pub one_more : (from to : ℕ) (runs : List Run) (run : Run) → AreInTurn machine from to runs → run.from ≡ to → IsLongestRun machine run → AreInTurn machine from run.to (runs ++ run ∷ [])
  one_more from to [] run before at is = (at ∙ sym before, is, refl)
  one_more from to (first ∷ rest) run before at is = (before.0, before.1, one_more first.to to rest run before.2 at is)
