-- What the definitions of the trace say of the model's machine.
use Rattle.std.specs.Prelude.{◌≡◌, ℕ, ◌<◌, ◌≤◌, true, nat_lt, List, [], ◌∷◌}
use Rattle.prta_sheet.specs.Machine.{misses, IsFinish}
use Rattle.prta_ticksim.specs.declared.run.Run.{Run}
use Rattle.prta_ticksim.specs.Times.{job_at}
use Rattle.prta_ticksim.specs.Machine.{MachineParts, start_of}
use Rattle.prta_ticksim.specs.Run.{IsLongestRun}
use Rattle.prta_report.specs.Trace.{runs_of, left_after, finish_of}

-- runs from one time to another, one after the other and without a gap, each a longest stretch in which the same job runs, or none does
abbrev pub AreInTurn : MachineParts → ℕ → ℕ → List Run → Type 0
AreInTurn machine from to [] = from ≡ to
AreInTurn machine from to (run ∷ rest) = (run.from ≡ from) × IsLongestRun machine run × AreInTurn machine run.to to rest

pub record RunsAreLongest : Type 0 where
  -- the runs of a machine are such runs from 0 to the horizon, and no others are
  pub in_turn : (machine : MachineParts) → AreInTurn machine 0 machine.horizon (runs_of machine)
  pub only : (machine : MachineParts) (runs : List Run) → AreInTurn machine 0 machine.horizon runs → runs ≡ runs_of machine

pub record TraceTellsMisses : Type 0 where
  -- the finish that a line tells is the model's
  pub finish : (machine : MachineParts) (i : ℕ) → left_after machine i machine.horizon ≡ 0 →
      IsFinish machine.order (start_of machine) (job_at machine.jobs i) (finish_of machine i)
  pub only : (machine : MachineParts) (i : ℕ) → left_after machine i machine.horizon ≡ 0 →
      (n : ℕ) → IsFinish machine.order (start_of machine) (job_at machine.jobs i) n → n ≡ finish_of machine i
  -- a job that has finished by the horizon misses just where that finish is above its absolute deadline
  pub finished : (machine : MachineParts) (i : ℕ) → left_after machine i machine.horizon ≡ 0 →
      (deadline : ℕ) → misses machine.order (job_at machine.jobs i) deadline (start_of machine) ≡ nat_lt deadline (finish_of machine i)
  -- a job that is left at the horizon misses each absolute deadline up to there
  pub left : (machine : MachineParts) (i : ℕ) → 0 < left_after machine i machine.horizon →
      (deadline : ℕ) → deadline ≤ machine.horizon → misses machine.order (job_at machine.jobs i) deadline (start_of machine) ≡ true
