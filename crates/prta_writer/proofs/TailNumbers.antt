-- Tail numbers are at most the unit.
use Rattle.std.proofs.Common.{ℕ, zero, suc, ◌≤◌, List, arith}
use Rattle.prta_mass.specs.Unit.{unit}
use Rattle.prta_sheet.specs.Sheet.{Task}
use Rattle.prta_sheet.specs.Job.{Job}
use Rattle.prta_backlog.specs.Level.{Level}
use Rattle.prta_tail.specs.Tail.{least_steady}

-- the least of some numbers, each the unit less a cell
pub tail_low : (tasks : List Task) (level : Level) (cells : List ℕ) (job : Job) (turns : ℕ) → least_steady tasks level cells job turns ≤ unit
tail_low tasks level cells job zero = omega arith
tail_low tasks level cells job (suc j) = omega (arith, tail_low tasks level cells job j)
