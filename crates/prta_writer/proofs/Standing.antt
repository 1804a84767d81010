-- How a job stands at the horizon: finished, at its finish, or left.
use Rattle.std.proofs.Common.{◌≡◌, ℕ, ◌<◌, true, false, ap, sym, arith, inl, inr}
use Rattle.std.proofs.lemmas.Bool.{cases_lt, eq-eqb}
use Rattle.prta_sheet.specs.Machine.{IsFinish}
use Rattle.prta_ticksim.specs.Times.{job_at}
use Rattle.prta_ticksim.specs.Machine.{MachineParts, start_of}
use Rattle.prta_report.specs.Trace.{left_after, standing_text, finished_text}
use Rattle.prta_report.specs.TraceLaws.{TraceTellsMisses}

-- a number that can't be positive
pub none_left : (left : ℕ) → (0 < left → true ≡ false) → left ≡ 0
none_left left some = elim (cases_lt 0 left) [ inl low ↦ (let e : true ≡ false = some low in cc) | inr high ↦ omega (arith, high) ]

pub finished : TraceTellsMisses → (machine : MachineParts) (i deadline n : ℕ) → IsFinish machine.order (start_of machine) (job_at machine.jobs i) n → left_after machine i machine.horizon ≡ 0 →
    standing_text machine deadline i ≡ finished_text deadline n
finished law machine i deadline n is none = rw (eq-eqb (left_after machine i machine.horizon) 0 none) (ap (finished_text deadline) (sym (law.only machine i none n is)))
