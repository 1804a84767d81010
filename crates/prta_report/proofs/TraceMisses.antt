-- The lines on jobs tell the model's misses.
use Rattle.std.proofs.Common.{◌≡◌, ℕ, ◌+◌, ◌≤◌, Bool, true, false, nat_eq, List, get_or, zero-add, ap, sym, ◌∙◌, arith, inl, inr}
use Rattle.std.specs.List.{range_with_len}
use Rattle.std.proofs.lemmas.Bool.{cases_lt, eq-eqb, eqb-true, eqb-false}
use Rattle.std.proofs.lemmas.List.FromFn.{length-range_with_len, get_or-range_with_len}
use Rattle.std.proofs.lemmas.List.Sums.{passes_at_first, fails_before_first}
use Rattle.prta_sheet.specs.Machine.{IsFinish}
use Rattle.prta_ticksim.specs.Times.{job_at}
use Rattle.prta_ticksim.specs.Machine.{MachineParts, start_of}
use Rattle.prta_ticksim.specs.Misses.{FinishesTellMisses}
use Rattle.prta_report.specs.Trace.{left_after, finish_of}
use Rattle.prta_report.specs.TraceLaws.{TraceTellsMisses}

module _ (machine : MachineParts) (i : ℕ) (done : left_after machine i machine.horizon ≡ 0) where
  abbrev is_done : ℕ → Bool
  is_done n = nat_eq (left_after machine i n) 0

  abbrev numbers : List ℕ
  numbers = range_with_len 0 (machine.horizon + 1)

  number : (n : ℕ) → n ≤ machine.horizon → get_or numbers n 0 ≡ n
  number n within = get_or-range_with_len 0 (machine.horizon + 1) n 0 (omega (arith, within)) ∙ zero-add n

  -- the search ends at the horizon at the latest
  within : finish_of machine i ≤ machine.horizon
  within =
      elim (cases_lt machine.horizon (finish_of machine i)) [
        | inl past ↦
            let here : is_done machine.horizon ≡ true = eq-eqb (left_after machine i machine.horizon) 0 done in
            let not_here : is_done machine.horizon ≡ false = ap is_done (sym (number machine.horizon (omega arith))) ∙ fails_before_first is_done numbers machine.horizon 0 past in
            (let both : true ≡ false = sym here ∙ not_here in cc)
        | inr low ↦ low
      ]

  -- so it finds the model's finish
  pub finish_is : IsFinish machine.order (start_of machine) (job_at machine.jobs i) (finish_of machine i)
  finish_is = record {
    done = eqb-true (left_after machine i (finish_of machine i)) 0
        (ap is_done (sym (number (finish_of machine i) within)) ∙ passes_at_first is_done numbers 0 (omega (arith, within, length-range_with_len 0 (machine.horizon + 1))));
    least = λ m before.
        let fails : is_done m ≡ false = ap is_done (sym (number m (omega (arith, before, within)))) ∙ fails_before_first is_done numbers m 0 before in
        elim (cases_lt 0 (left_after machine i m)) [ inl some ↦ some | inr none ↦ absurd (eqb-false (left_after machine i m) 0 fails (omega (arith, none))) ];
  }

pub trace_tells_misses : FinishesTellMisses → TraceTellsMisses
trace_tells_misses law = record {
  finish = finish_is;
  only = λ machine i done n is. law.one machine.order (start_of machine) (job_at machine.jobs i) n (finish_of machine i) is (finish_is machine i done);
  finished = λ machine i done deadline. law.finished machine.order (start_of machine) (job_at machine.jobs i) (finish_of machine i) (finish_is machine i done) deadline;
  left = λ machine i some deadline before. law.left machine.order (start_of machine) (job_at machine.jobs i) machine.horizon some deadline before;
}
