-- A job has one finish, and misses where that is late.
use Rattle.std.proofs.Common.{◌≡◌, ℕ, ◌+◌, ◌-◌, ◌<◌, ◌≤◌, true, nat_lt, List, sym, ◌∙◌, subst, arith, inl, inr}
use Rattle.std.proofs.lemmas.Bool.{cases_lt, lt-ltb, le-ltb}
use Rattle.prta_sheet.specs.Job.{Job}
use Rattle.prta_sheet.specs.Assignment.{Timed}
use Rattle.prta_sheet.specs.Machine.{after, remaining, misses, IsFinish}
use Rattle.prta_ticksim.specs.Misses.{FinishesTellMisses}
use Rattle.prta_ticksim.proofs.Ticked.{remaining_later}

module _ (order : List ℕ) (job : Job) where
  pub one_finish : (start : List Timed) (n m : ℕ) → IsFinish order start job n → IsFinish order start job m → n ≡ m
  one_finish start n m a b =
      elim (cases_lt n m) [
        | inl before ↦ absurd (omega (arith, b.least n before, a.done))
        | inr from ↦ elim (cases_lt m n) [ inl after ↦ absurd (omega (arith, a.least m after, b.done)) | inr to ↦ omega arith ]
      ]

  pub misses_late : (start : List Timed) (deadline n : ℕ) → IsFinish order start job n → misses order job deadline start ≡ nat_lt deadline n
  misses_late start deadline n is =
      elim (cases_lt deadline n) [
        | inl late ↦ lt-ltb 0 (remaining job (after order start deadline)) (is.least deadline late) ∙ sym (lt-ltb deadline n late)
        | inr met ↦
            let split : (deadline - n) + n ≡ deadline = omega arith in
            let none : remaining job (after order start deadline) ≤ 0 =
            subst (λ k. remaining job (after order start k) ≤ 0) split (omega (arith, remaining_later order job start n (deadline - n), is.done)) in
            le-ltb 0 (remaining job (after order start deadline)) none ∙ sym (le-ltb deadline n met)
      ]

  -- time that is left later was left before
  misses_left : (start : List Timed) (n : ℕ) → 0 < remaining job (after order start n) → (deadline : ℕ) → deadline ≤ n → misses order job deadline start ≡ true
  misses_left start n some deadline before =
      let split : (n - deadline) + deadline ≡ n = omega arith in
      let later : remaining job (after order start n) ≤ remaining job (after order start deadline) =
      subst (λ k. remaining job (after order start k) ≤ remaining job (after order start deadline)) split (remaining_later order job start deadline (n - deadline)) in
      lt-ltb 0 (remaining job (after order start deadline)) (omega (arith, some, later))

pub finishes_tell_misses : FinishesTellMisses
finishes_tell_misses = record {
  one = λ order start job n m a b. one_finish order job start n m a b;
  finished = λ order start job n is deadline. misses_late order job start deadline n is;
  left = λ order start job n some deadline before. misses_left order job start n some deadline before;
}
