-- The worked values of the model, by computation.
use Rattle.std.proofs.Common.{◌≡◌, ℕ, zero, suc, ◌+◌, ◌<◌, ◌≤◌, Bool, true, nat_lt, List, [], ◌∷◌, replicate, refl, arith, inl, inr}
use Rattle.std.specs.List.{list_all, range_with_len}
use Rattle.std.proofs.lemmas.Bool.{and_parts, cases_lt}
use Rattle.std.proofs.lemmas.Bool.Decides.{nat_tests}
use Rattle.prta_sheet.specs.Job.{Job}
use Rattle.prta_sheet.specs.Assignment.{Timed}
use Rattle.prta_sheet.specs.Machine.{after, remaining, IsFinish}
use Rattle.prta_sheet.specs.Worked.{task_in_turn, WorkedValues}
use Rattle.prta_sheet.proofs.Multiples.{hyperperiod_of_one}

-- a test that passes on a range passes at each of its numbers
passes_in_range : (p : ℕ → Bool) (from n m : ℕ) → list_all p (range_with_len from n) ≡ true → from ≤ m → m < from + n → p m ≡ true
passes_in_range p from zero m h low high = absurd (omega arith)
passes_in_range p from (suc n) m h low high =
    let (here, later) = and_parts (p from) (list_all p (range_with_len (from + 1) n)) h in
    elim (cases_lt from m) [
      | inl past ↦ passes_in_range p (from + 1) n m later (omega arith) (omega arith)
      | inr now ↦ let same : m ≡ from = omega arith in rw same here
    ]

-- a finish, by running the machine up to it
finish : (order : List ℕ) (start : List Timed) (job : Job) (n : ℕ) → remaining job (after order start n) ≡ 0 →
    list_all (λ m. nat_lt 0 (remaining job (after order start m))) (range_with_len 0 n) ≡ true → IsFinish order start job n
finish order start job n done earlier = record {
  done = done;
  least = λ m low.
      let left = passes_in_range (λ m. nat_lt 0 (remaining job (after order start m))) 0 n m earlier (omega arith) (omega arith) in
      grind (arith, nat_tests);
}

pub values : WorkedValues
values = record {
  quarter = record { missed = refl; total = refl };
  tenth = record { missed = refl; total = refl };
  finish_at_the_deadline_alone = record { missed = refl; total = refl };
  eighth = record { missed = refl; total = refl };
  half = record { missed = refl; total = refl };
  finish_at_a_release = record { missed = refl; total = refl };
  finish_at_the_deadline = record { missed = refl; total = refl };
  hyperperiod_of_pair = refl;
  hyperperiod_of_three = refl;
  jobs_of_pair = refl;
  counts_of_pair = refl;
  all_jobs_of_pair = refl;
  work_of_pair = refl;
  hyperperiod_in_turn = refl;
  tables_in_turn = refl;
  jobs_in_turn = refl;
  first_in_turn = record { missed = refl; total = refl };
  later_in_turn = record { missed = refl; total = refl };
  work_in_turn = refl;
  long_in_turn = hyperperiod_of_one (task_in_turn 0 100000 1 (replicate 11 ((1, 1) ∷ []))) (omega arith);
  after_2 = refl;
  after_4 = refl;
  after_5 = refl;
  after_7 = refl;
  finish_of_first = finish _ _ _ 2 refl refl;
  finish_of_low = finish _ _ _ 7 refl refl;
  finish_of_second = finish _ _ _ 5 refl refl;
}
