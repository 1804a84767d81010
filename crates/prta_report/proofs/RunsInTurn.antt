-- The runs of a machine are its longest stretches, in turn.
use Rattle.std.proofs.Common.{◌≡◌, ℕ, zero, suc, ◌+◌, ◌<◌, ◌≤◌, Bool, true, false, cond, nat_eq, Option, Some, None, List, [], ◌∷◌, refl, ap, ap₂, sym, subst, ◌∙◌, arith, inl, inr}
use Rattle.std.specs.Option.{option_eq}
use Rattle.std.proofs.lemmas.Bool.{cases_lt, eq-eqb, eqb-true}
use Rattle.prta_ticksim.specs.declared.run.Run.{Run}
use Rattle.prta_ticksim.specs.Machine.{MachineParts, running}
use Rattle.prta_ticksim.specs.Run.{IsLongestRun}
use Rattle.prta_report.specs.Trace.{joined, runs_from}
use Rattle.prta_report.specs.TraceLaws.{AreInTurn, RunsAreLongest}

-- one job twice, or none twice
same_self : (a : Option ℕ) → option_eq nat_eq a a ≡ true
same_self None = refl
same_self (Some i) = eq-eqb i i refl

same_is : (a b : Option ℕ) → option_eq nat_eq a b ≡ true → a ≡ b
same_is None None e = refl
same_is None (Some j) e = cc
same_is (Some i) None e = cc
same_is (Some i) (Some j) e = ap Some (eqb-true i j e)

module _ (machine : MachineParts) where
  -- ---- the runs are in turn

  abbrev tick_run : ℕ → Run
  tick_run t = record { from = t; to = t + 1; who = running machine t }

  in_tick : (t s : ℕ) → t ≤ s → s < t + 1 → running machine s ≡ running machine t
  in_tick t s low high = let same : s ≡ t = omega arith in ap (running machine) same

  joined_in_turn : (t : ℕ) (rest : List Run) → t < machine.horizon → AreInTurn machine (t + 1) machine.horizon rest → AreInTurn machine t machine.horizon (joined (tick_run t) rest)
  joined_in_turn t [] before is =
      (refl, record { some = omega arith; within = omega (arith, is); same = in_tick t; longest = λ less. absurd (omega (arith, less, is)) }, is)
  joined_in_turn t (next ∷ rest) before is = by_flag (option_eq nat_eq (running machine t) next.who) refl
    where
      by_flag : (f : Bool) → option_eq nat_eq (running machine t) next.who ≡ f → AreInTurn machine t machine.horizon (cond f (record { from = t; to = next.to; who = running machine t } ∷ rest) (tick_run t ∷ next ∷ rest))
      by_flag true e =
          let who : running machine t ≡ next.who = same_is (running machine t) next.who e in (
            refl,
            record {
              some = omega (arith, is.0, is.1.some);
              within = is.1.within;
              same = λ s low high. elim (cases_lt t s) [ inl later ↦ is.1.same s (omega (arith, is.0, later)) high ∙ sym who | inr now ↦ in_tick t s low (omega (arith, now)) ];
              longest = λ less here. is.1.longest less (here ∙ who);
            },
            is.2,
          )
      by_flag false e =
          let next_is : running machine (t + 1) ≡ next.who = is.1.same (t + 1) (omega (arith, is.0)) (omega (arith, is.0, is.1.some)) in (
            refl,
            record {
              some = omega arith;
              within = omega (arith, is.0, is.1.some, is.1.within);
              same = in_tick t;
              longest = λ less here. (let both : true ≡ false = sym (same_self next.who) ∙ ap (λ w. option_eq nat_eq w next.who) (sym next_is ∙ here) ∙ e in cc);
            },
            is,
          )

  runs_in_turn : (n t : ℕ) → t + n ≡ machine.horizon → AreInTurn machine t machine.horizon (runs_from machine t n)
  runs_in_turn zero t end = omega (arith, end)
  runs_in_turn (suc n) t end = joined_in_turn t (runs_from machine (t + 1) n) (omega (arith, end)) (runs_in_turn n (t + 1) (omega (arith, end)))

  -- ---- no others are

  not_back : (from to : ℕ) (runs : List Run) → AreInTurn machine from to runs → from ≤ to
  not_back from to [] is = omega (arith, is)
  not_back from to (run ∷ rest) is = omega (arith, is.0, is.1.some, not_back run.to to rest is.2)

  -- of two longest runs from one time on none is shorter
  not_shorter : (x y : Run) → x.from ≡ y.from → IsLongestRun machine x → IsLongestRun machine y → x.to < y.to → ⊥
  not_shorter x y from is_x is_y less =
      is_x.longest (omega (arith, less, is_y.within))
      (is_y.same x.to (omega (arith, from, is_x.some)) less ∙ sym (is_y.same x.from (omega (arith, from)) (omega (arith, is_x.some, less))) ∙ is_x.same x.from (omega arith) is_x.some)

  one_longest : (x y : Run) → x.from ≡ y.from → IsLongestRun machine x → IsLongestRun machine y → x ≡ y
  one_longest x y from is_x is_y =
      let to : x.to ≡ y.to = elim (cases_lt x.to y.to) [
        | inl less ↦ absurd (not_shorter x y from is_x is_y less)
        | inr more ↦ elim (cases_lt y.to x.to) [ inl less ↦ absurd (not_shorter y x (sym from) is_y is_x less) | inr same ↦ omega (arith, more, same) ]
      ] in
      let who : x.who ≡ y.who = sym (is_x.same x.from (omega arith) is_x.some) ∙ is_y.same x.from (omega (arith, from)) (omega (arith, from, is_y.some)) in
      ap₂ (λ f t. record { from = f; to = t; who = x.who }) from to ∙ ap (λ w. record { from = y.from; to = y.to; who = w }) who

  same_runs : (from to : ℕ) (xs ys : List Run) → AreInTurn machine from to xs → AreInTurn machine from to ys → xs ≡ ys
  same_runs from to [] [] p q = refl
  same_runs from to [] (y ∷ ys) p q = absurd (omega (arith, p, q.0, q.1.some, not_back y.to to ys q.2))
  same_runs from to (x ∷ xs) [] p q = absurd (omega (arith, q, p.0, p.1.some, not_back x.to to xs p.2))
  same_runs from to (x ∷ xs) (y ∷ ys) p q =
      let here : x ≡ y = one_longest x y (p.0 ∙ sym q.0) p.1 q.1 in
      ap₂ (λ run rest. run ∷ rest) here (same_runs y.to to xs ys (subst (λ (r : Run). AreInTurn machine r.to to xs) here p.2) q.2)

pub runs_are_longest : RunsAreLongest
runs_are_longest = record {
  in_turn = λ machine. runs_in_turn machine machine.horizon 0 (omega arith);
  only = λ machine runs is. same_runs machine 0 machine.horizon runs (runs_from machine 0 machine.horizon) is (runs_in_turn machine machine.horizon 0 (omega arith));
}
