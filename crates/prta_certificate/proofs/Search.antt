-- The steps of the search for a certificate.
use Rattle.std.proofs.Common.{◌≡◌, ℕ, ◌+◌, ◌-◌, ◌≤◌, ◌<◌, Bool, true, false, nat_le, nat_lt, if◌then◌else◌, List, [], get_or, ap, ◌∙◌, arith, ⊎_elim}
use Rattle.std.proofs.lemmas.List.Sums.{position_or_len_is}
use Rattle.std.proofs.lemmas.Bool.{cases_lt, lt-ltb, le-ltb, le-leb, lt-leb, cond-true, cond-false}
use Rattle.prta_sheet.specs.Sheet.{Task, hyperperiod}
use Rattle.prta_backlog.specs.Level.{Level}
use Rattle.prta_backlog.specs.Greatest.{greatest_work, peak}
use Rattle.prta_certificate.specs.Certificate.{certifies}
use Rattle.prta_certificate.specs.Candidates.{image_of_point, lowered, slack, candidates, first_certifying, verdict_of}
use Rattle.prta_certificate.specs.declared.verdict.Verdict.{Verdict}
use Rattle.prta_certificate.specs.declared.verdict.Verdict.TheVariants.{Turn, Slack, OverFull, BeyondCap}
use Rattle.prta_certificate.specs.Search.{SearchDecides}
use Rattle.prta_certificate.proofs.Completeness.{count, image_candidate, lowered_candidate, last_certifies}

module _ (tasks : List Task) (level : Level) (cap turns : ℕ) where
  abbrev test : List ℕ → Bool
  test = certifies tasks level

  abbrev all : List (List ℕ)
  all = candidates tasks level cap turns

  -- the verdict where the place of the first candidate that certifies is i
  abbrev found : ℕ → Verdict
  found i = if nat_le i turns then Turn i else Slack (slack (i - (turns + 1)))

  over_full : hyperperiod tasks < greatest_work tasks level → verdict_of tasks level cap turns ≡ OverFull (greatest_work tasks level) (hyperperiod tasks)
  over_full over = cond-true (nat_lt (hyperperiod tasks) (greatest_work tasks level)) _ _ (lt-ltb (hyperperiod tasks) (greatest_work tasks level) over)

  beyond_cap : greatest_work tasks level ≤ hyperperiod tasks → cap ≤ peak tasks level → verdict_of tasks level cap turns ≡ BeyondCap (peak tasks level)
  beyond_cap fits over =
      cond-false (nat_lt (hyperperiod tasks) (greatest_work tasks level)) _ _ (le-ltb (hyperperiod tasks) (greatest_work tasks level) fits)
      ∙ cond-true (nat_le cap (peak tasks level)) _ _ (le-leb cap (peak tasks level) over)

  module _ (fits : greatest_work tasks level ≤ hyperperiod tasks) (below : peak tasks level < cap) where
    is_found : (i : ℕ) → first_certifying tasks level cap turns ≡ i → verdict_of tasks level cap turns ≡ found i
    is_found i first =
        cond-false (nat_lt (hyperperiod tasks) (greatest_work tasks level)) _ _ (le-ltb (hyperperiod tasks) (greatest_work tasks level) fits)
        ∙ cond-false (nat_le cap (peak tasks level)) _ _ (lt-leb cap (peak tasks level) below)
        ∙ ap found first

    is_turn : (j : ℕ) → j ≤ turns → ((i : ℕ) → i < j → test (image_of_point tasks level cap i) ≡ false) → test (image_of_point tasks level cap j) ≡ true →
        verdict_of tasks level cap turns ≡ Turn j
    is_turn j near before here =
        let first : first_certifying tasks level cap turns ≡ j =
        position_or_len_is test all j [] (omega (arith, count tasks level cap turns))
        (λ i l. ap test (image_candidate tasks level cap turns i (omega arith)) ∙ before i l)
        (λ l. ap test (image_candidate tasks level cap turns j near) ∙ here) in
        is_found j first ∙ cond-true (nat_le j turns) (Turn j) (Slack (slack (j - (turns + 1)))) (le-leb j turns near)

    is_slack : (n : ℕ) → n < 16 → ((i : ℕ) → i ≤ turns → test (image_of_point tasks level cap i) ≡ false) →
        ((i : ℕ) → i < n → test (lowered tasks level cap turns (slack i)) ≡ false) → test (lowered tasks level cap turns (slack n)) ≡ true →
        verdict_of tasks level cap turns ≡ Slack (slack n)
    is_slack n near images before here =
        let place : ℕ = turns + 1 + n in
        let lowered_fails : (k : ℕ) → k < n → test (get_or all (turns + 1 + k) []) ≡ false = λ k l. ap test (lowered_candidate tasks level cap turns k (omega arith)) ∙ before k l in
        let fails : (i : ℕ) → i < place → test (get_or all i []) ≡ false = λ i l. ⊎_elim
        (λ (p : i < turns + 1). ap test (image_candidate tasks level cap turns i (omega arith)) ∙ images i (omega arith))
        (λ (p : turns + 1 ≤ i).
        let same : i ≡ turns + 1 + (i - (turns + 1)) = omega arith in
        ap (λ k. test (get_or all k [])) same ∙ lowered_fails (i - (turns + 1)) (omega arith))
        (cases_lt i (turns + 1)) in
        let first : first_certifying tasks level cap turns ≡ place =
        position_or_len_is test all place [] (omega (arith, count tasks level cap turns)) fails (λ l. ap test (lowered_candidate tasks level cap turns n near) ∙ here) in
        let index : place - (turns + 1) ≡ n = omega arith in
        is_found place first
        ∙ cond-false (nat_le place turns) (Turn place) (Slack (slack (place - (turns + 1)))) (lt-leb place turns (omega arith))
        ∙ ap (λ i. Slack (slack i)) index

-- where the first n lists fail, and the next one does, one more fails
pub one_more_fails : (test : List ℕ → Bool) (list : ℕ → List ℕ) (n : ℕ) → ((i : ℕ) → i < n → test (list i) ≡ false) → test (list n) ≡ false →
    (i : ℕ) → i < n + 1 → test (list i) ≡ false
one_more_fails test list n before here i l = ⊎_elim
    (λ (m : i < n). before i m)
    (λ (m : n ≤ i). let e : i ≡ n = omega arith in ap (λ k. test (list k)) e ∙ here)
    (cases_lt i n)

pub search_decides : SearchDecides
search_decides = record {
  work = λ tasks level cap turns. (over_full tasks level cap turns, beyond_cap tasks level cap turns);
  image = λ tasks level cap turns j fits below. is_turn tasks level cap turns fits below j;
  slack = λ tasks level cap turns n fits below. is_slack tasks level cap turns fits below n;
  last = λ tasks level cap turns of fits below. last_certifies tasks level cap turns of fits below;
}
