-- What a verdict says is so.
use Rattle.std.proofs.Common.{◌≡◌, ℕ, ◌+◌, ◌-◌, ◌≤◌, ◌<◌, inl, inr, nat_le, nat_lt, if◌then◌else◌, List, [], length, get_or, refl, ap, sym, ◌∙◌, arith, true≢false}
use Rattle.std.proofs.lemmas.List.Sums.{passes_at_first, fails_before_first}
use Rattle.std.proofs.lemmas.Bool.{cond_both, leb-true, leb-false, ltb-true, ltb-false}
use Rattle.prta_sheet.specs.Sheet.{Task, hyperperiod}
use Rattle.prta_backlog.specs.Level.{Level}
use Rattle.prta_backlog.specs.Greatest.{greatest_work, peak}
use Rattle.prta_certificate.specs.Certificate.{Certifies, certifies}
use Rattle.prta_certificate.specs.Candidates.{image_of_point, lowered, slack, candidates, first_certifying}
use Rattle.prta_certificate.specs.declared.verdict.Verdict.{Verdict}
use Rattle.prta_certificate.specs.declared.verdict.Verdict.TheVariants.{Turn, Slack, OverFull, BeyondCap}
use Rattle.prta_certificate.specs.Verdict.{IsFirstImage, IsFirstLowered, Says, VerdictsSay}
use Rattle.prta_certificate.proofs.Certifying.{passes_from, certifies_is}
use Rattle.prta_certificate.proofs.Completeness.{count, image_candidate, lowered_candidate, candidates_certify, none_certifies}

module _ (tasks : List Task) (level : Level) (cap turns : ℕ) where
  abbrev all : List (List ℕ)
  all = candidates tasks level cap turns

  abbrev first : ℕ
  first = first_certifying tasks level cap turns

  -- no candidate before the first certifies
  not_before : (k : ℕ) (cells : List ℕ) → k < first → get_or all k [] ≡ cells → Certifies tasks level cells → ⊥
  not_before k cells before there is =
      true≢false (sym (passes_from tasks level cells is) ∙ ap (certifies tasks level) (sym there) ∙ fails_before_first (certifies tasks level) all k [] before)

  -- the first does
  it_does : (k : ℕ) (cells : List ℕ) → k ≡ first → k < length all → get_or all k [] ≡ cells → Certifies tasks level cells
  it_does k cells e within there =
      certifies_is tasks level cells
      (ap (certifies tasks level) (sym there) ∙ ap (λ i. certifies tasks level (get_or all i [])) e ∙ passes_at_first (certifies tasks level) all [] (omega arith))

  module _ (found : first < length all) where
    first_image : first ≤ turns → IsFirstImage tasks level cap turns first
    first_image near = record {
      tried = near;
      certified = it_does first (image_of_point tasks level cap first) refl found (image_candidate tasks level cap turns first near);
      first = λ i l. not_before i (image_of_point tasks level cap i) l (image_candidate tasks level cap turns i (omega arith));
    }

    first_lowered : turns < first → IsFirstLowered tasks level cap turns (slack (first - (turns + 1)))
    first_lowered far =
        let n : ℕ = first - (turns + 1) in
        let near : n < 16 = omega (arith, count tasks level cap turns) in
        let index : turns + 1 + n ≡ first = omega arith in
        record {
          place = n;
          tried = near;
          amount = refl;
          certified = it_does (turns + 1 + n) (lowered tasks level cap turns (slack n)) index (omega arith) (lowered_candidate tasks level cap turns n near);
          no_image = λ i l. not_before i (image_of_point tasks level cap i) (omega arith) (image_candidate tasks level cap turns i l);
          first = λ i l. not_before (turns + 1 + i) (lowered tasks level cap turns (slack i)) (omega arith) (lowered_candidate tasks level cap turns i (omega arith));
        }

pub verdicts_say : VerdictsSay
verdicts_say tasks level cap turns of =
    let work : ℕ = greatest_work tasks level in
    let total : ℕ = hyperperiod tasks in
    let most : ℕ = peak tasks level in
    let i : ℕ = first_certifying tasks level cap turns in
    let say : Verdict → Type 0 = Says tasks level cap turns in
    let turn_or_slack : Verdict = if nat_le i turns then Turn i else Slack (slack (i - (turns + 1))) in
    cond_both (nat_lt total work) (OverFull work total) (if nat_le cap most then BeyondCap most else turn_or_slack) say
    (λ e.
    let over : total < work = ltb-true total work e in
    record { greatest = refl; whole = refl; over = over; none = λ cells. none_certifies tasks level cap cells of (inl over) })
    (λ e.
    let fits : work ≤ total = ltb-false total work e in
    cond_both (nat_le cap most) (BeyondCap most) turn_or_slack say
    (λ e.
    let over : cap ≤ most = leb-true cap most e in
    record { fits = fits; greatest = refl; over = over; none = λ cells. none_certifies tasks level cap cells of (inr over) })
    (λ e.
    let found : i < length (candidates tasks level cap turns) = candidates_certify tasks level cap turns of fits (leb-false cap most e) in
    cond_both (nat_le i turns) (Turn i) (Slack (slack (i - (turns + 1)))) say
    (λ e. first_image tasks level cap turns found (leb-true i turns e))
    (λ e. first_lowered tasks level cap turns found (leb-false i turns e))))
