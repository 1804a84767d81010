-- The slack of a task comes exactly where its cause is there, and what it says is so.
use Rattle.std.proofs.Common.{◌≡◌, ℕ, zero, suc, ◌+◌, ◌<◌, ◌≤◌, Bool, true, false, not, Option, Some, None, option_map, length, refl, ap, ap₂, sym, ◌∙◌, subst, arith, inl, inr, le_refl, le_trans}
use Rattle.std.proofs.lemmas.Bool.{cases_Bool, not-true, not-false, not_from_true, not_from_false}
use Rattle.prta_mass.proofs.Find.{find_in_range, find_none_in_range, fails_in_range}
use Rattle.prta_sheet.specs.Sheet.{Sheet}
use Rattle.prta_sheet.specs.Job.{Job, nth_job}
use Rattle.prta_sheet.specs.Accepted.{IsAccepted}
use Rattle.prta_sheet.specs.Added.{sheet_with_added, AddedSheets}
use Rattle.prta_backlog.specs.Level.{sheet_level}
use Rattle.prta_dual.specs.Numbers.{upper}
use Rattle.prta_dual.specs.Laws.{OwnJobsInTurn}
use Rattle.prta_dual.specs.Failing.{failing_job, failing}
use Rattle.prta_slack.specs.Passing.{sheet_passes, passes_with}
use Rattle.prta_slack.specs.Answer.{room_of, last_passing, slack_by, slack_of, IsCause, PassesUpTo, FailsAsItIs, Says}
use Rattle.prta_slack.specs.Laws.{HoldsWithAdded, AddedTicks, SlackHolds, SlacksHold}
use Rattle.prta_slack.specs.declared.answer.Slack.{Slack}
use Rattle.prta_slack.specs.declared.answer.Slack.TheVariants.{Fails, Ticks, All as Whole}
use Rattle.prta_slack.proofs.EachPasses.{IsFirstIn, first_in, IsFirstFailing, first_failing, with_upper, passes_by, none_fails}

slack_is : (sheet : Sheet) (task : ℕ) → slack_of sheet task ≡ slack_by (room_of sheet task) (failing sheet) (last_passing sheet task)
unfolding slack_of
slack_is sheet task = refl

-- nothing added is the sheet itself
pub nothing_added : AddedSheets → (sheet : Sheet) (task : ℕ) → IsAccepted sheet → task < length sheet.tasks → sheet_with_added sheet task 0 ≡ sheet
nothing_added added sheet task is low = (added sheet task 0 is low (omega arith)).none

module _ (added : AddedSheets) (ticks : AddedTicks) (turn : OwnJobsInTurn) (sheet : Sheet) (task : ℕ) (is : IsAccepted sheet) (low : task < length sheet.tasks) where
  abbrev room : ℕ
  room = room_of sheet task

  hold : HoldsWithAdded sheet task
  hold = ticks sheet task is low

  pub passes_with_none : sheet_passes sheet ≡ true → passes_with sheet task 0 ≡ true
  passes_with_none passes = ap sheet_passes (nothing_added added sheet task is low) ∙ passes

  -- where it passes with some number it passes as it is
  passes_itself : (s : ℕ) → s ≤ room → passes_with sheet task s ≡ true → sheet_passes sheet ≡ true
  passes_itself s fits passes = sym (ap sheet_passes (nothing_added added sheet task is low)) ∙ hold.smaller 0 s (omega arith) fits passes

  fails_next : ℕ → Bool
  fails_next s = not (passes_with sheet task (s + 1))

  -- ---- where a cause is there its answer comes

  comes : (slack : Slack) → IsCause sheet task slack → slack_of sheet task ≡ slack
  comes (Fails i k number) cause = slack_is sheet task ∙ ap (λ (found : Option (Job × ℕ)). slack_by room found (last_passing sheet task)) cause
  comes (Ticks s) last =
      slack_is sheet task
      ∙ ap₂ (slack_by room) (none_fails sheet (passes_itself s (omega (arith, last.below)) last.passes))
      (find_in_range (λ s. not (passes_with sheet task (s + 1))) 0 room s (omega arith) (omega (arith, last.below))
      (λ k from before. not_from_true (passes_with sheet task (k + 1)) (hold.smaller (k + 1) s (omega arith) (omega (arith, last.below)) last.passes))
      (not_from_false (passes_with sheet task (s + 1)) last.next))
  comes (Whole r) all =
      let passes : passes_with sheet task room ≡ true = ap (passes_with sheet task) (sym all.whole) ∙ all.passes in
      slack_is sheet task
      ∙ ap₂ (slack_by room) (none_fails sheet (passes_itself room (le_refl room) passes))
      (find_none_in_range (λ s. not (passes_with sheet task (s + 1))) 0 room
      (λ k from before. not_from_true (passes_with sheet task (k + 1)) (hold.smaller (k + 1) room (omega arith) (le_refl room) passes)))
      ∙ ap Whole (sym all.whole)

  -- ---- the cause is there

  passes_up : sheet_passes sheet ≡ true → (s : ℕ) → ((k : ℕ) → k < s → passes_with sheet task (k + 1) ≡ true) → passes_with sheet task s ≡ true
  passes_up passes zero h = passes_with_none passes
  passes_up passes (suc k) h = let next : suc k ≡ k + 1 = omega arith in ap (passes_with sheet task) next ∙ h k (omega arith)

  by_last : sheet_passes sheet ≡ true → (last : Option ℕ) → last_passing sheet task ≡ last → IsCause sheet task (slack_by room None last)
  by_last passes None e = record {
    whole = refl;
    passes = passes_up passes room (λ k before. not-false (passes_with sheet task (k + 1)) (fails_in_range (λ s. not (passes_with sheet task (s + 1))) 0 room k e (omega arith) (omega arith)));
  }
  by_last passes (Some s) e =
      let first : IsFirstIn (λ s. not (passes_with sheet task (s + 1))) 0 room s = first_in (λ s. not (passes_with sheet task (s + 1))) 0 room s e in
      record {
        below = omega (arith, first.below);
        passes = passes_up passes s (λ k before. not-false (passes_with sheet task (k + 1)) (first.none_before k (omega arith) before));
        next = not-true (passes_with sheet task (s + 1)) first.passes;
      }

  by_first : (first : Option Job) → failing_job sheet ≡ first → IsCause sheet task (slack_by room (option_map (with_upper sheet) first) (last_passing sheet task))
  by_first None e = by_last (passes_by sheet (ap (option_map (with_upper sheet)) e)) (last_passing sheet task) refl
  by_first (Some job) e =
      let first : IsFirstFailing turn sheet is job = first_failing turn sheet is job e in
      ap (option_map (with_upper sheet)) e ∙ ap (λ (j : Job). Some (j, upper sheet (sheet_level job.task) job)) first.numbered

  cause : IsCause sheet task (slack_of sheet task)
  cause = subst (IsCause sheet task) (sym (slack_is sheet task)) (by_first (failing_job sheet) refl)

  -- ---- what it says

  up_to : (s : ℕ) → s ≤ room → passes_with sheet task s ≡ true → PassesUpTo sheet task s
  up_to s fits passes = record {
    uppers = λ r le. hold.smaller r s le fits passes;
    chances = λ r le. hold.chances r (le_trans le fits) (hold.smaller r s le fits passes);
  }

  never : (found : Job × ℕ) → failing sheet ≡ Some found → (r : ℕ) → r ≤ room → passes_with sheet task r ≡ false
  never found e r fits = elim (cases_Bool (passes_with sheet task r)) [
    | inl passes ↦ let none : failing sheet ≡ None = none_fails sheet (passes_itself r fits passes) in let both : None ≡ Some found = sym none ∙ e in cc
    | inr fails ↦ fails
  ]

  failing_says : (i k number : ℕ) (first : Option Job) → failing_job sheet ≡ first → option_map (with_upper sheet) first ≡ Some (nth_job sheet.tasks i k, number) → FailsAsItIs sheet task i k number
  failing_says i k number None e same = cc
  failing_says i k number (Some job) e same =
      let found : with_upper sheet job ≡ (nth_job sheet.tasks i k, number) = cc in
      let is_job : job ≡ nth_job sheet.tasks i k = ap (λ (x : Job × ℕ). x.0) found in
      let first : IsFirstFailing turn sheet is (nth_job sheet.tasks i k) = first_failing turn sheet is (nth_job sheet.tasks i k) (e ∙ ap Some is_job) in
      record {
        analysed = first.analysed;
        number_is = sym (ap (λ (x : Job × ℕ). x.1) found) ∙ ap (λ (j : Job). upper sheet (sheet_level j.task) j) is_job;
        fails = first.fails_there;
        above_pass = first.above_pass;
        earlier_pass = first.earlier_pass;
        never = λ r from fits. never (with_upper sheet job) (ap (option_map (with_upper sheet)) e) r fits;
      }

  says : (slack : Slack) → IsCause sheet task slack → Says sheet task slack
  says (Fails i k number) cause = failing_says i k number (failing_job sheet) refl cause
  says (Ticks s) last = record {
    below = last.below;
    passes = up_to s (omega (arith, last.below)) last.passes;
    fails = λ r above fits. hold.greater (s + 1) r above fits last.next;
  }
  says (Whole r) all = record { whole = all.whole; passes = up_to r (omega (arith, all.whole)) all.passes }

  pub slack_holds : SlackHolds sheet task
  slack_holds = record {
    says = says (slack_of sheet task) cause;
    exactly = λ slack. (λ same. subst (IsCause sheet task) same cause, comes slack);
  }

pub slacks_hold : AddedSheets → AddedTicks → OwnJobsInTurn → SlacksHold
slacks_hold added ticks turn sheet task is low = slack_holds added ticks turn sheet task is low
