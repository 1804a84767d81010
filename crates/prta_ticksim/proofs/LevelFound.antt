-- The finish by backlog, from the tasks of a level and from those above its own.
use Rattle.std.proofs.Common.{◌≡◌, ℕ, ◌+◌, ◌<◌, Bool, ◌||◌, nat_eq, nat_lt, nat_le, List, length, filter, ap, ap₂, ◌∙◌, arith, inl, inr}
use Rattle.std.proofs.lemmas.Bool.{cases_eq}
use Rattle.std.proofs.lemmas.Bool.Decides.{nat_tests}
use Rattle.std.proofs.lemmas.List.Elements.{filter_agree}
use Rattle.prta_sheet.specs.Job.{Job}
use Rattle.prta_sheet.specs.Assignment.{Timed}
use Rattle.prta_sheet.specs.Machine.{place}
use Rattle.prta_jobs.specs.Permutation.{is_above}
use Rattle.prta_jobs.specs.Backlog.{level_jobs, jobs_above, released_until, released_after, backlog_at, delayed, finish_by_backlog}
use Rattle.prta_ticksim.proofs.Places.{same_place}

-- a task is of the level of another where it is that one or stands above it
level_is : (order : List ℕ) (own task : ℕ) → place order own < length order → (nat_eq task own || nat_lt (place order task) (place order own)) ≡ nat_le (place order task) (place order own)
level_is order own task within =
    elim (cases_eq task own) [
      | inl same ↦ here (place order task) (place order own) task own same (ap (place order) same)
      | inr other ↦ apart (place order task) (place order own) task own other (λ e. other (same_place order task own within e))
    ]
  where
    here : (p q a b : ℕ) → a ≡ b → p ≡ q → (nat_eq a b || nat_lt p q) ≡ nat_le p q
    here p q a b same e = grind (arith, nat_tests)

    apart : (p q a b : ℕ) → (a ≡ b → ⊥) → (p ≡ q → ⊥) → (nat_eq a b || nat_lt p q) ≡ nat_le p q
    apart p q a b other f = grind (arith, nat_tests)

module _ (order : List ℕ) (start : List Timed) (job : Job) (within : place order job.task < length order) (above level : ℕ → Bool)
    (above_is : (task : ℕ) → above task ≡ is_above order job.task task) (with_own : (task : ℕ) → level task ≡ (nat_eq task job.task || above task)) where
  above_found : filter (λ e. above e.job.task) start ≡ jobs_above order job.task start
  above_found = filter_agree _ _ (λ e. above_is e.job.task) start

  level_found : filter (λ e. level e.job.task) start ≡ level_jobs order job.task start
  level_found = filter_agree _ _ (λ e. with_own e.job.task ∙ ap (λ b. nat_eq e.job.task job.task || b) (above_is e.job.task) ∙ level_is order job.task e.job.task within) start

  pub finish_found : (backlog ticks : ℕ) →
      backlog ≡ backlog_at 0 0 (released_until job.release (filter (λ e. level e.job.task) start)) job.release →
      ticks ≡ delayed job.release backlog (released_after job.release (filter (λ e. above e.job.task) start)) →
      job.release + ticks ≡ finish_by_backlog order start job
  finish_found backlog ticks first last =
      let risen : backlog ≡ backlog_at 0 0 (released_until job.release (level_jobs order job.task start)) job.release =
      first ∙ ap (λ (es : List Timed). backlog_at 0 0 (released_until job.release es) job.release) level_found in
      ap (λ n. job.release + n) (last ∙ ap₂ (λ (b : ℕ) (es : List Timed). delayed job.release b (released_after job.release es)) risen above_found)
