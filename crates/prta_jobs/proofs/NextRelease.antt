-- The first release from a time on is that of the job whose number is the count of the releases before.
use Rattle.std.proofs.Common.{◌≡◌, ℕ, ◌+◌, ◌-◌, ◌*◌, ◌/◌, ◌%◌, ◌<◌, ◌≤◌, true, false, nat_le, refl, ap, ◌∙◌, arith, inl, inr}
use Rattle.std.proofs.lemmas.Nat.{div-add-mod', mod-mul-add}
use Rattle.std.proofs.lemmas.Bool.{cases_lt, le-leb, lt-leb, ne_eqb}
use Rattle.std.proofs.Math.Nat.{mod-lt, mul-mod_left, zero-mod}
use Rattle.prta_sheet.specs.Sheet.{Task}
use Rattle.prta_sheet.specs.Counts.{releases}
use Rattle.prta_jobs.specs.Instant.{IsNextRelease}

-- up to the offset, it is the offset
early_next : (task : Task) (from at : ℕ) → from ≤ task.offset → at ≡ task.offset → IsNextRelease task from at
early_next task from at early e = record {
  reached = omega arith;
  release = let gone : at - task.offset ≡ 0 = omega arith in rw (le-leb task.offset at (omega arith), gone, zero-mod task.period) refl;
  least = λ t low high. rw (lt-leb task.offset t (omega arith)) refl;
}

-- after it, with r whole periods and m ticks from the offset to the tick before
late_next : (task : Task) (from at r m : ℕ) → task.offset < from → r * task.period + m ≡ from - task.offset - 1 → m < task.period → at ≡ task.offset + (r + 1) * task.period →
    IsNextRelease task from at
late_next task from at r m late split low e = record {
  reached = omega arith;
  release = let whole : at - task.offset ≡ (r + 1) * task.period = omega arith in rw (le-leb task.offset at (omega arith), whole, mul-mod_left (r + 1) task.period) refl;
  least = λ t after before.
      let inside : t - task.offset ≡ r * task.period + (t - task.offset - r * task.period) = omega arith in
      let rest : (t - task.offset) % task.period ≡ t - task.offset - r * task.period =
      ap (λ n. n % task.period) inside ∙ mod-mul-add r task.period (t - task.offset - r * task.period) (omega arith) in
      rw (le-leb task.offset t (omega arith), rest, ne_eqb (t - task.offset - r * task.period) 0 (λ none. omega arith)) refl;
}

pub next_release_is : (task : Task) (from at : ℕ) → 1 ≤ task.period → at ≡ task.offset + releases task from * task.period → IsNextRelease task from at
next_release_is task from at some e =
    elim (cases_lt task.offset from) [
      | inl late ↦
          let no : nat_le from task.offset ≡ false = lt-leb from task.offset late in
          let count : releases task from ≡ (from - task.offset - 1) / task.period + 1 = rw no refl in
          late_next task from at ((from - task.offset - 1) / task.period) ((from - task.offset - 1) % task.period) late
          (div-add-mod' (from - task.offset - 1) task.period) (mod-lt (from - task.offset - 1) (omega arith))
          (e ∙ ap (λ n. task.offset + n * task.period) count)
      | inr early ↦
          let yes : nat_le from task.offset ≡ true = le-leb from task.offset early in
          let count : releases task from ≡ 0 = rw yes refl in
          early_next task from at early (omega (arith, e, ap (λ n. task.offset + n * task.period) count))
    ]

-- it is no more than a period away
pub next_release_near : (task : Task) (from : ℕ) → task.offset < task.period → task.offset + releases task from * task.period < from + task.period
next_release_near task from early =
    elim (cases_lt task.offset from) [
      | inl late ↦
          let no : nat_le from task.offset ≡ false = lt-leb from task.offset late in
          let count : releases task from ≡ (from - task.offset - 1) / task.period + 1 = rw no refl in
          let split : (from - task.offset - 1) / task.period * task.period + (from - task.offset - 1) % task.period ≡ from - task.offset - 1 = div-add-mod' (from - task.offset - 1) task.period in
          rw count (omega arith)
      | inr soon ↦
          let yes : nat_le from task.offset ≡ true = le-leb from task.offset soon in
          let count : releases task from ≡ 0 = rw yes refl in
          rw count (omega arith)
    ]
