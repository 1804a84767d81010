-- Entries over a stretch of times without a release of the level, and where an analysis ends.
use Rattle.std.proofs.Common.{◌≡◌, ℕ, zero, suc, ◌+◌, ◌-◌, ◌*◌, ◌/◌, ◌<◌, ◌≤◌, zero-add, suc-add, true, cond, nat_le, nat_eq, List, [], ◌++◌, length, length-append, append-nil, ap, ap₂, sym, ◌∙◌, arith, inl, inr, mul-le-mul_right}
use Rattle.std.specs.List.{flat_map}
use Rattle.std.proofs.Math.Nat.{mul-div_cancel}
use Rattle.std.proofs.lemmas.Bool.{cases_lt, cond-true, cond-false, eq-eqb, ne_eqb, le-leb, lt-leb}
use Rattle.std.proofs.lemmas.List.{nil_from_length}
use Rattle.prta_mass.specs.Chances.{point}
use Rattle.prta_mass.specs.declared.direction.Dir.{Dir}
use Rattle.prta_sheet.specs.Sheet.{Task, Sheet}
use Rattle.prta_sheet.specs.Job.{Job}
use Rattle.prta_sheet.specs.Counts.{releases}
use Rattle.prta_jobs.specs.Instant.{IsLeastRelease}
use Rattle.prta_backlog.specs.Level.{Level, has_task, higher_at, own_at, level_at, is_quiet}
use Rattle.prta_backlog.specs.LevelRun.{level_run}
use Rattle.prta_backlog.specs.Entries.{operations_of, operations_at, operations, noted_at, run_end}
use Rattle.prta_backlog.proofs.Counts.{released_before}
use Rattle.prta_backlog.proofs.Released.{none_at}
use Rattle.prta_response.specs.Delays.{delay_entries}
use Rattle.prta_dual.specs.Entries.{list_after, entries_at, entries_before}

-- ---- a stretch without releases

module _ (dir : Dir) (sheet : Sheet) (level : Level) where
  none_noted : (t : ℕ) → level_at sheet.tasks level t ≡ [] → entries_at dir sheet level t ≡ []
  none_noted t none =
      let start : List ℕ = point sheet.settings.cap 0 in
      let quiet : is_quiet sheet.tasks level t ≡ true = eq-eqb (length (level_at sheet.tasks level t)) 0 (ap length none) in
      let ops : operations_at dir sheet.tasks level sheet.settings.support start t ≡ [] =
      cond-true (is_quiet sheet.tasks level t) [] (operations_of dir sheet.tasks level sheet.settings.support (level_run dir sheet.tasks level sheet.settings.support start 0 t) t) quiet in
      let own : own_at sheet.tasks level t ≡ [] = nil_from_length (own_at sheet.tasks level t) (omega (arith, ap length none, length-append (higher_at sheet.tasks level t) (own_at sheet.tasks level t))) in
      ap₂ (λ xs (jobs : List Job).
      noted_at dir sheet.tasks level t (1 + length (operations dir sheet.tasks level sheet.settings.support start t)) xs
      ++ flat_map (λ job. delay_entries dir sheet.tasks level job (list_after dir sheet level t)) jobs) ops own

  still_stretch : (from n : ℕ) → ((t : ℕ) → from ≤ t → t < n + from → level_at sheet.tasks level t ≡ []) → entries_before dir sheet level (n + from) ≡ entries_before dir sheet level from
  still_stretch from zero none = ap (entries_before dir sheet level) (zero-add from)
  still_stretch from (suc n) none =
      let last : entries_at dir sheet level (n + from) ≡ [] = none_noted (n + from) (none (n + from) (omega arith) (omega arith)) in
      ap (entries_before dir sheet level) (suc-add n from)
      ∙ ap (λ es. entries_before dir sheet level (n + from) ++ es) last ∙ append-nil (entries_before dir sheet level (n + from))
      ∙ still_stretch from n (λ t low high. none t low (omega arith))

  -- up to the least release of the level there are no more entries
  pub still_entries : (from t until : ℕ) → IsLeastRelease sheet.tasks (has_task level) from t → from ≤ until → until ≤ t → entries_before dir sheet level until ≡ entries_before dir sheet level from
  still_entries from t until is low high =
      let split : (until - from) + from ≡ until = omega arith in
      ap (entries_before dir sheet level) (sym split)
      ∙ still_stretch from (until - from) (λ s reached early. none_at sheet.tasks level s (is.least s reached (omega arith)))

-- ---- the end

-- the end of an analysis with an own job
pub record EndsAfterLast (task : Task) (horizon : ℕ) : Type 0 where
  pub last : run_end task horizon ≡ task.offset + (releases task horizon - 1) * task.period + 1
  pub within : run_end task horizon ≤ horizon

pub ends_after_last : (task : Task) (horizon : ℕ) → 0 < releases task horizon → EndsAfterLast task horizon
ends_after_last task horizon some =
    let last : run_end task horizon ≡ task.offset + (releases task horizon - 1) * task.period + 1 =
    cond-false (nat_eq (releases task horizon) 0) 0 (task.offset + (releases task horizon - 1) * task.period + 1) (ne_eqb (releases task horizon) 0 (λ e. omega arith)) in
    record { last = last; within = omega (arith, last, released_before task (releases task horizon - 1) horizon (omega arith)) }

-- of one without
pub ends_at_once : (task : Task) (horizon : ℕ) → releases task horizon ≡ 0 → run_end task horizon ≡ 0
ends_at_once task horizon none = cond-true (nat_eq (releases task horizon) 0) 0 (task.offset + (releases task horizon - 1) * task.period + 1) (eq-eqb (releases task horizon) 0 none)

pub end_within : (task : Task) (horizon : ℕ) → run_end task horizon ≤ horizon
end_within task horizon =
    elim (cases_lt 0 (releases task horizon)) [
      | inl some ↦ (ends_after_last task horizon some).within
      | inr none ↦ omega (arith, ends_at_once task horizon (omega arith))
    ]

-- each own release before the horizon is before the end
pub released_before_end : (task : Task) (k horizon : ℕ) → k < releases task horizon → task.offset + k * task.period < run_end task horizon
released_before_end task k horizon low =
    let fewer : k ≤ releases task horizon - 1 = omega arith in
    omega (arith, (ends_after_last task horizon (omega arith)).last, mul-le-mul_right task.period fewer)

-- so as many own jobs are released before the end as before the horizon
pub releases_at_end : (task : Task) (horizon : ℕ) → 0 < task.period → releases task (run_end task horizon) ≡ releases task horizon
releases_at_end task horizon positive =
    elim (cases_lt 0 (releases task horizon)) [
      | inl some ↦ ap (releases task) (ends_after_last task horizon some).last ∙ counted (releases task horizon) task.offset task.period some positive
      | inr none ↦
          let count : releases task horizon ≡ 0 = omega arith in
          ap (releases task) (ends_at_once task horizon count) ∙ cond-true (nat_le 0 task.offset) 0 ((0 - task.offset - 1) / task.period + 1) (le-leb 0 task.offset (omega arith)) ∙ sym count
    ]
  where
    counted : (m o p : ℕ) → 0 < m → 0 < p → cond (nat_le (o + (m - 1) * p + 1) o) 0 ((o + (m - 1) * p + 1 - o - 1) / p + 1) ≡ m
    counted m o p some positive =
        let since : o + (m - 1) * p + 1 - o - 1 ≡ (m - 1) * p = omega arith in
        rw (lt-leb (o + (m - 1) * p + 1) o (omega arith), since, mul-div_cancel (m - 1) positive) (omega arith)
