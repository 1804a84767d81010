-- The gap between the two numbers of a job is noted; where it is empty, both are the exact chance.
use Rattle.std.proofs.Common.{◌≡◌, ℕ, ◌+◌, ◌*◌, ◌<◌, ◌≤◌, false, All, List, [], ◌∷◌, length, ◌∙◌, subst, arith, ⊎_elim}
use Rattle.std.specs.List.{AllByRecursion as Each}
use Rattle.std.proofs.Math.Nat.{le_antisymm, mul-pos, mul-lt-mul_of_pos_right}
use Rattle.std.proofs.lemmas.Bool.{cases_lt, le-ltb}
use Rattle.std.proofs.lemmas.List.Elements.{All-weaker}
use Rattle.std.proofs.lemmas.List.Sums.{sum_by-append}
use Rattle.prta_mass.specs.Unit.{unit}
use Rattle.prta_mass.specs.Table.{Table, IsTable}
use Rattle.prta_mass.specs.Chances.{point}
use Rattle.prta_mass.specs.declared.direction.Dir.TheVariants.{Up, Down}
use Rattle.prta_sheet.specs.Sheet.{Task, Sheet, task_at, horizon}
use Rattle.prta_sheet.specs.Job.{Job, table_of, nth_job, deadline_of}
use Rattle.prta_sheet.specs.Counts.{job_count, releases}
use Rattle.prta_sheet.specs.Machine.{place}
use Rattle.prta_sheet.specs.Assignment.{total_of}
use Rattle.prta_sheet.specs.Chance.{miss_weight, chance_total, jobs_until, IsAround}
use Rattle.prta_sheet.specs.Accepted.{IsAccepted, IsTask}
use Rattle.prta_sheet.proofs.Each.{Each-weaker}
use Rattle.prta_sheet.proofs.JobSums.{releases_before}
use Rattle.prta_jobs.specs.Laws.{IsBefore}
use Rattle.prta_jobs.proofs.JobsBefore.{each_before}
use Rattle.prta_dist.proofs.Chances.{point_chances}
use Rattle.prta_ledger.specs.Sums.{part_for}
use Rattle.prta_backlog.specs.Level.{Level}
use Rattle.prta_backlog.specs.Laws.{HaveTables}
use Rattle.prta_backlog.proofs.Chances.{size_point}
use Rattle.prta_backlog.proofs.Released.{job_table}
use Rattle.prta_response.specs.Laws.{NumbersAreAround}
use Rattle.prta_dual.specs.Numbers.{lower, upper}
use Rattle.prta_dual.specs.Entries.{entries_in, job_sum}
use Rattle.prta_dual.specs.Laws.{GapIsNoted, EmptyLedgerIsExact}
use Rattle.prta_dual.proofs.Amounts.{spent}
use Rattle.prta_dual.proofs.NearRuns.{numbers_near}
use Rattle.prta_dual.proofs.Sums.{spent_sum}

have_tables : (sheet : Sheet) → IsAccepted sheet → HaveTables sheet.tasks
have_tables sheet is = record {
  some = All-weaker (IsTask sheet.settings.cap) (λ task. 0 < length task.cycle) (λ task ranges. ranges.cycle_low) sheet.tasks is.tasks;
  tables = All-weaker (IsTask sheet.settings.cap) (λ task. All IsTable task.cycle) (λ task ranges. ranges.tables) sheet.tasks is.tasks;
}

-- ---- the gap

-- what an analysis notes for a job is what is spent on it in both directions
job_sum_is : (sheet : Sheet) (level : Level) (k : ℕ) → IsAccepted sheet → level.own < length sheet.tasks → k < job_count sheet level.own →
    let r : ℕ = (nth_job sheet.tasks level.own k).release in
    job_sum sheet level (nth_job sheet.tasks level.own k)
    ≡ spent Up sheet.tasks level sheet.settings.support (point sheet.settings.cap 0) r + spent Down sheet.tasks level sheet.settings.support (point sheet.settings.cap 0) r
job_sum_is sheet level k is listed low =
    let task : IsTask sheet.settings.cap (task_at sheet.tasks level.own) = is.tasks level.own _ listed in
    let count : k < releases (task_at sheet.tasks level.own) (horizon sheet) = omega (arith, releases_before sheet.tasks level.own (horizon sheet) listed) in
    omega (
      arith,
      sum_by-append (part_for level.own k) (entries_in Up sheet level) (entries_in Down sheet level),
      spent_sum Up sheet level k listed task.period_low count,
      spent_sum Down sheet level k listed task.period_low count,
    )

pub gap_is_noted : GapIsNoted
gap_is_noted sheet level k is listed apart low =
    let cap : ℕ = sheet.settings.cap in
    let task : IsTask cap (task_at sheet.tasks level.own) = is.tasks level.own _ listed in
    let job : Job = nth_job sheet.tasks level.own k in
    let wide : (task_at sheet.tasks level.own).deadline < length (point cap 0) = omega (arith, size_point cap 0, task.deadline_high) in
    omega (
      arith,
      numbers_near sheet.tasks level sheet.settings.support (have_tables sheet is) (point cap 0) job.release wide (point_chances cap 0),
      job_sum_is sheet level k is listed low,
    )

-- ---- without a gap

total_positive : (table : Job → Table) (jobs : List Job) → Each (λ job. IsTable (table job)) jobs → 0 < total_of table jobs
total_positive table [] are = omega arith
total_positive table (job ∷ jobs) are = let one : IsTable (table job) = are.0 in mul-pos one.weighs (total_positive table jobs are.1)

chance_total_positive : (tasks : List Task) (job : Job) → HaveTables tasks → 0 < chance_total tasks job
chance_total_positive tasks job have =
    let jobs : List Job = jobs_until tasks job in
    total_positive (table_of tasks) jobs (Each-weaker (IsBefore tasks (deadline_of tasks job)) _ (λ other is. job_table tasks other have is.task) jobs (each_before tasks (deadline_of tasks job)))

-- numbers around a number that come no further apart than 0
both_exact : (low high part all : ℕ) → 0 < all → low * all ≤ part → part ≤ high * all → high ≤ low → (low ≡ high) × (part ≡ high * all)
both_exact low high part all some below above near =
    let same : low ≡ high = ⊎_elim
    (λ (a : high < low). absurd (omega (arith, mul-lt-mul_of_pos_right a some)))
    (λ (b : low ≤ high). omega arith)
    (cases_lt high low) in
    (same, le_antisymm above (subst (λ x. x * all ≤ part) same below))

pub exact_where_empty : NumbersAreAround → EmptyLedgerIsExact
exact_where_empty around sheet level order k is listed ordered low none =
    let job : Job = nth_job sheet.tasks level.own k in
    let apart : level.higher level.own ≡ false = ordered.above level.own ∙ le-ltb (place order level.own) (place order level.own) (omega arith) in
    let numbers : IsAround sheet.tasks order job (lower sheet level job) (upper sheet level job) = around sheet level order k is listed ordered in
    let near : upper sheet level job ≤ lower sheet level job = omega (arith, gap_is_noted sheet level k is listed apart low, none) in
    let exact : (lower sheet level job ≡ upper sheet level job) × (unit * miss_weight sheet.tasks order job ≡ upper sheet level job * chance_total sheet.tasks job) =
    both_exact (lower sheet level job) (upper sheet level job) (unit * miss_weight sheet.tasks order job) (chance_total sheet.tasks job)
    (chance_total_positive sheet.tasks job (have_tables sheet is)) numbers.below numbers.above near in
    record { equal = exact.0; exact = exact.1 }
