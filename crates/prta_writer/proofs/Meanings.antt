-- What the numbers of a sheet mean, from the laws of an analysis under any order of priorities.
use Rattle.std.proofs.Common.{◌≡◌, ℕ, ◌+◌, ◌*◌, ◌<◌, ◌≤◌, Bool, true, false, not, nat_eq, None, find, List, [], ◌∷◌, length, map, filter, get_or, All, refl, ap, sym, ◌∙◌, arith, inl, inr}
use Rattle.std.specs.List.{range_with_len}
use Rattle.std.proofs.Math.Nat.{mul-le-mul_right, le_of_mul-le-mul_left}
use Rattle.std.proofs.lemmas.Bool.{cases_Bool, le-ltb, leb-true, eq-eqb}
use Rattle.std.proofs.lemmas.List.Elements.{All-nil, All-cons, All-head, All-tail, All-map, All-same}
use Rattle.std.proofs.lemmas.List.FromFn.{length-range_with_len, get_or-range_with_len}
use Rattle.prta_mass.specs.Unit.{unit}
use Rattle.prta_mass.specs.Passing.{passes}
use Rattle.prta_sheet.specs.Sheet.{Sheet, task_at, sheet_order, horizon}
use Rattle.prta_sheet.specs.Job.{Job, nth_job, analysed_jobs}
use Rattle.prta_sheet.specs.Counts.{job_count}
use Rattle.prta_sheet.specs.Chance.{IsAround, miss_weight, chance_total}
use Rattle.prta_sheet.specs.Accepted.{IsAccepted}
use Rattle.prta_jobs.specs.Laws.{IsBefore, JobsAreBefore}
use Rattle.prta_backlog.specs.Room.{own_jobs}
use Rattle.prta_response.specs.Laws.{NumbersAreAround}
use Rattle.prta_dual.specs.Laws.{GapIsNoted}
use Rattle.prta_backlog.specs.Level.{sheet_level}
use Rattle.prta_certificate.proofs.SheetLevels.{own_order_fits}
use Rattle.prta_dual.specs.Failing.{upper_passes, failing_job}
use Rattle.prta_report.specs.Analysis.{bounds_in, sum_in}
use Rattle.prta_dual.specs.Laws.{OwnJobsInTurn}
use Rattle.prta_writer.specs.Meaning.{AreAround, AreClose, ChancesPass}
use Rattle.prta_writer.proofs.Finding.{none_passes, none_in_each}

-- ---- each analysed job

-- what holds of those that a filter keeps
each_kept : {A : Type 0} (p : A → Bool) (P : A → Type 0) (xs : List A) → All P (filter p xs) → All (λ x. p x ≡ true → P x) xs
each_kept p P [] each = All-nil (λ x. p x ≡ true → P x)
each_kept p P (x ∷ xs) each =
    elim (cases_Bool (p x)) [
      | inl passes ↦
          let kept : All P (x ∷ filter p xs) = rw passes at each in
          All-cons (λ x. p x ≡ true → P x) x xs (λ e. All-head P x (filter p xs) kept) (each_kept p P xs (All-tail P x (filter p xs) kept))
      | inr fails ↦
          let kept : All P (filter p xs) = rw fails at each in
          All-cons (λ x. p x ≡ true → P x) x xs (λ e. let both : true ≡ false = sym e ∙ fails in cc) (each_kept p P xs kept)
    ]

-- what holds of the analysed jobs of each task holds of all
each_analysed : JobsAreBefore → (sheet : Sheet) (P : Job → Type 0) → ((i : ℕ) → i < length sheet.tasks → All P (own_jobs sheet i)) → All P (analysed_jobs sheet)
each_analysed before sheet P own = λ k d low.
    let job : Job = get_or (analysed_jobs sheet) k d in
    let is : IsBefore sheet.tasks (horizon sheet) job = before sheet.tasks (horizon sheet) k d low in
    each_kept (λ other. nat_eq other.task job.task) P (analysed_jobs sheet) (own job.task is.task) k d low (eq-eqb job.task job.task refl)

module _ (before : JobsAreBefore) (turn : OwnJobsInTurn) (sheet : Sheet) (is : IsAccepted sheet) where
  -- what holds of each task's jobs of the numbers below its count holds of all analysed jobs
  each_job : (P : Job → Type 0) → ((i k : ℕ) → i < length sheet.tasks → k < job_count sheet i → P (nth_job sheet.tasks i k)) → All P (analysed_jobs sheet)
  each_job P each =
      each_analysed before sheet P
      (λ i low.
      let n : ℕ = job_count sheet i in
      All-same P (own_jobs sheet i) (map (nth_job sheet.tasks i) (range_with_len 0 n)) (turn sheet i is low)
      (All-map P (nth_job sheet.tasks i) (range_with_len 0 n)
      (λ k d within.
      let size : length (range_with_len 0 n) ≡ n = length-range_with_len 0 n in
      let number : get_or (range_with_len 0 n) k d ≡ 0 + k = get_or-range_with_len 0 n k d (omega arith) in
      each i (get_or (range_with_len 0 n) k d) low (omega arith))))

  pub are_around : NumbersAreAround → AreAround sheet
  are_around law =
      each_job (λ job. IsAround sheet.tasks (sheet_order sheet.tasks) job (bounds_in sheet job).lower (bounds_in sheet job).upper)
      (λ i k low within. law sheet (sheet_level i) (sheet_order sheet.tasks) k is low (own_order_fits sheet.tasks i low))

  pub are_close : GapIsNoted → AreClose sheet
  are_close law =
      each_job (λ job. (bounds_in sheet job).upper ≤ (bounds_in sheet job).lower + sum_in sheet job)
      (λ i k low within. law sheet (sheet_level i) k is low (le-ltb i i (omega arith)) within)

-- ---- passing

-- a chance of miss / total is at most upper / whole, and that is at most p / q
chance_passes : (whole miss total upper p q : ℕ) → 0 < whole → whole * miss ≤ upper * total → upper * q ≤ p * whole → miss * q ≤ p * total
chance_passes whole miss total upper p q some above pass =
    let scaled : whole * miss * q ≤ upper * total * q = mul-le-mul_right q above in
    let allowed : upper * q * total ≤ p * whole * total = mul-le-mul_right total pass in
    let both : whole * (miss * q) ≤ whole * (p * total) = omega (arith, scaled, allowed) in
    le_of_mul-le-mul_left both some

-- where no upper number fails, each passes
uppers_pass : JobsAreBefore → (sheet : Sheet) → failing_job sheet ≡ None → All (λ job. upper_passes sheet job ≡ true) (analysed_jobs sheet)
uppers_pass before sheet none =
    let fails : Job → Bool = λ job. not (upper_passes sheet job) in
    let n : ℕ = length sheet.tasks in
    let size : length (range_with_len 0 n) ≡ n = length-range_with_len 0 n in
    each_analysed before sheet (λ job. upper_passes sheet job ≡ true)
    (λ i low.
    let task : get_or (range_with_len 0 n) i 0 ≡ i = omega (arith, get_or-range_with_len 0 n i 0 low) in
    let own : find fails (own_jobs sheet i) ≡ None = ap (λ j. find fails (own_jobs sheet j)) (sym task) ∙ none_in_each fails (own_jobs sheet) (range_with_len 0 n) none i 0 (omega arith) in
    λ k d within. passed (upper_passes sheet (get_or (own_jobs sheet i) k d)) (none_passes fails (own_jobs sheet i) own k d within))
  where
    passed : (b : Bool) → not b ≡ false → b ≡ true
    passed true e = refl
    passed false e = cc

pub chances_pass : JobsAreBefore → (sheet : Sheet) → AreAround sheet → failing_job sheet ≡ None → ChancesPass sheet
chances_pass before sheet around none = λ k d low.
    let job : Job = get_or (analysed_jobs sheet) k d in
    let allow : ℕ × ℕ = (task_at sheet.tasks job.task).allow in
    let upper : ℕ = (bounds_in sheet job).upper in
    let pass : upper * allow.1 ≤ allow.0 * unit = leb-true (upper * allow.1) (allow.0 * unit) (uppers_pass before sheet none k d low) in
    chance_passes unit (miss_weight sheet.tasks (sheet_order sheet.tasks) job) (chance_total sheet.tasks job) upper allow.0 allow.1 (omega arith) (around k d low).above pass
