-- A sheet passes exactly where each analysed job's upper number does; where it doesn't, which job is the first.
use Rattle.std.proofs.Common.{◌≡◌, ℕ, zero, suc, ◌+◌, ◌<◌, ◌≤◌, Bool, true, false, not, is_none, Option, Some, None, option_map, find, List, length, flat_map, refl, ap, sym, ◌∙◌, arith, inl, inr}
use Rattle.std.specs.List.{range_with_len}
use Rattle.std.specs.Option.{option_or}
use Rattle.std.proofs.lemmas.Bool.{cases_lt, cases_Bool, not-true, not-false, not_from_true}
use Rattle.std.proofs.lemmas.List.Folds.{find-append}
use Rattle.prta_mass.proofs.Find.{find_none_in_range, fails_in_range}
use Rattle.prta_sheet.specs.Sheet.{Sheet}
use Rattle.prta_sheet.specs.Job.{Job, nth_job}
use Rattle.prta_sheet.specs.Counts.{job_count}
use Rattle.prta_sheet.specs.Accepted.{IsAccepted}
use Rattle.prta_backlog.specs.Level.{sheet_level}
use Rattle.prta_backlog.specs.Room.{own_jobs}
use Rattle.prta_dual.specs.Numbers.{upper}
use Rattle.prta_dual.specs.Laws.{OwnJobsInTurn}
use Rattle.prta_dual.specs.Failing.{upper_passes, failing_job, failing}
use Rattle.prta_dual.proofs.Finding.{found_mapped}
use Rattle.prta_audsley.specs.Passing.{IsAnalysed}
use Rattle.prta_slack.specs.Passing.{sheet_passes}
use Rattle.prta_slack.specs.Laws.{PassingIsEach}

-- ---- what is found in a row of lists

module _ {B : Type 0} (p : B → Bool) (f : ℕ → List B) where
  none_found : (a n : ℕ) → ((i : ℕ) → a ≤ i → i < a + n → find p (f i) ≡ None) → find p (flat_map f (range_with_len a n)) ≡ None
  none_found a zero h = refl
  none_found a (suc n) h =
      find-append p (f a) (flat_map f (range_with_len (a + 1) n))
      ∙ ap (λ (found : Option B). option_or found (find p (flat_map f (range_with_len (a + 1) n)))) (h a (omega arith) (omega arith))
      ∙ none_found (a + 1) n (λ i low high. h i (omega arith) (omega arith))

  -- it is found in one of them, and in none before
  record IsFoundIn (a n : ℕ) (x : B) : Type 0 where
    pub place : ℕ
    pub from : a ≤ place
    pub below : place < a + n
    pub there : find p (f place) ≡ Some x
    pub none_before : (i : ℕ) → a ≤ i → i < place → find p (f i) ≡ None

  -- with a list before those in which it is found, or in that list
  found_next : (a n : ℕ) (x : B) → (first : Option B) → find p (f a) ≡ first → find p (flat_map f (range_with_len a (suc n))) ≡ Some x →
      (find p (flat_map f (range_with_len (a + 1) n)) ≡ Some x → IsFoundIn (a + 1) n x) → IsFoundIn a (suc n) x
  found_next a n x first is_first e later =
      let rest : Option B = find p (flat_map f (range_with_len (a + 1) n)) in
      let joined : option_or first rest ≡ Some x = ap (λ (found : Option B). option_or found rest) (sym is_first) ∙ sym (find-append p (f a) (flat_map f (range_with_len (a + 1) n))) ∙ e in
      by_first first is_first joined
    where
      by_first : (first : Option B) → find p (f a) ≡ first → option_or first (find p (flat_map f (range_with_len (a + 1) n))) ≡ Some x → IsFoundIn a (suc n) x
      by_first None none joined =
          let found : IsFoundIn (a + 1) n x = later joined in
          record {
            place = found.place;
            from = omega (arith, found.from);
            below = omega (arith, found.below);
            there = found.there;
            none_before = λ i low high. elim (cases_lt a i) [
              | inl after ↦ found.none_before i (omega arith) high
              | inr here ↦ let same : i ≡ a = omega arith in ap (λ j. find p (f j)) same ∙ none
            ];
          }
      by_first (Some y) some joined = record { place = a; from = omega arith; below = omega arith; there = some ∙ joined; none_before = λ i low high. absurd (omega arith) }

  found_in : (a n : ℕ) (x : B) → find p (flat_map f (range_with_len a n)) ≡ Some x → IsFoundIn a n x
  found_in a zero x e = cc
  found_in a (suc n) x e = found_next a n x (find p (f a)) refl e (found_in (a + 1) n x)

  -- where none is found, none is in any of them
  none_in : (a n : ℕ) → find p (flat_map f (range_with_len a n)) ≡ None → (i : ℕ) → a ≤ i → i < a + n → find p (f i) ≡ None
  none_in a zero e i low high = absurd (omega arith)
  none_in a (suc n) e i low high =
      let both : (find p (f a) ≡ None) × (find p (flat_map f (range_with_len (a + 1) n)) ≡ None) =
      neither (find p (f a)) (find p (flat_map f (range_with_len (a + 1) n))) (sym (find-append p (f a) (flat_map f (range_with_len (a + 1) n))) ∙ e) in
      elim (cases_lt a i) [
        | inl after ↦ none_in (a + 1) n both.1 i (omega arith) (omega arith)
        | inr here ↦ let same : i ≡ a = omega arith in ap (λ j. find p (f j)) same ∙ both.0
      ]
    where
      neither : (a b : Option B) → option_or a b ≡ None → (a ≡ None) × (b ≡ None)
      neither None b none = (refl, none)
      neither (Some x) b none = cc

-- the number that is found in a range is there, passes, and is the first that does
pub record IsFirstIn (p : ℕ → Bool) (a n k : ℕ) : Type 0 where
  pub from : a ≤ k
  pub below : k < a + n
  pub passes : p k ≡ true
  pub none_before : (i : ℕ) → a ≤ i → i < k → p i ≡ false

pub first_in : (p : ℕ → Bool) (a n k : ℕ) → find p (range_with_len a n) ≡ Some k → IsFirstIn p a n k
first_in p a zero k e = cc
first_in p a (suc n) k e =
    elim (cases_Bool (p a)) [
      | inl passes ↦
          let found : Some a ≡ Some k = rw passes at e in
          let same : a ≡ k = cc in
          record { from = omega arith; below = omega arith; passes = ap p (sym same) ∙ passes; none_before = λ i low high. absurd (omega arith) }
      | inr fails ↦
          let later : IsFirstIn p (a + 1) n k = first_in p (a + 1) n k (rw fails at e) in
          record {
            from = omega (arith, later.from);
            below = omega (arith, later.below);
            passes = later.passes;
            none_before = λ i low high. elim (cases_lt a i) [
              | inl after ↦ later.none_before i (omega arith) high
              | inr here ↦ let same : i ≡ a = omega arith in ap p same ∙ fails
            ];
          }
    ]

-- ---- the jobs of a sheet

module _ (turn : OwnJobsInTurn) (sheet : Sheet) (is : IsAccepted sheet) where
  abbrev fails : Job → Bool
  fails job = not (upper_passes sheet job)

  abbrev fails_at : ℕ → ℕ → Bool
  fails_at i k = fails (nth_job sheet.tasks i k)

  -- the jobs of a task, by their numbers
  own_found : (i : ℕ) → i < length sheet.tasks → find fails (own_jobs sheet i) ≡ option_map (nth_job sheet.tasks i) (find (fails_at i) (range_with_len 0 (job_count sheet i)))
  own_found i low = ap (find fails) (turn sheet i is low) ∙ found_mapped fails (nth_job sheet.tasks i) (range_with_len 0 (job_count sheet i))

  -- where none of a task's jobs fails, each passes
  own_pass : (i k : ℕ) → IsAnalysed sheet i k → find fails (own_jobs sheet i) ≡ None → upper_passes sheet (nth_job sheet.tasks i k) ≡ true
  own_pass i k job none =
      let found : find (fails_at i) (range_with_len 0 (job_count sheet i)) ≡ None = of_none (find (fails_at i) (range_with_len 0 (job_count sheet i))) (sym (own_found i job.listed) ∙ none) in
      not-false (upper_passes sheet (nth_job sheet.tasks i k)) (fails_in_range (fails_at i) 0 (job_count sheet i) k found (omega arith) (omega (arith, job.analysed)))
    where
      of_none : (found : Option ℕ) → option_map (nth_job sheet.tasks i) found ≡ None → found ≡ None
      of_none None e = refl
      of_none (Some k) e = cc

  pub each_passes : sheet_passes sheet ≡ true → (i k : ℕ) → IsAnalysed sheet i k → upper_passes sheet (nth_job sheet.tasks i k) ≡ true
  each_passes passes i k job =
      own_pass i k job
      (none_in fails (own_jobs sheet) 0 (length sheet.tasks) (of_passing (failing_job sheet) passes) i (omega arith) (omega (arith, job.listed)))
    where
      of_passing : (found : Option Job) → is_none found ≡ true → found ≡ None
      of_passing None e = refl
      of_passing (Some job) e = cc

  pub all_pass : ((i k : ℕ) → IsAnalysed sheet i k → upper_passes sheet (nth_job sheet.tasks i k) ≡ true) → sheet_passes sheet ≡ true
  all_pass each =
      ap is_none (none_found fails (own_jobs sheet) 0 (length sheet.tasks)
      (λ i from low.
      let listed : i < length sheet.tasks = omega arith in
      own_found i listed
      ∙ ap (option_map (nth_job sheet.tasks i))
      (find_none_in_range (fails_at i) 0 (job_count sheet i)
      (λ k from within. not_from_true (upper_passes sheet (nth_job sheet.tasks i k)) (each i k record { listed = listed; analysed = omega arith })))))

  -- the first failing job: it is analysed, its upper number doesn't pass, and those before it do
  pub record IsFirstFailing (job : Job) : Type 0 where
    pub analysed : IsAnalysed sheet job.task job.number
    pub numbered : job ≡ nth_job sheet.tasks job.task job.number
    pub fails_there : upper_passes sheet job ≡ false
    pub above_pass : (j l : ℕ) → j < job.task → IsAnalysed sheet j l → upper_passes sheet (nth_job sheet.tasks j l) ≡ true
    pub earlier_pass : (l : ℕ) → l < job.number → upper_passes sheet (nth_job sheet.tasks job.task l) ≡ true

  pub first_failing : (job : Job) → failing_job sheet ≡ Some job → IsFirstFailing job
  first_failing job e = of_task (found_in fails (own_jobs sheet) 0 (length sheet.tasks) job e)
    where
      of_number : (found : IsFoundIn fails (own_jobs sheet) 0 (length sheet.tasks) job) (number : Option ℕ) → find (fails_at found.place) (range_with_len 0 (job_count sheet found.place)) ≡ number →
          option_map (nth_job sheet.tasks found.place) number ≡ Some job → IsFirstFailing job
      of_number found None at same = cc
      of_number found (Some k) at same =
          let first : IsFirstIn (fails_at found.place) 0 (job_count sheet found.place) k = first_in (fails_at found.place) 0 (job_count sheet found.place) k at in
          let is_job : job ≡ nth_job sheet.tasks found.place k = cc in
          let i : job.task ≡ found.place = ap (λ (j : Job). j.task) is_job in
          let n : job.number ≡ k = ap (λ (j : Job). j.number) is_job in
          rw is_job record {
            analysed = record { listed = omega (arith, found.below); analysed = omega (arith, first.below) };
            numbered = refl;
            fails_there = not-true (upper_passes sheet (nth_job sheet.tasks found.place k)) first.passes;
            above_pass = λ j l before other. own_pass j l other (found.none_before j (omega arith) before);
            earlier_pass = λ l before. not-false (upper_passes sheet (nth_job sheet.tasks found.place l)) (first.none_before l (omega arith) before);
          }

      of_task : IsFoundIn fails (own_jobs sheet) 0 (length sheet.tasks) job → IsFirstFailing job
      of_task found =
          of_number found (find (fails_at found.place) (range_with_len 0 (job_count sheet found.place))) refl
          (sym (own_found found.place (omega (arith, found.below))) ∙ found.there)

pub passing_is_each : OwnJobsInTurn → PassingIsEach
passing_is_each turn sheet is = (each_passes turn sheet is, all_pass turn sheet is)

-- a job with its upper number
abbrev pub with_upper : Sheet → Job → Job × ℕ
with_upper sheet job = (job, upper sheet (sheet_level job.task) job)

-- none is found with its number exactly where the sheet passes
pub passes_by : (sheet : Sheet) → failing sheet ≡ None → sheet_passes sheet ≡ true
passes_by sheet none = of_first (failing_job sheet) none
  where
    of_first : (first : Option Job) → option_map (with_upper sheet) first ≡ None → is_none first ≡ true
    of_first None e = refl
    of_first (Some job) e = cc

pub none_fails : (sheet : Sheet) → sheet_passes sheet ≡ true → failing sheet ≡ None
none_fails sheet passes = of_first (failing_job sheet) passes
  where
    of_first : (first : Option Job) → is_none first ≡ true → option_map (with_upper sheet) first ≡ None
    of_first None e = refl
    of_first (Some job) e = cc
