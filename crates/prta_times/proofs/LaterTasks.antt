-- Tasks that differ in their tables alone release the same jobs, and the totals of their tables agree.
use Rattle.std.proofs.Common.{◌≡◌, ℕ, zero, suc, ◌+◌, ◌*◌, ◌%◌, List, [], ◌∷◌, ◌++◌, length, get_or, refl, ap, ap₂, sym, ◌∙◌, subst, arith}
use Rattle.prta_mass.specs.Table.{Table, total}
use Rattle.prta_fewpoints.specs.Laws.{IsMovedUp}
use Rattle.prta_sheet.specs.Sheet.{Task, task_at}
use Rattle.prta_sheet.specs.Job.{Job, table_of, deadline_of, released_by, released_at, jobs_before}
use Rattle.prta_sheet.specs.Assignment.{total_of}
use Rattle.prta_sheet.specs.Chance.{chance_total}
use Rattle.prta_ticksim.proofs.Sums.{sum_by-same}
use Rattle.prta_times.specs.LaterTimes.{Both, IsLater}

-- ---- two lists, place by place

Both_at : {X Y : Type 0} (R : X → Y → Type 0) (xs : List X) (ys : List Y) (i : ℕ) (x : X) (y : Y) → Both R xs ys → R x y → R (get_or xs i x) (get_or ys i y)
Both_at R [] [] i x y h past = past
Both_at R [] (y' ∷ ys) i x y h past = absurd h
Both_at R (x' ∷ xs) [] i x y h past = absurd h
Both_at R (x' ∷ xs) (y' ∷ ys) zero x y h past = h.0
Both_at R (x' ∷ xs) (y' ∷ ys) (suc i) x y h past = Both_at R xs ys i x y h.1 past

pub Both_length : {X Y : Type 0} (R : X → Y → Type 0) (xs : List X) (ys : List Y) → Both R xs ys → length xs ≡ length ys
Both_length R [] [] h = refl
Both_length R [] (y ∷ ys) h = absurd h
Both_length R (x ∷ xs) [] h = absurd h
Both_length R (x ∷ xs) (y ∷ ys) h = ap suc (Both_length R xs ys h.1)

-- ---- what they have in common

moved_none : IsMovedUp [] []
moved_none = record { to = λ c. c; up = λ i d low. absurd (omega arith); lands = λ i d low. absurd (omega arith); weights = λ worth. refl }

pub total_later : (early late : Table) → IsMovedUp early late → total early ≡ total late
total_later early late m =
    sum_by-same (λ pair. pair.1) (λ pair. pair.1 * 1) (λ pair. omega arith) early
    ∙ sym (m.weights (λ c. 1))
    ∙ sum_by-same (λ pair. pair.1 * 1) (λ pair. pair.1) (λ pair. omega arith) late

module _ (early late : List Task) (h : Both IsLater early late) where
  pub task_later : (i : ℕ) → IsLater (task_at early i) (task_at late i)
  task_later i = Both_at IsLater early late i _ _ h (record { offset = refl; period = refl; deadline = refl; cycle = tt })

  pub table_later : (job : Job) → IsMovedUp (table_of early job) (table_of late job)
  table_later job =
      let is : IsLater (task_at early job.task) (task_at late job.task) = task_later job.task in
      let a : List Table = (task_at early job.task).cycle in
      let b : List Table = (task_at late job.task).cycle in
      let same : length a ≡ length b = Both_length IsMovedUp a b is.cycle in
      subst (λ n. IsMovedUp (get_or a (job.number % length a) []) (get_or b (job.number % n) [])) same (Both_at IsMovedUp a b (job.number % length a) [] [] is.cycle moved_none)

-- they release the same jobs
releases_later : (early late : List Task) (i t : ℕ) → Both IsLater early late → released_at i early t ≡ released_at i late t
releases_later [] [] i t h = refl
releases_later [] (y ∷ ys) i t h = absurd h
releases_later (x ∷ xs) [] i t h = absurd h
releases_later (x ∷ xs) (y ∷ ys) i t h = ap₂ (λ (a b : List Job). a ++ b) (one x y h.0) (releases_later xs ys (i + 1) t h.1)
  where
    one : (x y : Task) → IsLater x y → released_by i x t ≡ released_by i y t
    one x y l = rw (l.offset, l.period) refl

pub jobs_later : (early late : List Task) (t : ℕ) → Both IsLater early late → jobs_before early t ≡ jobs_before late t
jobs_later early late zero h = refl
jobs_later early late (suc t) h = ap₂ (λ (a b : List Job). a ++ b) (jobs_later early late t h) (releases_later early late 0 t h)

-- ---- the weight of all assignments

totals_later : (early late : Job → Table) → ((job : Job) → IsMovedUp (early job) (late job)) → (jobs : List Job) → total_of early jobs ≡ total_of late jobs
totals_later early late m [] = refl
totals_later early late m (job ∷ jobs) = ap₂ (λ a b. a * b) (total_later (early job) (late job) (m job)) (totals_later early late m jobs)

module _ (early late : List Task) (h : Both IsLater early late) (job : Job) where
  pub deadline_later : deadline_of early job ≡ deadline_of late job
  deadline_later = ap (λ d. job.release + d) ((task_later early late h job.task).deadline)

  pub jobs_until_later : jobs_before early (deadline_of early job) ≡ jobs_before late (deadline_of late job)
  jobs_until_later = ap (jobs_before early) deadline_later ∙ jobs_later early late (deadline_of late job) h

  pub chance_totals : chance_total early job ≡ chance_total late job
  chance_totals =
      totals_later (table_of early) (table_of late) (table_later early late h) (jobs_before early (deadline_of early job))
      ∙ ap (total_of (table_of late)) jobs_until_later
