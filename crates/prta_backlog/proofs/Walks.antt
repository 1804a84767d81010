-- The backlog with all greatest times, from instant to instant.
use Rattle.std.proofs.Common.{◌≡◌, ℕ, zero, suc, ◌+◌, ◌-◌, ◌%◌, ◌≤◌, ◌<◌, max, All, Bool, true, false, cond, ◌||◌, nat_eq, List, [], ◌∷◌, ◌++◌, filter, sum_by, length, refl, ap, ap₂, sym, ◌∙◌, subst, arith, add-zero}
use Rattle.std.proofs.Math.Nat.{mod-lt}
use Rattle.std.proofs.lemmas.List.Sums.{sum_by-cons, sum_by-append}
use Rattle.std.proofs.lemmas.List.Elements.{filter-append}
use Rattle.std.proofs.lemmas.Bool.{cond_both, cond-true, cond-false, ne_eqb, eq-eqb}
use Rattle.prta_mass.specs.Table.{greatest}
use Rattle.prta_sheet.specs.Sheet.{Task, task_at, hyperperiod}
use Rattle.prta_sheet.specs.Accepted.{IsTask}
use Rattle.prta_sheet.specs.declared.limits.TheConstants.{TIME_LIMIT}
use Rattle.prta_sheet.specs.Job.{Job, table_of, released_at, jobs_before}
use Rattle.prta_jobs.specs.Instant.{IsOnSheet, IsLeastRelease}
use Rattle.prta_backlog.specs.Level.{Level, has_task, higher_at, own_at, level_at, is_quiet, level_before}
use Rattle.prta_backlog.specs.Greatest.{greatest_times, WalkState, backlog_now, risen, greatest_walk, worst_backlog}
use Rattle.prta_backlog.specs.Laws.{GreatestNumbersAreLow}
use Rattle.prta_backlog.proofs.Released.{none_at, some_at}

-- sums over two parts that have no element together
pub sum_parts : (f : Job → ℕ) (h o : Job → Bool) → ((j : Job) → h j ≡ true → o j ≡ false) → (jobs : List Job) → sum_by f (filter (λ j. o j || h j) jobs) ≡ sum_by f (filter h jobs) + sum_by f (filter o jobs)
sum_parts f h o apart [] = refl
sum_parts f h o apart (job ∷ jobs) = one_more (h job) (o job) (filter (λ j. o j || h j) jobs) (filter h jobs) (filter o jobs) (apart job) (sum_parts f h o apart jobs)
  where
    one_more : (a b : Bool) (all xs ys : List Job) → (a ≡ true → b ≡ false) → sum_by f all ≡ sum_by f xs + sum_by f ys →
        sum_by f (cond (b || a) (job ∷ all) all) ≡ sum_by f (cond a (job ∷ xs) xs) + sum_by f (cond b (job ∷ ys) ys)
    one_more true b all xs ys not_both ih =
        let no : b ≡ false = not_both refl in
        rw no (omega (arith, ih, sum_by-cons f job all, sum_by-cons f job xs))
    one_more false b all xs ys not_both ih =
        elim b as (λ b. sum_by f (cond (b || false) (job ∷ all) all) ≡ sum_by f xs + sum_by f (cond b (job ∷ ys) ys)) [
          | true ↦ omega (arith, ih, sum_by-cons f job all, sum_by-cons f job ys)
          | false ↦ ih
        ]

-- the walk before a time, and the work so far
pub record IsWalked (tasks : List Task) (level : Level) (start n backlog since most work : ℕ) : Type 0 where
  pub backlog_is : backlog ≡ (greatest_walk tasks level start n).backlog
  pub since_is : since ≡ (greatest_walk tasks level start n).since
  pub most_is : most ≡ (greatest_walk tasks level start n).most
  pub work_is : work ≡ greatest_times tasks (level_before tasks level n)

module _ (tasks : List Task) (level : Level) (apart : level.higher level.own ≡ false) where
  abbrev time : Job → ℕ
  time job = greatest (table_of tasks job)

  -- the work that a time brings
  pub work_at : (t : ℕ) → greatest_times tasks (filter (λ job. has_task level job.task) (released_at 0 tasks t)) ≡ greatest_times tasks (level_at tasks level t)
  work_at t =
      sum_parts time (λ j. level.higher j.task) (λ j. nat_eq j.task level.own) not_both (released_at 0 tasks t)
      ∙ sym (sum_by-append time (higher_at tasks level t) (own_at tasks level t))
    where
      not_both : (j : Job) → level.higher j.task ≡ true → nat_eq j.task level.own ≡ false
      not_both j h = ne_eqb j.task level.own (λ e. let same : level.higher level.own ≡ true = subst (λ k. level.higher k ≡ true) e h in cc)

  pub work_suc : (t : ℕ) → greatest_times tasks (level_before tasks level (suc t)) ≡ greatest_times tasks (level_before tasks level t) + greatest_times tasks (level_at tasks level t)
  work_suc t =
      ap (sum_by time) (filter-append (λ (job : Job). has_task level job.task) (jobs_before tasks t) (released_at 0 tasks t))
      ∙ sum_by-append time (level_before tasks level t) (filter (λ (job : Job). has_task level job.task) (released_at 0 tasks t))
      ∙ ap (λ x. greatest_times tasks (level_before tasks level t) + x) (work_at t)

  pub walked_start : (start : ℕ) → IsWalked tasks level start 0 start 0 0 0
  walked_start start = record { backlog_is = refl; since_is = refl; most_is = refl; work_is = refl }

  -- a time without a release changes nothing
  walked_quiet : (start t backlog since most work : ℕ) → level_at tasks level t ≡ [] → IsWalked tasks level start t backlog since most work → IsWalked tasks level start (suc t) backlog since most work
  walked_quiet start t backlog since most work none is =
      let walk : WalkState = greatest_walk tasks level start t in
      let test : is_quiet tasks level t ≡ true = eq-eqb (length (level_at tasks level t)) 0 (ap length none) in
      let same : greatest_walk tasks level start (suc t) ≡ walk = cond-true (is_quiet tasks level t) walk (risen tasks level walk t) test in
      record {
        backlog_is = is.backlog_is ∙ ap (λ (w : WalkState). w.backlog) (sym same);
        since_is = is.since_is ∙ ap (λ (w : WalkState). w.since) (sym same);
        most_is = is.most_is ∙ ap (λ (w : WalkState). w.most) (sym same);
        work_is = omega (arith, is.work_is, work_suc t, ap (greatest_times tasks) none);
      }

  walked_stretch : (start from n backlog since most work : ℕ) → ((t : ℕ) → from ≤ t → t < n + from → level_at tasks level t ≡ []) → IsWalked tasks level start from backlog since most work → IsWalked tasks level start (n + from) backlog since most work
  walked_stretch start from zero backlog since most work none is = let same : from ≡ 0 + from = omega arith in subst (λ n. IsWalked tasks level start n backlog since most work) same is
  walked_stretch start from (suc n) backlog since most work none is =
      let next : suc (n + from) ≡ suc n + from = omega arith in
      subst (λ n. IsWalked tasks level start n backlog since most work) next
      (walked_quiet start (n + from) backlog since most work (none (n + from) (omega arith) (omega arith)) (walked_stretch start from n backlog since most work (λ t a b. none t a (omega arith)) is))

  pub walked_until : (start from t u backlog since most work : ℕ) → IsLeastRelease tasks (has_task level) from t → from ≤ u → u ≤ t → IsWalked tasks level start from backlog since most work → IsWalked tasks level start u backlog since most work
  walked_until start from t u backlog since most work next low high is =
      let split : (u - from) + from ≡ u = omega arith in
      subst (λ n. IsWalked tasks level start n backlog since most work) split (walked_stretch start from (u - from) backlog since most work (λ s a b. none_at tasks level s (next.least s a (omega arith))) is)

  -- an instant
  pub walked_instant : (start from t backlog since most work times backlog' most' work' : ℕ) → IsOnSheet tasks (has_task level) → IsLeastRelease tasks (has_task level) from t →
      IsWalked tasks level start from backlog since most work → times ≡ greatest_times tasks (level_at tasks level t) →
      backlog' ≡ backlog - (t - since) + times → most' ≡ max most (backlog - (t - since) + times) → work' ≡ work + times →
      IsWalked tasks level start (t + 1) backlog' t most' work'
  walked_instant start from t backlog since most work times backlog' most' work' within next is e b m w =
      let here : IsWalked tasks level start t backlog since most work = walked_until start from t t backlog since most work next next.reached (omega arith) is in
      let walk : WalkState = greatest_walk tasks level start t in
      let some : 0 < length (level_at tasks level t) = some_at tasks level t within next.some in
      let test : is_quiet tasks level t ≡ false = ne_eqb (length (level_at tasks level t)) 0 (λ e. omega arith) in
      let after : greatest_walk tasks level start (suc t) ≡ risen tasks level walk t = cond-false (is_quiet tasks level t) walk (risen tasks level walk t) test in
      let now : backlog - (t - since) + times ≡ backlog_now walk t + greatest_times tasks (level_at tasks level t) =
      ap₂ (λ x y. x - (t - y) + times) here.backlog_is here.since_is ∙ ap (λ x. backlog_now walk t + x) e in
      let next_is : suc t ≡ t + 1 = omega arith in
      subst (λ n. IsWalked tasks level start n backlog' t most' work') next_is (record {
        backlog_is = b ∙ now ∙ ap (λ (w : WalkState). w.backlog) (sym after);
        since_is = ap (λ (w : WalkState). w.since) (sym after);
        most_is = m ∙ ap₂ max here.most_is now ∙ ap (λ (w : WalkState). w.most) (sym after);
        work_is = omega (arith, w, here.work_is, work_suc t, e);
      })

  -- all within the start and the work so far
  walk_within : (start t : ℕ) → ((greatest_walk tasks level start t).backlog ≤ start + greatest_times tasks (level_before tasks level t)) × ((greatest_walk tasks level start t).most ≤ start + greatest_times tasks (level_before tasks level t))
  walk_within start zero = (omega arith, omega arith)
  walk_within start (suc t) =
      let walk : WalkState = greatest_walk tasks level start t in
      let before : ℕ = greatest_times tasks (level_before tasks level t) in
      let after : ℕ = greatest_times tasks (level_before tasks level (suc t)) in
      let ih : (walk.backlog ≤ start + before) × (walk.most ≤ start + before) = walk_within start t in
      let low : walk.backlog ≤ start + before = ih.0 in
      let most : walk.most ≤ start + before = ih.1 in
      cond_both (is_quiet tasks level t) walk (risen tasks level walk t) (λ w. (w.backlog ≤ start + after) × (w.most ≤ start + after))
      (λ e. (omega (arith, work_suc t), omega (arith, work_suc t)))
      (λ e. (omega (arith, work_suc t), omega (arith, work_suc t)))

pub greatest_numbers_are_low : GreatestNumbersAreLow
greatest_numbers_are_low tasks level apart =
    (omega (arith, (walk_within tasks level apart 0 (hyperperiod tasks)).0), (walk_within tasks level apart (worst_backlog tasks level) (hyperperiod tasks)).1)

-- ---- sums of greatest times

pub times_push : (tasks : List Task) (jobs : List Job) (job : Job) → greatest_times tasks (jobs ++ job ∷ []) ≡ greatest_times tasks jobs + greatest (table_of tasks job)
times_push tasks jobs job =
    sum_by-append (λ (j : Job). greatest (table_of tasks j)) jobs (job ∷ [])
    ∙ ap (λ x. greatest_times tasks jobs + x) (sum_by-cons (λ (j : Job). greatest (table_of tasks j)) job [] ∙ add-zero (greatest (table_of tasks job)))

-- a job's greatest time is within the limit
pub time_low : (cap : ℕ) (tasks : List Task) (job : Job) → All (IsTask cap) tasks → job.task < length tasks → greatest (table_of tasks job) ≤ TIME_LIMIT
time_low cap tasks job are low =
    let own : IsTask cap (task_at tasks job.task) = are job.task _ low in
    own.times (job.number % length (task_at tasks job.task).cycle) [] (mod-lt job.number own.cycle_low)
