-- The steps of a walk, and what is known of it where it stands at a number or was too high.
use Rattle.std.proofs.Common.{◌≡◌, ℕ, zero, suc, ◌+◌, ◌*◌, ◌%◌, ◌^◌, ◌≤◌, ◌<◌, ◌↔◌, All, Option, Some, None, Bool, true, false, not, ◌&&◌, ◌||◌, nat_le, List, [], ◌∷◌, ◌++◌, length, get_or, find, refl, ap, sym, ◌∙◌, subst, arith, ⊎_elim, mul-le-mul_left}
use Rattle.std.specs.Int.{div_ceil}
use Rattle.std.specs.List.{AllByRecursion as Each, list_all, range_with_len}
use Rattle.std.proofs.Math.Nat.{mod-lt}
use Rattle.std.proofs.lemmas.List.FromFn.{length-range_with_len, get_or-range_with_len}
use Rattle.std.proofs.lemmas.Bool.{cases_Bool, cond-true, cond-false, and_right, le-leb, lt-leb}
use Rattle.std.proofs.lemmas.List.Elements.{All-from_recursion, recursion_from_All}
use Rattle.std.proofs.lemmas.List.Sums.{fold-append, AllPass-from_list_all}
use Rattle.prta_mass.specs.Table.{Table}
use Rattle.prta_sheet.specs.Sheet.{Task, task_at, table_in, hyperperiod}
use Rattle.prta_sheet.specs.Job.{Job, table_of}
use Rattle.prta_jobs.specs.Instant.{IsLeastRelease}
use Rattle.prta_backlog.specs.Level.{Level, has_task, level_at}
use Rattle.prta_backlog.proofs.Released.{none_at}
use Rattle.prta_tail.specs.declared.ratio.Ratio.{Ratio}
use Rattle.prta_tail.specs.Ratios.{IsProper}
use Rattle.prta_tail.specs.Walk.{WalkNumber, StandsAt, IsWalk, grows_low, level_grows_low, after_tick, after_release, after_releases, walk_to, factor, walk_ends_low}
use Rattle.prta_tail.proofs.Products.{ceil_least}

-- ---- a tick and a release

module _ (r : Ratio) (is : IsProper r) where
  -- a tick doesn't raise the number
  pub tick_falls : (number : ℕ) → div_ceil (number * r.p) r.q ≤ number
  tick_falls number =
      let below : r.p ≤ r.q = omega (arith, is.below_one) in
      ceil_least (number * r.p) r.q number (omega (arith, is.below_one)) (mul-le-mul_left number below)

  pub ticked : (walk : WalkNumber) (number : ℕ) → StandsAt walk number → StandsAt (after_tick r walk) (div_ceil (number * r.p) r.q)
  ticked walk number stands =
      let falls : div_ceil (walk.now * r.p) r.q ≤ walk.now = tick_falls walk.now in
      record {
        now = ap (λ x. div_ceil (x * r.p) r.q) stands.now;
        reached = omega arith;
        low = omega (arith, falls, stands.reached, stands.low);
      }

pub ticked_high : (r : Ratio) (walk : WalkNumber) → 2 ^ 63 < walk.most → 2 ^ 63 < (after_tick r walk).most
ticked_high r walk high = omega (arith, high)

pub released_high : (r : Ratio) (table : Table) (walk : WalkNumber) → 2 ^ 63 < walk.most → 2 ^ 63 < (after_release r table walk).most
released_high r table walk high = omega (arith, high)

module _ (r : Ratio) (table : Table) (walk : WalkNumber) (number next : ℕ) (stands : StandsAt walk number) (next_is : next ≡ div_ceil (number * factor r table) (2 ^ 32)) where
  next_same : next ≡ (after_release r table walk).now
  next_same = next_is ∙ ap (λ x. div_ceil (x * factor r table) (2 ^ 32)) (sym stands.now)

  pub released_over : 2 ^ 63 < next → 2 ^ 63 < (after_release r table walk).most
  released_over high = omega (arith, high, next_same)

  pub released_within : next ≤ 2 ^ 63 → StandsAt (after_release r table walk) next
  released_within low = record { now = sym next_same; reached = omega arith; low = omega (arith, low, next_same, stands.low) }

-- one job more
pub releases_push : (r : Ratio) (table : Job → Table) (jobs : List Job) (job : Job) (walk : WalkNumber) →
    after_releases r table (jobs ++ job ∷ []) walk ≡ after_release r (table job) (after_releases r table jobs walk)
releases_push r table jobs job walk = fold-append (λ (walk : WalkNumber) (job : Job). after_release r (table job) walk) walk jobs (job ∷ [])

pub releases-append : (r : Ratio) (table : Job → Table) (jobs more : List Job) (walk : WalkNumber) →
    after_releases r table (jobs ++ more) walk ≡ after_releases r table more (after_releases r table jobs walk)
releases-append r table jobs more walk = fold-append (λ (walk : WalkNumber) (job : Job). after_release r (table job) walk) walk jobs more

-- ---- over time

module _ (tasks : List Task) (level : Level) (r : Ratio) where
  -- up to the next instant nothing is released
  pub quiet_walk : (t : ℕ) (number : Option ℕ) → level_at tasks level t ≡ [] → IsWalk (walk_to tasks level r t) number →
      IsWalk (after_releases r (table_of tasks) (level_at tasks level t) (walk_to tasks level r t)) number
  quiet_walk t number none is = subst (λ (jobs : List Job). IsWalk (after_releases r (table_of tasks) jobs (walk_to tasks level r t)) number) (sym none) is

  pub quiet_before : (from at : ℕ) → IsLeastRelease tasks (has_task level) from at → from < at → level_at tasks level from ≡ []
  quiet_before from at next early = none_at tasks level from (next.least from (omega arith) early)

  pub stays_next : (from at : ℕ) → IsLeastRelease tasks (has_task level) from at → from < at → IsLeastRelease tasks (has_task level) (from + 1) at
  stays_next from at next early = record { reached = omega arith; some = next.some; least = λ t low high. next.least t (omega arith) high }

  pub ends_low_at : (number : ℕ) → StandsAt (walk_to tasks level r (hyperperiod tasks)) number → nat_le number (2 ^ 40) ≡ walk_ends_low tasks level r
  ends_low_at number stands =
      let walk : WalkNumber = walk_to tasks level r (hyperperiod tasks) in
      let within : nat_le walk.most (2 ^ 63) ≡ true = le-leb walk.most (2 ^ 63) stands.low in
      ap (λ x. nat_le x (2 ^ 40)) (sym stands.now) ∙ also (nat_le walk.now (2 ^ 40)) (nat_le walk.most (2 ^ 63)) within
    where
      also : (a b : Bool) → b ≡ true → a ≡ (a && b)
      also true b e = sym e
      also false b e = refl

  pub ends_high : 2 ^ 63 < (walk_to tasks level r (hyperperiod tasks)).most → false ≡ walk_ends_low tasks level r
  ends_high high =
      let walk : WalkNumber = walk_to tasks level r (hyperperiod tasks) in
      sym (and_right (nat_le walk.now (2 ^ 40)) (nat_le walk.most (2 ^ 63)) (lt-leb walk.most (2 ^ 63) high))

-- the tables of a task of a level whose growth is low
pub task_grows_low : (tasks : List Task) (level : Level) (r : Ratio) → level_grows_low tasks level r ≡ true → (i : ℕ) → has_task level i ≡ true → i < length tasks → list_all (grows_low r) (task_at tasks i).cycle ≡ true
task_grows_low tasks level r low i member near =
    let n : ℕ = length tasks in
    let test : ℕ → Bool = λ i. not (has_task level i) || list_all (grows_low r) (task_at tasks i).cycle in
    let size : length (range_with_len 0 n) ≡ n = length-range_with_len 0 n in
    let here : get_or (range_with_len 0 n) i 0 ≡ i = get_or-range_with_len 0 n i 0 near ∙ omega arith in
    let passes : test i ≡ true = subst (λ k. test k ≡ true) here (AllPass-from_list_all test (range_with_len 0 n) low i 0 (omega arith)) in
    second (has_task level i) (list_all (grows_low r) (task_at tasks i).cycle) member passes
  where
    second : (a b : Bool) → a ≡ true → (not a || b) ≡ true → b ≡ true
    second true b e h = h
    second false b e h = absurd (cc)

-- and that of each of its jobs
pub job_grows_low : (r : Ratio) (task : Task) (number : ℕ) → 1 ≤ length task.cycle → list_all (grows_low r) task.cycle ≡ true → grows_low r (table_in task number) ≡ true
job_grows_low r task number some low = AllPass-from_list_all (grows_low r) task.cycle low (number % length task.cycle) [] (mod-lt number some)

-- ---- the first that passes

module _ {X : Type 0} (p : X → Bool) where
  pub find_here : (xs : List X) (i : ℕ) (d : X) → i < length xs → ((k : ℕ) → k < i → p (get_or xs k d) ≡ false) → p (get_or xs i d) ≡ true → find p xs ≡ Some (get_or xs i d)
  find_here [] i d low before here = absurd (omega arith)
  find_here (x ∷ xs) zero d low before here = cond-true (p x) (Some x) (find p xs) here
  find_here (x ∷ xs) (suc i) d low before here =
      cond-false (p x) (Some x) (find p xs) (before 0 (omega arith)) ∙ find_here xs i d (omega arith) (λ k l. before (suc k) (omega arith)) here

  -- none is found exactly where none passes
  none_each : (xs : List X) → find p xs ≡ None → Each (λ x. p x ≡ false) xs
  none_each [] e = tt
  none_each (x ∷ xs) e = ⊎_elim
      (λ (yes : p x ≡ true). absurd (let some : Some x ≡ None = sym (cond-true (p x) (Some x) (find p xs) yes) ∙ e in cc))
      (λ (no : p x ≡ false). (no, none_each xs (sym (cond-false (p x) (Some x) (find p xs) no) ∙ e)))
      (cases_Bool (p x))

  each_none : (xs : List X) → Each (λ x. p x ≡ false) xs → find p xs ≡ None
  each_none [] h = refl
  each_none (x ∷ xs) h = cond-false (p x) (Some x) (find p xs) h.0 ∙ each_none xs h.1

  pub none_found : (found : Option X) (xs : List X) → found ≡ find p xs → (found ≡ None) ↔ All (λ x. p x ≡ false) xs
  none_found found xs is = (
    λ none. All-from_recursion (λ x. p x ≡ false) xs (none_each xs (sym is ∙ none)),
    λ all. is ∙ each_none xs (recursion_from_All (λ x. p x ≡ false) xs all),
  )

  pub find_none : (xs : List X) (d : X) → ((k : ℕ) → k < length xs → p (get_or xs k d) ≡ false) → find p xs ≡ None
  find_none [] d all = refl
  find_none (x ∷ xs) d all = cond-false (p x) (Some x) (find p xs) (all 0 (omega arith)) ∙ find_none xs d (λ k l. all (suc k) (omega arith))
