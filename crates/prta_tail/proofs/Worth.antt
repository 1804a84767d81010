-- What an assignment is worth: the product of the growth over its times. The walk number bounds the mean worth of one hyperperiod's assignments.
use Rattle.std.proofs.Common.{◌≡◌, ℕ, zero, suc, ◌+◌, ◌*◌, ◌^◌, ◌≤◌, ◌<◌, Bool, true, false, ◌&&◌, nat_le, nat_eq, List, [], ◌∷◌, ◌++◌, filter, fold, sum_by, refl, ap, ap₂, sym, ◌∙◌, subst, arith, le_trans, mul-le-mul_left, mul-le-mul_right}
use Rattle.std.specs.List.{AllByRecursion as Each}
use Rattle.std.proofs.Math.Nat.{le_of_mul-le-mul_left, pow-suc, pow-zero}
use Rattle.std.proofs.lemmas.Nat.{pow-add}
use Rattle.std.proofs.lemmas.Bool.{leb-true, and_parts, ne_eqb}
use Rattle.std.proofs.lemmas.List.Elements.{filter-append, recursion_from_All}
use Rattle.std.proofs.lemmas.List.Sums.{sum_by-cons}
use Rattle.prta_mass.specs.Table.{Table, IsTable, total, greatest}
use Rattle.prta_sheet.specs.Sheet.{Task, hyperperiod}
use Rattle.prta_sheet.specs.Job.{Job, table_of, released_at, jobs_before}
use Rattle.prta_sheet.specs.Assignment.{Timed, total_of}
use Rattle.prta_sheet.specs.Weights.{weigh, jobs_of}
use Rattle.prta_sheet.proofs.Each.{Each-weaker, Each-from_map}
use Rattle.prta_sheet.proofs.Sums.{sum_by-same, sum_by-times}
use Rattle.prta_sheet.proofs.Weighing.{weigh-times}
use Rattle.prta_mass.proofs.Latest.{times_low}
use Rattle.prta_ticksim.proofs.Each.{Pairs, Pairs-from_map}
use Rattle.prta_backlog.specs.Level.{Level, has_task, level_at, level_before}
use Rattle.prta_response.proofs.Weighing.{timed}
use Rattle.prta_tail.specs.declared.ratio.Ratio.{Ratio}
use Rattle.prta_tail.specs.Walk.{grown, factor, WalkNumber, after_release, after_tick, walk_to, level_grows_low, ratio_passes}
use Rattle.prta_tail.proofs.Products.{product, product-append, product-filters, ceil-times}

-- ---- sums over assignments

-- a gives each of the jobs a time, none above the greatest of its table
pub record IsTiming (table : Job → Table) (jobs : List Job) (a : List Timed) : Type 0 where
  pub listed : jobs_of a ≡ jobs
  pub within : Each (λ e. e.time ≤ greatest (table e.job)) a

-- what holds of each job holds of each job with its time
pub Each_timing : (P : Job → Type 0) (table : Job → Table) (jobs : List Job) (a : List Timed) → Each P jobs → IsTiming table jobs a → Each (λ e. P e.job) a
Each_timing P table jobs a h t = Each-from_map P (λ e. e.job) a (subst (Each P) (sym t.listed) h)

pub Pairs_timing : (R : Job → Job → Type 0) (table : Job → Table) (jobs : List Job) (a : List Timed) → Pairs R jobs → IsTiming table jobs a → Pairs (λ e f. R e.job f.job) a
Pairs_timing R table jobs a h t = Pairs-from_map R (λ e. e.job) a (subst (Pairs R) (sym t.listed) h)

sum_by-each_le : {X : Type 0} (f g : X → ℕ) (xs : List X) → Each (λ x. f x ≤ g x) xs → sum_by f xs ≤ sum_by g xs
sum_by-each_le f g [] h = omega arith
sum_by-each_le f g (x ∷ xs) h = omega (arith, sum_by-cons f x xs, sum_by-cons g x xs, sum_by-each_le f g xs h.1, h.0)

module _ (table : Job → Table) where
  pub weigh-le_on : (jobs : List Job) (f g : List Timed → ℕ) → Each (λ job. IsTable (table job)) jobs → ((a : List Timed) → IsTiming table jobs a → f a ≤ g a) → weigh table jobs f ≤ weigh table jobs g
  weigh-le_on [] f g are h = h [] record { listed = refl; within = tt }
  weigh-le_on (job ∷ jobs) f g are h =
      sum_by-each_le _ _ (table job)
      (Each-weaker (λ (pair : ℕ × ℕ). pair.0 ≤ greatest (table job)) _
      (λ pair low. mul-le-mul_left pair.1
      (weigh-le_on jobs (λ rest. f (timed job pair.0 ∷ rest)) (λ rest. g (timed job pair.0 ∷ rest)) are.1
      (λ rest t. h (timed job pair.0 ∷ rest) record { listed = ap (λ (js : List Job). job ∷ js) t.listed; within = (low, t.within) })))
      (table job) (recursion_from_All _ (table job) (times_low (table job) are.0)))

-- ---- growth

-- the growth over n ticks is at least 2^32 times the n-th power of q/p
pub grown_power : (r : Ratio) → 0 < r.p → (n : ℕ) → 2 ^ 32 * r.q ^ n ≤ grown r n * r.p ^ n
grown_power r pos zero = rw (pow-zero r.q, pow-zero r.p) (omega arith)
grown_power r pos (suc n) =
    let step : grown r n * r.q ≤ grown r (suc n) * r.p = ceil-times (grown r n * r.q) r.p pos in
    rw (pow-suc r.q n, pow-suc r.p n) (chain (2 ^ 32) (r.q ^ n) r.q (grown r n) (r.p ^ n) (grown r (suc n)) r.p (grown_power r pos n) step)
  where
    chain : (c a q g b h p : ℕ) → c * a ≤ g * b → g * q ≤ h * p → c * (a * q) ≤ h * (b * p)
    chain c a q g b h p k l = omega (arith, mul-le-mul_right q k, mul-le-mul_right b l)

-- ---- what an assignment is worth

-- all times of some jobs
abbrev pub left : List Timed → ℕ
left a = sum_by (λ e. e.time) a

abbrev pub worth : (ℕ → ℕ) → List Timed → ℕ
worth g a = product (λ e. g e.time) a

-- at least the power of q/p to the work, times c for each job
pub worth_power : (c p q : ℕ) (g : ℕ → ℕ) → ((n : ℕ) → c * q ^ n ≤ g n * p ^ n) → (a : List Timed) → product (λ e. c) a * q ^ left a ≤ worth g a * p ^ left a
worth_power c p q g h [] = rw (pow-zero q, pow-zero p) (omega arith)
worth_power c p q g h (e ∷ a) =
    let sum : left (e ∷ a) ≡ e.time + left a = sum_by-cons (λ (e : Timed). e.time) e a in
    rw sum
    (rw (pow-add q e.time (left a), pow-add p e.time (left a))
    (chain c (product (λ e. c) a) (q ^ e.time) (q ^ left a) (g e.time) (worth g a) (p ^ e.time) (p ^ left a) (h e.time) (worth_power c p q g h a)))
  where
    chain : (c cs x xs g gs y ys : ℕ) → c * x ≤ g * y → cs * xs ≤ gs * ys → (c * cs) * (x * xs) ≤ (g * gs) * (y * ys)
    chain c cs x xs g gs y ys k l = omega (arith, mul-le-mul_right (cs * xs) k, mul-le-mul_left (g * y) l)

-- the sum over the assignments of what they are worth
pub weigh-worth : (table : Job → Table) (g : ℕ → ℕ) (F : Job → ℕ) (jobs : List Job) →
    Each (λ job. sum_by (λ pair. pair.1 * g pair.0) (table job) ≤ F job * total (table job)) jobs → weigh table jobs (worth g) ≤ product F jobs * total_of table jobs
weigh-worth table g F [] h = omega arith
weigh-worth table g F (job ∷ jobs) h =
    let rest : ℕ = weigh table jobs (worth g) in
    let spread : weigh table (job ∷ jobs) (worth g) ≡ rest * sum_by (λ pair. pair.1 * g pair.0) (table job) =
    sum_by-same _ _ (λ pair. ap (λ s. pair.1 * s) (weigh-times table (g pair.0) jobs (worth g)) ∙ omega arith) (table job)
    ∙ sum_by-times rest (λ pair. pair.1 * g pair.0) (table job) in
    rw spread (chain rest (sum_by (λ pair. pair.1 * g pair.0) (table job)) (product F jobs) (total_of table jobs) (F job) (total (table job)) (weigh-worth table g F jobs h.1) h.0)
  where
    chain : (a s f t g w : ℕ) → a ≤ f * t → s ≤ g * w → a * s ≤ (g * f) * (w * t)
    chain a s f t g w k l = omega (arith, mul-le-mul_right s k, mul-le-mul_left (f * t) l)

-- ---- the walk number

-- the releases of one instant
released_bound : (c : ℕ) (F : Job → ℕ) (step : WalkNumber → Job → WalkNumber) → ((w : WalkNumber) (j : Job) → w.now * F j ≤ (step w j).now * c) → (jobs : List Job) (w : WalkNumber) →
    w.now * product F jobs ≤ (fold step w jobs).now * product (λ j. c) jobs
released_bound c F step h [] w = omega arith
released_bound c F step h (job ∷ jobs) w =
    chain w.now (F job) (product F jobs) (step w job).now c (fold step (step w job) jobs).now (product (λ j. c) jobs) (h w job) (released_bound c F step h jobs (step w job))
  where
    chain : (x f fs y c z cs : ℕ) → x * f ≤ y * c → y * fs ≤ z * cs → x * (f * fs) ≤ z * (c * cs)
    chain x f fs y c z cs k l = omega (arith, mul-le-mul_right fs k, mul-le-mul_left c l)

abbrev pub scale : Job → ℕ
scale job = 2 ^ 32

module _ (tasks : List Task) (level : Level) (r : Ratio) (some_p : 0 < r.p) (some_q : 0 < r.q) where
  abbrev pub factors : Job → ℕ
  factors job = factor r (table_of tasks job)

  -- the level's jobs before a time, in the order of the walk
  abbrev walked_jobs : ℕ → List Job
  walked_jobs zero = []
  walked_jobs (suc t) = walked_jobs t ++ level_at tasks level t

  walk_bound : (t : ℕ) → 2 ^ 40 * (product factors (walked_jobs t) * r.p ^ t) ≤ (walk_to tasks level r t).now * (product scale (walked_jobs t) * r.q ^ t)
  walk_bound zero = rw (pow-zero r.q, pow-zero r.p) (omega arith)
  walk_bound (suc t) =
      let jobs : List Job = level_at tasks level t in
      let w : WalkNumber = walk_to tasks level r t in
      let step : WalkNumber → Job → WalkNumber = λ walk job. after_release r (table_of tasks job) walk in
      let w' : WalkNumber = fold step w jobs in
      let risen : w.now * product factors jobs ≤ w'.now * product scale jobs = released_bound (2 ^ 32) factors step (λ v j. ceil-times (v.now * factors j) (2 ^ 32) (omega arith)) jobs w in
      let fallen : w'.now * r.p ≤ (after_tick r w').now * r.q = ceil-times (w'.now * r.p) r.q some_q in
      rw (product-append factors (walked_jobs t) jobs, product-append scale (walked_jobs t) jobs, pow-suc r.q t, pow-suc r.p t)
      (chain (2 ^ 40) (product factors (walked_jobs t)) (product factors jobs) (r.p ^ t) w.now (product scale (walked_jobs t)) (r.q ^ t) w'.now (product scale jobs) r.p (after_tick r w').now r.q
      (walk_bound t) risen fallen)
    where
      chain : (a f1 f2 p1 x c1 q1 y c2 p z q : ℕ) → a * (f1 * p1) ≤ x * (c1 * q1) → x * f2 ≤ y * c2 → y * p ≤ z * q → a * ((f1 * f2) * (p1 * p)) ≤ z * ((c1 * c2) * (q1 * q))
      chain a f1 f2 p1 x c1 q1 y c2 p z q k l m = omega (arith, mul-le-mul_right (f2 * p) k, mul-le-mul_right (c1 * q1 * p) l, mul-le-mul_right (c1 * q1 * c2) m)

  module _ (apart : level.higher level.own ≡ false) where
    -- the products don't depend on the order within an instant
    walked_product : (f : Job → ℕ) (t : ℕ) → product f (walked_jobs t) ≡ product f (level_before tasks level t)
    walked_product f zero = refl
    walked_product f (suc t) =
        let higher : Job → Bool = λ j. level.higher j.task in
        let own : Job → Bool = λ j. nat_eq j.task level.own in
        let now : List Job = released_at 0 tasks t in
        let not_both : (j : Job) → higher j ≡ true → own j ≡ false =
        λ j h. ne_eqb j.task level.own (λ e. let same : level.higher level.own ≡ true = subst (λ k. level.higher k ≡ true) e h in cc) in
        product-append f (walked_jobs t) (level_at tasks level t)
        ∙ ap₂ (λ x y. x * y) (walked_product f t) (product-append f (filter higher now) (filter own now) ∙ product-filters higher own not_both f now)
        ∙ sym (product-append f (level_before tasks level t) (filter (λ (job : Job). has_task level job.task) now))
        ∙ ap (product f) (sym (filter-append (λ (job : Job). has_task level job.task) (jobs_before tasks t) now))

    -- what a passing ratio says of the factors
    pub passing_factors : ratio_passes tasks level r ≡ true →
        product factors (level_before tasks level (hyperperiod tasks)) * r.p ^ hyperperiod tasks ≤ product scale (level_before tasks level (hyperperiod tasks)) * r.q ^ hyperperiod tasks
    passing_factors e =
        let hyper : ℕ = hyperperiod tasks in
        let w : WalkNumber = walk_to tasks level r hyper in
        let ends : (nat_le w.now (2 ^ 40) && nat_le w.most (2 ^ 63)) ≡ true = (and_parts (level_grows_low tasks level r) (nat_le w.now (2 ^ 40) && nat_le w.most (2 ^ 63)) e).1 in
        let low : w.now ≤ 2 ^ 40 = leb-true w.now (2 ^ 40) ((and_parts (nat_le w.now (2 ^ 40)) (nat_le w.most (2 ^ 63)) ends).0) in
        subst (λ x. x * r.p ^ hyper ≤ product scale (level_before tasks level hyper) * r.q ^ hyper) (walked_product factors hyper)
        (subst (λ x. product factors (walked_jobs hyper) * r.p ^ hyper ≤ x * r.q ^ hyper) (walked_product scale hyper)
        (cancel (2 ^ 40) (product factors (walked_jobs hyper) * r.p ^ hyper) w.now (product scale (walked_jobs hyper) * r.q ^ hyper) (omega arith) low (walk_bound hyper)))
      where
        cancel : (a x y z : ℕ) → 0 < a → y ≤ a → a * x ≤ y * z → x ≤ z
        cancel a x y z pos l h = le_of_mul-le-mul_left {k = a} (le_trans h (mul-le-mul_right z l)) pos
