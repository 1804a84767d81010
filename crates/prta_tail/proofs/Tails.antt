-- The backlog at every hyperperiod has a geometric tail, and the base list bounds it.
use Rattle.std.proofs.Common.{◌≡◌, ℕ, zero, suc, ◌+◌, ◌-◌, ◌*◌, ◌^◌, ◌≤◌, ◌<◌, max, Bool, true, false, nat_le, nat_lt, All, List, [], ◌∷◌, ◌++◌, sum_by, refl, ap, sym, ◌∙◌, subst, arith, ⊎_elim, mul-le-mul_left, mul-le-mul_right, mul_comm, zero-mul, suc-mul}
use Rattle.std.specs.List.{AllByRecursion as Each}
use Rattle.std.proofs.Math.Nat.{le_of_mul-le-mul_right, pow-suc, pow-zero, one-le-pow, pow-le-pow_left, mul-sub}
use Rattle.std.proofs.lemmas.Nat.{pow-add}
use Rattle.std.proofs.lemmas.List.Sums.{sum_by-cons}
use Rattle.std.proofs.lemmas.Bool.{cases_lt, cond_both}
use Rattle.std.proofs.lemmas.Bool.Decides.{nat_tests}
use Rattle.prta_mass.specs.Unit.{unit}
use Rattle.prta_mass.specs.Table.{Table, IsTable, total}
use Rattle.prta_mass.specs.Chances.{at}
use Rattle.prta_mass.specs.declared.direction.Dir.TheVariants.{Up}
use Rattle.prta_sheet.specs.Sheet.{Task, cycle_ticks, hyperperiod}
use Rattle.prta_sheet.specs.Job.{Job, table_of, jobs_before}
use Rattle.prta_sheet.specs.Assignment.{Timed, total_of}
use Rattle.prta_sheet.specs.Weights.{one_if, weigh}
use Rattle.prta_sheet.proofs.Each.{Each-weaker}
use Rattle.prta_sheet.proofs.Weighing.{weigh-same_on, weigh-times, weigh_one, weigh_constant, listed_passing}
use Rattle.prta_sheet.proofs.Sums.{sum_by-same}
use Rattle.prta_jobs.specs.Backlog.{backlog_at}
use Rattle.prta_ticksim.proofs.Each.{Pairs}
use Rattle.prta_ticksim.proofs.JobOrder.{IsBefore, before_is}
use Rattle.prta_backlog.specs.Level.{Level, level_before}
use Rattle.prta_backlog.specs.Greatest.{worst_backlog}
use Rattle.prta_backlog.specs.Laws.{HaveTables}
use Rattle.prta_backlog.proofs.Released.{Each-filter}
use Rattle.prta_response.specs.Backlog.{level_backlog, BoundsBacklog}
use Rattle.prta_response.proofs.Backlogs.{of_level, backlog_from_shares}
use Rattle.prta_response.proofs.JobsFrom.{IsWithin}
use Rattle.prta_response.proofs.Operations.{settled_bounds}
use Rattle.prta_response.proofs.Shares.{Bounds}
use Rattle.prta_response.proofs.Weighing.{timed, weigh-le, weigh-plus, weigh-append}
use Rattle.prta_tail.specs.declared.ratio.Ratio.{Ratio}
use Rattle.prta_tail.specs.Walk.{grown, factor, ratio_passes}
use Rattle.prta_tail.specs.Tail.{shrunk, base_cell, base_list, weight_above}
use Rattle.prta_tail.specs.Laws.{HasTail}
use Rattle.prta_tail.proofs.Products.{product, product-map, product_positive, times_positive, ceil-times}
use Rattle.prta_tail.proofs.Worth.{IsTiming, Each_timing, Pairs_timing, weigh-le_on, grown_power, left, worth, worth_power, weigh-worth, scale, passing_factors}
use Rattle.prta_tail.proofs.Windows.{window, window_split, window_within, window_listed, before_listed, are_tables, window_in_order, window_product, ByRelease, ends_within, backlog_then, ends_at_most}
use Rattle.prta_tail.proofs.Outside.{outside, weigh-filter, total-filter}

-- ---- sums over assignments

module _ (table : Job → Table) where
  -- a weighted sum of numbers
  weigh-mean : (pairs : Table) (jobs : List Job) (f : ℕ → List Timed → ℕ) → weigh table jobs (λ y. sum_by (λ pair. pair.1 * f pair.0 y) pairs) ≡ sum_by (λ pair. pair.1 * weigh table jobs (f pair.0)) pairs
  weigh-mean [] jobs f = weigh_constant table 0 jobs ∙ omega arith
  weigh-mean (pair ∷ pairs) jobs f =
      let rest : List Timed → ℕ = λ y. sum_by (λ (pair : ℕ × ℕ). pair.1 * f pair.0 y) pairs in
      weigh-same_on table jobs _ (λ y. pair.1 * f pair.0 y + rest y) (λ y h. sum_by-cons (λ (pair : ℕ × ℕ). pair.1 * f pair.0 y) pair pairs)
      ∙ weigh-plus table jobs (λ y. pair.1 * f pair.0 y) rest
      ∙ omega (arith, weigh-times table pair.1 jobs (f pair.0), weigh-mean pairs jobs f, sum_by-cons (λ (pair : ℕ × ℕ). pair.1 * weigh table jobs (f pair.0)) pair pairs)

  -- two sums over assignments change places
  weigh-swap : (jobs more : List Job) (f : List Timed → List Timed → ℕ) → weigh table jobs (λ a. weigh table more (λ y. f a y)) ≡ weigh table more (λ y. weigh table jobs (λ a. f a y))
  weigh-swap [] more f = refl
  weigh-swap (job ∷ jobs) more f =
      sum_by-same _ _ (λ pair. ap (λ s. pair.1 * s) (weigh-swap jobs more (λ a y. f (timed job pair.0 ∷ a) y))) (table job)
      ∙ sym (weigh-mean (table job) more (λ c y. weigh table jobs (λ a. f (timed job c ∷ a) y)))

  total-append : (jobs more : List Job) → total_of table (jobs ++ more) ≡ total_of table jobs * total_of table more
  total-append [] more = omega arith
  total-append (job ∷ jobs) more = ap (λ s. total (table job) * s) (total-append jobs more) ∙ omega arith

  -- ---- one hyperperiod more, at one work of that hyperperiod

  module _ (jobs : List Job) (b : List Timed → ℕ) (p q worst hyper : ℕ) (some_p : 0 < p) (below_one : p ≤ q) where
    -- the weights of the assignments with a number above n
    abbrev over : ℕ → ℕ
    over n = weigh table jobs (λ a. one_if (nat_lt n (b a)))

    one_if-most : (x : Bool) → one_if x ≤ 1
    one_if-most x = elim x as (λ x. one_if x ≤ 1) [ true ↦ omega arith | false ↦ omega arith ]

    each_work : ((n : ℕ) → worst ≤ n → over n * q ^ (n + 1 - worst) ≤ total_of table jobs * p ^ (n + 1 - worst)) → (k w v e : ℕ) → worst ≤ k → e * q ^ w ≤ v * p ^ w →
        weigh table jobs (λ a. one_if (nat_lt (k + hyper) (b a + w))) * (q ^ (k + 1 - worst + hyper) * e) ≤ total_of table jobs * p ^ (k + 1 - worst + hyper) * v
    each_work h k w v e l power = ⊎_elim
        (λ (near : k + hyper < worst + w).
        let N : ℕ = k + 1 - worst + hyper in
        let d : ℕ = w - N in
        let split : w ≡ N + d = omega arith in
        let all : weigh table jobs (λ a. one_if (nat_lt (k + hyper) (b a + w))) ≤ total_of table jobs =
        subst (λ x. weigh table jobs (λ a. one_if (nat_lt (k + hyper) (b a + w))) ≤ x) (weigh_one table jobs) (weigh-le table jobs _ (λ a. 1) (λ a. one_if-most (nat_lt (k + hyper) (b a + w)))) in
        let power' : e * (q ^ N * q ^ d) ≤ v * (p ^ N * p ^ d) = subst (λ x. e * x ≤ v * (p ^ N * p ^ d)) (ap (λ i. q ^ i) split ∙ pow-add q N d) (subst (λ x. e * q ^ w ≤ v * x) (ap (λ i. p ^ i) split ∙ pow-add p N d) power) in
        small (weigh table jobs (λ a. one_if (nat_lt (k + hyper) (b a + w)))) (total_of table jobs) e v (q ^ N) (p ^ N) (q ^ d) (p ^ d) (one-le-pow d p some_p) (pow-le-pow_left below_one d) all power')
        (λ (far : worst + w ≤ k + hyper).
        let n : ℕ = k + hyper - w in
        let M : ℕ = n + 1 - worst in
        let split : k + 1 - worst + hyper ≡ M + w = omega arith in
        let same : weigh table jobs (λ a. one_if (nat_lt (k + hyper) (b a + w))) ≡ over n = weigh-same_on table jobs _ _ (λ a of_a. ap one_if (moved (b a) w (k + hyper) (omega arith))) in
        subst (λ i. weigh table jobs (λ a. one_if (nat_lt (k + hyper) (b a + w))) * (q ^ i * e) ≤ total_of table jobs * p ^ i * v) (sym split)
        (rw (same, pow-add q M w, pow-add p M w) (large (over n) (total_of table jobs) e v (q ^ M) (p ^ M) (q ^ w) (p ^ w) (h n (omega arith)) power)))
        (cases_lt (k + hyper) (worst + w))
      where
        moved : (x w n : ℕ) → w ≤ n → nat_lt n (x + w) ≡ nat_lt (n - w) x
        moved x w n l = grind (arith, nat_tests)

        large : (x t e v qm pm qw pw : ℕ) → x * qm ≤ t * pm → e * qw ≤ v * pw → x * (qm * qw * e) ≤ t * (pm * pw) * v
        large x t e v qm pm qw pw k l = omega (arith, mul-le-mul_right (qw * e) k, mul-le-mul_left (t * pm) l)

        small : (x t e v qn pn qd pd : ℕ) → 0 < pd → pd ≤ qd → x ≤ t → e * (qn * qd) ≤ v * (pn * pd) → x * (qn * e) ≤ t * pn * v
        small x t e v qn pn qd pd pos le all h =
            let cut : e * qn * pd ≤ v * pn * pd = omega (arith, mul-le-mul_left (e * qn) le) in
            let one : e * qn ≤ v * pn = le_of_mul-le-mul_right {k = pd} cut pos in
            omega (arith, mul-le-mul_right (qn * e) all, mul-le-mul_left t one)

-- ---- the tail

module _ (tasks : List Task) (level : Level) (r : Ratio) (some_p : 0 < r.p) (below_one : r.p ≤ r.q) (apart : level.higher level.own ≡ false) (have : HaveTables tasks)
    (short : All (λ task. task.offset < task.period) tasks) (cycles : All (λ task. 1 ≤ cycle_ticks task) tasks) (passes : ratio_passes tasks level r ≡ true) where
  abbrev table : Job → Table
  table = table_of tasks

  abbrev hyper : ℕ
  hyper = hyperperiod tasks

  abbrev worst : ℕ
  worst = worst_backlog tasks level

  -- the level's jobs of a later hyperperiod
  abbrev later_jobs : ℕ → List Job
  later_jobs m = window tasks level (m * hyper) hyper

  some_q : 0 < r.q
  some_q = omega arith

  later_tables : (m : ℕ) → Each (λ job. IsTable (table_of tasks job)) (later_jobs m)
  later_tables m = are_tables tasks have (later_jobs m) (window_listed tasks level (m * hyper) hyper)

  past_tables : (t : ℕ) → Each (λ job. IsTable (table_of tasks job)) (level_before tasks level t)
  past_tables t = are_tables tasks have (level_before tasks level t) (before_listed tasks level t)

  -- what a later hyperperiod's assignments are worth
  later_worth : (m : ℕ) → weigh table (later_jobs m) (worth (grown r)) * r.p ^ hyper ≤ total_of table (later_jobs m) * (product scale (later_jobs m) * r.q ^ hyper)
  later_worth m =
      let jobs : List Job = later_jobs m in
      let F : Job → ℕ = λ j. factor r (table_of tasks j) in
      let one : weigh table jobs (worth (grown r)) ≤ product F jobs * total_of table jobs =
      weigh-worth table (grown r) F jobs (Each-weaker (λ j. IsTable (table_of tasks j)) _ (λ j is. ceil-times _ (total (table_of tasks j)) is.weighs) jobs (later_tables m)) in
      let two : product F jobs * r.p ^ hyper ≤ product scale jobs * r.q ^ hyper =
      subst (λ x. x * r.p ^ hyper ≤ product scale jobs * r.q ^ hyper) (sym (window_product tasks short cycles level m (factor r)))
      (subst (λ x. product F (level_before tasks level hyper) * r.p ^ hyper ≤ x * r.q ^ hyper) (sym (window_product tasks short cycles level m (λ t. 2 ^ 32)))
      (passing_factors tasks level r some_p some_q apart passes)) in
      chain (weigh table jobs (worth (grown r))) (product F jobs) (total_of table jobs) (r.p ^ hyper) (product scale jobs) (r.q ^ hyper) one two
    where
      chain : (a f t p c q : ℕ) → a ≤ f * t → f * p ≤ c * q → a * p ≤ t * (c * q)
      chain a f t p c q k l = omega (arith, mul-le-mul_right p k, mul-le-mul_left t l)

  abbrev above : ℕ → ℕ → ℕ
  above s k = weigh table (level_before tasks level s) (λ a. one_if (nat_lt k (backlog_at 0 0 a s)))

  -- the backlog at s is above k with a chance of at most (p/q)^(k + 1 - B), for every k from B on
  abbrev TailAt : ℕ → Type 0
  TailAt s = (k : ℕ) → worst ≤ k → above s k * r.q ^ (k + 1 - worst) ≤ total_of table (level_before tasks level s) * r.p ^ (k + 1 - worst)

  -- where a hyperperiod ends, from the backlog at its start and its work
  ends : (m k : ℕ) → worst ≤ k → (a y : List Timed) → IsTiming table (level_before tasks level (m * hyper)) a → IsTiming table (later_jobs m) y →
      one_if (nat_lt k (backlog_at 0 0 (a ++ y) (m * hyper + hyper))) ≤ one_if (nat_lt (k + hyper) (backlog_at 0 0 a (m * hyper) + left y))
  ends m k l a y t u =
      let s : ℕ = m * hyper in
      let early : Each (λ e. e.job.release ≤ s) a =
      Each_timing (λ j. j.release ≤ s) table (level_before tasks level s) a (Each-filter _ (of_level level) (jobs_before tasks s) (Each-weaker (IsBefore s) _ (λ j low. omega arith) (jobs_before tasks s) (before_is tasks s))) t in
      let within : Each (IsWithin s hyper) (later_jobs m) = window_within tasks level s hyper in
      let late : Each (λ e. s ≤ e.job.release) y = Each_timing (λ j. s ≤ j.release) table (later_jobs m) y (Each-weaker (IsWithin s hyper) _ (λ j h. h.0) (later_jobs m) within) u in
      let before_end : Each (λ e. e.job.release ≤ s + hyper) y = Each_timing (λ j. j.release ≤ s + hyper) table (later_jobs m) y (Each-weaker (IsWithin s hyper) _ (λ j h. omega (arith, h.1)) (later_jobs m) within) u in
      let order : Pairs (λ a b. a.job.release ≤ b.job.release) y = Pairs_timing ByRelease table (later_jobs m) y (window_in_order tasks level s hyper) u in
      let joined : backlog_at 0 0 (a ++ y) (s + hyper) ≡ backlog_at (backlog_at 0 0 a s) s y (s + hyper) = backlog_then 0 0 s (s + hyper) a y (omega arith) early late (omega arith) in
      let most : backlog_at (backlog_at 0 0 a s) s y (s + hyper) ≤ max (backlog_at 0 0 a s + left y - (s + hyper - s)) (backlog_at 0 s y (s + hyper)) =
      ends_at_most (backlog_at 0 0 a s) s (s + hyper) y order late before_end (omega arith) in
      let turned : hyper + s ≡ s + hyper = omega arith in
      let empty : backlog_at 0 s y (s + hyper) ≤ worst = subst (λ t. backlog_at 0 s y t ≤ worst) turned (ends_within tasks short cycles level m apart y u.listed u.within) in
      number k hyper s worst (backlog_at 0 0 (a ++ y) (s + hyper)) (backlog_at (backlog_at 0 0 a s) s y (s + hyper)) (backlog_at 0 0 a s + left y) (backlog_at 0 s y (s + hyper)) joined most empty l
    where
      number : (k h s w x y z v : ℕ) → x ≡ y → y ≤ max (z - (s + h - s)) v → v ≤ w → w ≤ k → one_if (nat_lt k x) ≤ one_if (nat_lt (k + h) z)
      number k h s w x y z v e l m n = grind (arith, nat_tests)

  -- one hyperperiod later
  later_tail : (m : ℕ) → TailAt (m * hyper) → TailAt (m * hyper + hyper)
  later_tail m h k l =
      let s : ℕ = m * hyper in
      let xs : List Job = level_before tasks level s in
      let ys : List Job = later_jobs m in
      let N : ℕ = k + 1 - worst in
      let b : List Timed → ℕ = λ a. backlog_at 0 0 a s in
      let e : ℕ = product scale ys in
      let part : ℕ → ℕ = λ w. weigh table xs (λ a. one_if (nat_lt (k + hyper) (b a + w))) in
      let joined : ℕ = weigh table ys (λ y. part (left y)) in
      let split : level_before tasks level (s + hyper) ≡ xs ++ ys = window_split tasks level s hyper in
      let most : above (s + hyper) k ≤ joined =
      subst (λ x. x ≤ joined) (sym (ap (λ js. weigh table js (λ a. one_if (nat_lt k (backlog_at 0 0 a (s + hyper))))) split ∙ weigh-append table xs ys (λ a. one_if (nat_lt k (backlog_at 0 0 a (s + hyper))))))
      (subst (λ x. weigh table xs (λ a. weigh table ys (λ y. one_if (nat_lt k (backlog_at 0 0 (a ++ y) (s + hyper))))) ≤ x) (weigh-swap table xs ys (λ a y. one_if (nat_lt (k + hyper) (b a + left y))))
      (weigh-le_on table xs _ _ (past_tables s) (λ a t. weigh-le_on table ys _ _ (later_tables m) (λ y u. ends m k l a y t u)))) in
      let each : (r.q ^ (N + hyper) * e) * joined ≤ (total_of table xs * r.p ^ (N + hyper)) * weigh table ys (worth (grown r)) =
      subst (λ x. x ≤ (total_of table xs * r.p ^ (N + hyper)) * weigh table ys (worth (grown r))) (weigh-times table (r.q ^ (N + hyper) * e) ys (λ y. part (left y)))
      (subst (λ x. weigh table ys (λ y. (r.q ^ (N + hyper) * e) * part (left y)) ≤ x) (weigh-times table (total_of table xs * r.p ^ (N + hyper)) ys (worth (grown r)))
      (weigh-le_on table ys _ _ (later_tables m) (λ y u.
      let scales : product (λ (x : Timed). 2 ^ 32) y ≡ e = sym (product-map scale (λ x. x.job) y) ∙ ap (product scale) u.listed in
      let power : e * r.q ^ left y ≤ worth (grown r) y * r.p ^ left y = subst (λ x. x * r.q ^ left y ≤ worth (grown r) y * r.p ^ left y) scales (worth_power (2 ^ 32) r.p r.q (grown r) (grown_power r some_p) y) in
      turned (part (left y)) (r.q ^ (N + hyper) * e) (total_of table xs * r.p ^ (N + hyper)) (worth (grown r) y)
      (each_work table xs b r.p r.q worst hyper some_p below_one h k (left y) (worth (grown r) y) e l power)))) in
      let mean : weigh table ys (worth (grown r)) * r.p ^ hyper ≤ total_of table ys * (e * r.q ^ hyper) = later_worth m in
      subst (λ t. above (s + hyper) k * r.q ^ N ≤ t * r.p ^ N) (sym (ap (total_of table) split ∙ total-append table xs ys))
      (chain (above (s + hyper) k) joined (r.q ^ N) (r.q ^ hyper) e (r.p ^ N) (r.p ^ hyper) (total_of table xs) (total_of table ys) (weigh table ys (worth (grown r)))
      (one-le-pow hyper r.q some_q) (one-le-pow hyper r.p some_p) (product_positive (2 ^ 32) (omega arith) ys)
      most (subst (λ i. i * e * joined ≤ total_of table xs * (r.p ^ N * r.p ^ hyper) * weigh table ys (worth (grown r))) (pow-add r.q N hyper) (subst (λ i. r.q ^ (N + hyper) * e * joined ≤ total_of table xs * i * weigh table ys (worth (grown r))) (pow-add r.p N hyper) each)) mean)
    where
      turned : (x a t v : ℕ) → x * a ≤ t * v → a * x ≤ t * v
      turned x a t v h = omega (arith, mul_comm a x)

      chain : (x j qn qh e pn ph tx ty v : ℕ) → 0 < qh → 0 < ph → 0 < e → x ≤ j → (qn * qh) * e * j ≤ tx * (pn * ph) * v → v * ph ≤ ty * (e * qh) → x * qn ≤ (tx * ty) * pn
      chain x j qn qh e pn ph tx ty v a b c k l m =
          le_of_mul-le-mul_right {k = qh * e * ph} (omega (arith, mul-le-mul_right (qn * (qh * e * ph)) k, mul-le-mul_right ph l, mul-le-mul_left (tx * pn * ph) m))
          (times_positive (qh * e) ph (times_positive qh e a c) b)

  -- at every hyperperiod
  tail_at : (m : ℕ) → TailAt (m * hyper)
  tail_at zero = subst TailAt (sym (zero-mul hyper)) start
    where
      start : TailAt 0
      start k l =
          let none : one_if (nat_lt k 0) ≡ 0 = grind (arith, nat_tests) in
          omega (arith, ap (λ x. x * r.q ^ (k + 1 - worst)) none)
  tail_at (suc m) =
      let e : m * hyper + hyper ≡ suc m * hyper = omega (arith, suc-mul m hyper) in
      subst TailAt e (later_tail m (tail_at m))

  -- ---- over all jobs, of the level and outside it

  -- the assignments for all jobs under which the level's backlog is above k
  all_above : (s k : ℕ) → weight_above tasks level s k ≡ weigh table (jobs_before tasks s) (λ a. one_if (nat_lt k (level_backlog level a s)))
  all_above s k = listed_passing table (jobs_before tasks s) (λ a. nat_lt k (level_backlog level a s))

  pub has_tail : (m : ℕ) → HasTail tasks level r (m * hyper)
  has_tail m k l =
      let s : ℕ = m * hyper in
      let jobs : List Job = jobs_before tasks s in
      let out : ℕ = outside table (of_level level) jobs in
      let weight : weight_above tasks level s k ≡ out * above s k = all_above s k ∙ weigh-filter table (of_level level) jobs (λ a. one_if (nat_lt k (backlog_at 0 0 a s))) in
      rw (weight, total-filter table (of_level level) jobs) (widened out (above s k) (total_of table (level_before tasks level s)) (r.q ^ (k + 1 - worst)) (r.p ^ (k + 1 - worst)) (tail_at m k l))
    where
      widened : (o x t q p : ℕ) → x * q ≤ t * p → o * x * q ≤ o * t * p
      widened o x t q p h = omega (arith, mul-le-mul_left o h)

  -- ---- the base list

  -- what is left of the unit after n steps is at least the n-th power of p/q
  shrunk_power : (n : ℕ) → unit * r.p ^ n ≤ shrunk r n * r.q ^ n
  shrunk_power zero = rw (pow-zero r.q, pow-zero r.p) (omega arith)
  shrunk_power (suc n) =
      let step : shrunk r n * r.p ≤ shrunk r (suc n) * r.q = ceil-times (shrunk r n * r.p) r.q some_q in
      rw (pow-suc r.q n, pow-suc r.p n) (chain unit (r.p ^ n) r.p (shrunk r n) (r.q ^ n) (shrunk r (suc n)) r.q (shrunk_power n) step)
    where
      chain : (c a q g b h p : ℕ) → c * a ≤ g * b → g * q ≤ h * p → c * (a * q) ≤ h * (b * p)
      chain c a q g b h p k l = omega (arith, mul-le-mul_right q k, mul-le-mul_right b l)

  -- where the backlog has the tail, the base list bounds it
  base_shares : (cap s : ℕ) → 0 < cap → HasTail tasks level r s → Bounds Up table (at (base_list tasks level cap r)) (jobs_before tasks s) (λ a. level_backlog level a s)
  base_shares cap s some h = settled_bounds table Up (jobs_before tasks s) (base_cell r worst) cap (λ a. level_backlog level a s) some every
    where
      one_of : (n k : ℕ) → one_if (nat_le n k) + one_if (nat_lt k n) ≡ 1
      one_of n k = grind (arith, nat_tests)

      number : (u t x w tot qn pn : ℕ) → 0 < qn → w + x ≡ tot → x * qn ≤ tot * pn → u * pn ≤ t * qn → (u - t) * tot ≤ u * w
      number u t x w tot qn pn pos e k l =
          let cut : u * x ≤ t * tot = le_of_mul-le-mul_right {k = qn} (omega (arith, mul-le-mul_left u k, mul-le-mul_left tot l)) pos in
          omega (arith, mul_comm (u - t) tot, mul-sub tot u t, ap (λ s. u * s) e)

      not_lt : (k n : ℕ) → nat_lt k n ≡ false → n ≤ k
      not_lt k n e = grind (arith, nat_tests)

      every : Bounds Up table (base_cell r worst) (jobs_before tasks s) (λ a. level_backlog level a s)
      every k =
          let xs : List Job = jobs_before tasks s in
          let b : List Timed → ℕ = λ a. level_backlog level a s in
          cond_both (nat_lt k worst) 0 (unit - shrunk r (k + 1 - worst)) (λ x. x * total_of table xs ≤ unit * weigh table xs (λ a. one_if (nat_le (b a) k)))
          (λ e. omega arith)
          (λ e.
          let l : worst ≤ k = not_lt k worst e in
          let both : weigh table xs (λ a. one_if (nat_le (b a) k)) + weigh table xs (λ a. one_if (nat_lt k (b a))) ≡ total_of table xs =
          sym (weigh-plus table xs (λ a. one_if (nat_le (b a) k)) (λ a. one_if (nat_lt k (b a)))) ∙ weigh-same_on table xs _ (λ a. 1) (λ a of_a. one_of (b a) k) ∙ weigh_one table xs in
          number unit (shrunk r (k + 1 - worst)) (weigh table xs (λ a. one_if (nat_lt k (b a)))) (weigh table xs (λ a. one_if (nat_le (b a) k))) (total_of table xs) (r.q ^ (k + 1 - worst)) (r.p ^ (k + 1 - worst))
          (one-le-pow (k + 1 - worst) r.q some_q) both
          (subst (λ x. x * r.q ^ (k + 1 - worst) ≤ total_of table xs * r.p ^ (k + 1 - worst)) (all_above s k) (h k l)) (shrunk_power (k + 1 - worst)))

  pub base_bounds : (cap s : ℕ) → 0 < cap → HasTail tasks level r s → BoundsBacklog Up tasks level s s (base_list tasks level cap r)
  base_bounds cap s some h = backlog_from_shares Up tasks level s s (base_list tasks level cap r) (base_shares cap s some h)
