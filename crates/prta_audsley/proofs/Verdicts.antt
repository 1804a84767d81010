-- The verdicts hold.
use Rattle.std.proofs.Common.{◌≡◌, ℕ, ◌+◌, ◌*◌, ◌≤◌, ◌<◌, Bool, true, false, not, ◌&&◌, nat_eq, List, length, refl, ap, ap₂, sym, ◌∙◌, subst, arith, ⊎_elim, mul-le-mul_right, le_trans}
use Rattle.std.proofs.Math.Path.{fun_ext}
use Rattle.std.proofs.lemmas.List.{get_or_past}
use Rattle.std.proofs.lemmas.List.FromFn.{length-map-range_with_len, get_or-map-range_with_len}
use Rattle.std.proofs.lemmas.Bool.{cases_Bool, cases_lt, leb-true, le-leb}
use Rattle.prta_mass.specs.Unit.{unit}
use Rattle.prta_mass.specs.declared.direction.Dir.{Dir}
use Rattle.prta_mass.specs.declared.direction.Dir.TheVariants.{Up, Down}
use Rattle.prta_sheet.specs.Sheet.{Sheet, task_at}
use Rattle.prta_sheet.specs.Job.{Job, table_of, nth_job, deadline_of, jobs_before}
use Rattle.prta_sheet.specs.Counts.{job_count}
use Rattle.prta_sheet.specs.Chance.{miss_weight, chance_total, IsAround}
use Rattle.prta_sheet.specs.Accepted.{IsAccepted}
use Rattle.prta_sheet.specs.declared.limits.TheConstants.{TASK_LIMIT}
use Rattle.prta_sheet.proofs.Each.{Each-weaker}
use Rattle.prta_jobs.specs.TaskSet.{holds}
use Rattle.prta_jobs.specs.Permutation.{is_order, is_above}
use Rattle.prta_jobs.specs.Laws.{IsBefore}
use Rattle.prta_jobs.proofs.JobsBefore.{each_before}
use Rattle.prta_backlog.proofs.Released.{job_table}
use Rattle.prta_response.specs.Laws.{NumbersAreAround}
use Rattle.prta_audsley.specs.Passing.{level, number_passes, job_number, task_passes, order_passes, ChanceFails, ChancesPass, SomeChanceFails}
use Rattle.prta_audsley.specs.Greedy.{is_among, others, Outcome, Through, Stuck, IsPartOf, IsMonotone, EachPasses, IsFound, AreStuck, IsBlocked, FindsOrder, GreedyFindsOrders}
use Rattle.prta_audsley.specs.Fewer.{FewerRaiseNoUpper, FewerRaiseNoChance}
use Rattle.prta_audsley.specs.Verdict.{greedy_by, set_of, verdict_of, verdict, other_tasks, IsGoodOrder, NoOrderPasses, EveryOrderFails, IsStuck, Says, IsCause, VerdictHolds, VerdictsHold}
use Rattle.prta_audsley.specs.declared.assigned.Assigned.{Assigned}
use Rattle.prta_audsley.specs.declared.assigned.Assigned.TheVariants.{Order, Undecided, Impossible}
use Rattle.prta_audsley.proofs.Tables.{have_tables}
use Rattle.prta_audsley.proofs.Ranges.{all_in_range, in_range, some_in_range, all_in_order, in_order}
use Rattle.prta_audsley.proofs.Allowances.{chance_from_upper, chance_from_lower, some_total, not_passing}
use Rattle.prta_audsley.proofs.TaskLists.{among-filter}
use Rattle.prta_audsley.proofs.Reordered.{reordered, reordered_is, exactly, has_fewer}

-- ---- sets

holds_set : (left : List ℕ) → ((i : ℕ) → is_among left i ≡ true → i < TASK_LIMIT) → (i : ℕ) → holds (set_of left) i ≡ is_among left i
holds_set left few i = ⊎_elim
    (λ (low : i < TASK_LIMIT). get_or-map-range_with_len (is_among left) 0 TASK_LIMIT i i false low (omega arith))
    (λ (high : TASK_LIMIT ≤ i).
    get_or_past (set_of left) i false (omega (arith, length-map-range_with_len (is_among left) 0 TASK_LIMIT))
    ∙ ⊎_elim (λ (yes : is_among left i ≡ true). absurd (omega (arith, few i yes))) (λ (no : is_among left i ≡ false). sym no) (cases_Bool (is_among left i)))
    (cases_lt i TASK_LIMIT)

others_are : (left : List ℕ) → ((i : ℕ) → is_among left i ≡ true → i < TASK_LIMIT) → (task : ℕ) → other_tasks (set_of left) task ≡ others left task
others_are left few task = fun_ext (λ i. ap (λ b. not (nat_eq i task) && b) (holds_set left few i) ∙ swapped (not (nat_eq i task)) (is_among left i) ∙ sym (among-filter (λ i. not (nat_eq i task)) left i))
  where
    swapped : (a b : Bool) → (a && b) ≡ (b && a)
    swapped true true = refl
    swapped true false = refl
    swapped false true = refl
    swapped false false = refl

module _ (numbers : NumbersAreAround) (no_upper : FewerRaiseNoUpper) (no_chance : FewerRaiseNoChance) (finds : GreedyFindsOrders) (sheet : Sheet) (is : IsAccepted sheet) where
  abbrev n : ℕ
  n = length sheet.tasks

  abbrev allow : ℕ → ℕ × ℕ
  allow task = (task_at sheet.tasks task).allow

  total_is : (job : Job) → 0 < chance_total sheet.tasks job
  total_is job =
      some_total (table_of sheet.tasks) (jobs_before sheet.tasks (deadline_of sheet.tasks job))
      (Each-weaker (IsBefore sheet.tasks (deadline_of sheet.tasks job)) _ (λ other before. (job_table sheet.tasks other (have_tables sheet is) before.task).weighs) (jobs_before sheet.tasks (deadline_of sheet.tasks job)) (each_before sheet.tasks (deadline_of sheet.tasks job)))

  -- a task that passes below a set by Up passes below each part of it
  monotone : IsMonotone (task_passes Up sheet) n
  monotone set part task low sub all =
      all_in_range (λ k. number_passes (allow task) (job_number Up sheet part task k)) (job_count sheet task) (λ k few.
      let passes : job_number Up sheet set task k * (allow task).1 ≤ (allow task).0 * unit =
      leb-true (job_number Up sheet set task k * (allow task).1) ((allow task).0 * unit) (in_range (λ k. number_passes (allow task) (job_number Up sheet set task k)) (job_count sheet task) k all few) in
      let lower : job_number Up sheet part task k * (allow task).1 ≤ job_number Up sheet set task k * (allow task).1 = mul-le-mul_right ((allow task).1) (no_upper sheet set part task k is low sub) in
      le-leb (job_number Up sheet part task k * (allow task).1) ((allow task).0 * unit) (le_trans lower passes))

  -- ---- the greedy by Up

  each_from : (order : List ℕ) → is_order n order ≡ true → order_passes Up sheet order ≡ true → EachPasses (task_passes Up sheet) n order
  each_from order o all = in_order (λ task. task_passes Up sheet (is_above order task) task) n order o all

  -- under an order that passes every exact chance passes
  chances : (order : List ℕ) → is_order n order ≡ true → EachPasses (task_passes Up sheet) n order → ChancesPass sheet order
  chances order o all task k job =
      let u : ℕ = job_number Up sheet (is_above order task) task k in
      let around : IsAround sheet.tasks order (nth_job sheet.tasks task k) (job_number Down sheet (is_above order task) task k) u =
      numbers sheet (level (is_above order task) task) order k is job.listed record { permutation = o; above = λ i. refl } in
      let passes : u * (allow task).1 ≤ (allow task).0 * unit =
      leb-true (u * (allow task).1) ((allow task).0 * unit)
      (in_range (λ k. number_passes (allow task) (job_number Up sheet (is_above order task) task k)) (job_count sheet task) k (all task job.listed) job.analysed) in
      chance_from_upper unit u (miss_weight sheet.tasks order (nth_job sheet.tasks task k)) (chance_total sheet.tasks (nth_job sheet.tasks task k)) ((allow task).0) ((allow task).1) (omega arith) around.above passes

  up_through : (order : List ℕ) → greedy_by Up sheet ≡ Through order → IsGoodOrder sheet order
  up_through order e =
      let found : IsFound (task_passes Up sheet) n order = (finds (task_passes Up sheet) n).through order e in
      record {
        permutation = found.permutation;
        passes = all_in_order (λ task. task_passes Up sheet (is_above order task) task) n order found.permutation found.passing;
        chances = chances order found.permutation found.passing;
      }

  up_stuck : (left : List ℕ) → greedy_by Up sheet ≡ Stuck left → NoOrderPasses sheet
  up_stuck left e order o = ⊎_elim
      (λ (all : order_passes Up sheet order ≡ true). absurd ((finds (task_passes Up sheet) n).none monotone left e order o (each_from order o all)))
      (λ (some : order_passes Up sheet order ≡ false). some)
      (cases_Bool (order_passes Up sheet order))

  -- ---- the greedy by Down, whose numbers need not be monotone

  stuck_set : (dir : Dir) (left : List ℕ) → greedy_by dir sheet ≡ Stuck left → IsStuck dir sheet (set_of left)
  stuck_set dir left e =
      let are : AreStuck (task_passes dir sheet) n left = (finds (task_passes dir sheet) n).stuck left e in
      let few : (i : ℕ) → is_among left i ≡ true → i < TASK_LIMIT = λ i a. omega (arith, are.listed i a, is.few) in
      record {
        first = are.first;
        some = holds_set left few are.first ∙ are.some;
        listed = λ i held. are.listed i (sym (holds_set left few i) ∙ held);
        none = λ i held. ap (λ set. task_passes dir sheet set i) (others_are left few i) ∙ are.none i (sym (holds_set left few i) ∙ held);
      }

  -- a lower number that fails below a part of what stands above the task: the exact chance fails
  chance_fails : (order : List ℕ) (part : ℕ → Bool) (task k : ℕ) → is_order n order ≡ true → task < n → IsPartOf part (is_above order task) →
      number_passes (allow task) (job_number Down sheet part task k) ≡ false → ChanceFails sheet order (nth_job sheet.tasks task k)
  chance_fails order part task k o low sub fail =
      let job : Job = nth_job sheet.tasks task k in
      let moved : List ℕ = reordered order task part sub in
      let moved_is : is_order n moved ≡ true = reordered_is order task part sub n o low in
      let l : ℕ = job_number Down sheet part task k in
      let around : IsAround sheet.tasks moved job l (job_number Up sheet part task k) =
      numbers sheet (level part task) moved k is low record { permutation = moved_is; above = exactly order task part sub } in
      let fewer : miss_weight sheet.tasks moved job ≤ miss_weight sheet.tasks order job = no_chance sheet order moved task k is low o moved_is (has_fewer order task part sub) in
      chance_from_lower unit l (miss_weight sheet.tasks moved job) (miss_weight sheet.tasks order job) (chance_total sheet.tasks job) ((allow task).0) ((allow task).1) (total_is job) around.below fewer
      (not_passing (l * (allow task).1) ((allow task).0 * unit) fail)

  down_stuck : (left : List ℕ) → greedy_by Down sheet ≡ Stuck left → EveryOrderFails sheet
  down_stuck left e order o =
      let found : FindsOrder (task_passes Down sheet) n = finds (task_passes Down sheet) n in
      let are : AreStuck (task_passes Down sheet) n left = found.stuck left e in
      let one : (task : ℕ) × IsBlocked left order task = found.blocked left order e o in
      let task : ℕ = one.0 in
      let listed : task < n = are.listed task (one.1).left_over in
      let some : (k : ℕ) × (k < 0 + job_count sheet task) × (number_passes (allow task) (job_number Down sheet (others left task) task k) ≡ false) =
      some_in_range (λ k. number_passes (allow task) (job_number Down sheet (others left task) task k)) 0 (job_count sheet task) (are.none task (one.1).left_over) in
      record {
        task = task;
        number = some.0;
        analysed = record { listed = listed; analysed = omega (arith, some.1) };
        fails = chance_fails order (others left task) task (some.0) o listed (one.1).above some.2;
      }

  -- ---- the verdict

  not_both : (order left : List ℕ) → greedy_by Up sheet ≡ Through order → greedy_by Down sheet ≡ Stuck left → ⊥
  not_both order left e f =
      let good : IsGoodOrder sheet order = up_through order e in
      let bad : SomeChanceFails sheet order = down_stuck left f order good.permutation in
      no_both (good.chances bad.task bad.number bad.analysed) bad.fails
    where
      no_both : {a b : ℕ} → a ≤ b → b < a → ⊥
      no_both le lt = omega arith

  says : (up down : Outcome) → greedy_by Up sheet ≡ up → greedy_by Down sheet ≡ down → Says sheet (verdict_of up down)
  says (Through order) down e f = up_through order e
  says (Stuck left) (Through order) e f = record { stuck = stuck_set Up left e; none = up_stuck left e }
  says (Stuck left) (Stuck below) e f = record { stuck = stuck_set Down below f; none = up_stuck left e; fails = down_stuck below f }

  impossible_by : (up : Outcome) (below : List ℕ) → greedy_by Up sheet ≡ up → greedy_by Down sheet ≡ Stuck below → verdict_of up (Stuck below) ≡ Impossible (set_of below)
  impossible_by (Through order) below e f = absurd (not_both order below e f)
  impossible_by (Stuck left) below e f = refl

  -- ---- its causes

  cause : (up down : Outcome) → greedy_by Up sheet ≡ up → greedy_by Down sheet ≡ down → IsCause sheet (verdict_of up down)
  cause (Through order) down e f = e
  cause (Stuck left) (Through order) e f = (record { tasks = left; stuck = e; set_is = refl }, record { order = order; through = f })
  cause (Stuck left) (Stuck below) e f = record { tasks = below; stuck = f; set_is = refl }

  comes : (assigned : Assigned) → IsCause sheet assigned → verdict sheet ≡ assigned
  comes (Order order) e = ap (λ up. verdict_of up (greedy_by Down sheet)) e
  comes (Undecided set) (left, through) = ap₂ verdict_of left.stuck through.through ∙ ap Undecided (sym left.set_is)
  comes (Impossible set) left = ap (verdict_of (greedy_by Up sheet)) left.stuck ∙ impossible_by (greedy_by Up sheet) left.tasks refl left.stuck ∙ ap Impossible (sym left.set_is)

  pub verdict_holds : VerdictHolds sheet
  verdict_holds = record {
    says = says (greedy_by Up sheet) (greedy_by Down sheet) refl refl;
    exactly = λ assigned. (λ e. subst (IsCause sheet) e (cause (greedy_by Up sheet) (greedy_by Down sheet) refl refl), comes assigned);
  }

pub verdicts_hold : NumbersAreAround → FewerRaiseNoUpper → FewerRaiseNoChance → GreedyFindsOrders → VerdictsHold
verdicts_hold numbers no_upper no_chance finds sheet is = verdict_holds numbers no_upper no_chance finds sheet is
