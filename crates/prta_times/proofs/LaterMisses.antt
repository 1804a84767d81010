-- Moving the weights of the tables to later times lowers no exact chance.
use Rattle.std.proofs.Common.{◌≡◌, ℕ, zero, suc, ◌+◌, ◌-◌, ◌*◌, ◌%◌, ◌≤◌, ◌<◌, true, nat_lt, List, [], ◌∷◌, sum_by, length, get_or, Contains, refl, ap, sym, ◌∙◌, subst, arith, ⊎_elim, mul-le-mul_left, add-zero, add-suc}
use Rattle.std.specs.List.{AllByRecursion as Each}
use Rattle.std.proofs.lemmas.Bool.Decides.{nat_tests}
use Rattle.std.proofs.lemmas.List.Elements.{All-from_recursion, recursion_from_All, All-contains, Contains-append_left, Contains-append_right, Contains-append_cases}
use Rattle.std.proofs.lemmas.List.Sums.{sum_by-cons}
use Rattle.prta_mass.specs.Table.{Table}
use Rattle.prta_fewpoints.specs.Laws.{IsMovedUp}
use Rattle.prta_sheet.specs.Sheet.{Task, task_at, horizon}
use Rattle.prta_sheet.specs.Job.{Job, table_of, deadline_of, released_at, jobs_before}
use Rattle.prta_sheet.specs.Assignment.{Timed}
use Rattle.prta_sheet.specs.Machine.{misses}
use Rattle.prta_sheet.specs.Chance.{miss_weight}
use Rattle.prta_sheet.specs.Accepted.{IsTask}
use Rattle.prta_sheet.specs.Weights.{one_if, weigh, jobs_of}
use Rattle.prta_sheet.proofs.Weighing.{listed_passing}
use Rattle.prta_jobs.specs.Permutation.{is_order}
use Rattle.prta_jobs.specs.Backlog.{finish_by_backlog}
use Rattle.prta_jobs.specs.Laws.{IsBefore, JobsAreBefore}
use Rattle.prta_ticksim.specs.ScheduleToBacklog.{IsListed, ScheduleToBacklog}
use Rattle.prta_ticksim.proofs.JobOrder.{IsReleased, released_at_is}
use Rattle.prta_times.specs.LaterTimes.{Both, IsLater, TakeTime, IsNoGreaterChance, LaterTimesLowerNoChance}
use Rattle.prta_times.proofs.LaterTasks.{table_later, jobs_until_later, deadline_later, chance_totals}
use Rattle.prta_times.proofs.LaterFinishes.{IsTimedLater, finish_later}

-- ---- weighed sums

sum_each_le : {X : Type 0} (f g : X → ℕ) (xs : List X) → Each (λ x. f x ≤ g x) xs → sum_by f xs ≤ sum_by g xs
sum_each_le f g [] h = omega arith
sum_each_le f g (x ∷ xs) h = omega (arith, sum_by-cons f x xs, sum_by-cons g x xs, sum_each_le f g xs h.1, h.0)

Each_both : {X : Type 0} (P Q R : X → Type 0) (xs : List X) → ((x : X) → P x → Q x → R x) → Each P xs → Each Q xs → Each R xs
Each_both P Q R [] f p q = tt
Each_both P Q R (x ∷ xs) f p q = (f x p.0 q.0, Each_both P Q R xs f p.1 q.1)

-- a number of the times that no later time lowers, weighed: each job's time is at least 1, and may move up
weigh_later : (early late : Job → Table) → ((job : Job) → IsMovedUp (early job) (late job)) → ((job : Job) → Each (λ pair. 1 ≤ pair.0) (early job)) → (jobs : List Job) (f g : List Timed → ℕ) →
    ((a b : List Timed) → jobs_of a ≡ jobs → Each (λ e. 1 ≤ e.time) a → Both IsTimedLater a b → f a ≤ g b) → weigh early jobs f ≤ weigh late jobs g
weigh_later early late m take [] f g e = e [] [] refl tt tt
weigh_later early late m take (job ∷ jobs) f g e =
    let timed : ℕ → Timed = λ c. record { job = job; time = c } in
    let M : IsMovedUp (early job) (late job) = m job in
    let F : ℕ → ℕ = λ c. weigh early jobs (λ rest. f (timed c ∷ rest)) in
    let G : ℕ → ℕ = λ c. weigh late jobs (λ rest. g (timed c ∷ rest)) in
    let each : sum_by (λ pair. pair.1 * F pair.0) (early job) ≤ sum_by (λ pair. pair.1 * G (M.to pair.0)) (early job) =
    sum_each_le (λ (pair : ℕ × ℕ). pair.1 * F pair.0) (λ (pair : ℕ × ℕ). pair.1 * G (M.to pair.0)) (early job)
    (Each_both (λ (pair : ℕ × ℕ). pair.0 ≤ M.to pair.0) (λ (pair : ℕ × ℕ). 1 ≤ pair.0) _ (early job) (λ pair up some.
    mul-le-mul_left pair.1 (weigh_later early late m take jobs _ _ (λ a b of_a times both.
    e (timed pair.0 ∷ a) (timed (M.to pair.0) ∷ b) (ap (λ js. job ∷ js) of_a) (some, times) (record { job = refl; time = up }, both))))
    (recursion_from_All (λ (pair : ℕ × ℕ). pair.0 ≤ M.to pair.0) (early job) M.up) (take job)) in
    subst (λ s. sum_by (λ pair. pair.1 * F pair.0) (early job) ≤ s) (sym (M.weights G)) each

-- ---- a job that is listed is among those before its deadline

released_then : (tasks : List Task) (t : ℕ) (job : Job) → Contains (jobs_before tasks t) job → Contains (released_at 0 tasks job.release) job
released_then tasks zero job h = absurd (omega (arith, h.1))
released_then tasks (suc t) job h = ⊎_elim
    (λ (early : Contains (jobs_before tasks t) job). released_then tasks t job early)
    (λ (now : Contains (released_at 0 tasks t) job).
    let at : job.release ≡ t = (All-contains (IsReleased 0 t) (released_at 0 tasks t) job (All-from_recursion (IsReleased 0 t) (released_at 0 tasks t) (released_at_is 0 tasks t)) now).1 in
    subst (λ r. Contains (released_at 0 tasks r) job) (sym at) now)
    (Contains-append_cases (jobs_before tasks t) (released_at 0 tasks t) job h)

listed_after : (tasks : List Task) (job : Job) (n : ℕ) → Contains (released_at 0 tasks job.release) job → Contains (jobs_before tasks (suc job.release + n)) job
listed_after tasks job zero h =
    subst (λ t. Contains (jobs_before tasks t) job) (sym (add-zero (suc job.release)))
    (Contains-append_right (jobs_before tasks job.release) (released_at 0 tasks job.release) job h)
listed_after tasks job (suc n) h =
    subst (λ t. Contains (jobs_before tasks t) job) (sym (add-suc (suc job.release) n))
    (Contains-append_left (jobs_before tasks (suc job.release + n)) (released_at 0 tasks (suc job.release + n)) job (listed_after tasks job n h))

pub listed_until : (tasks : List Task) (t : ℕ) (job : Job) → 1 ≤ (task_at tasks job.task).deadline → Contains (jobs_before tasks t) job → Contains (jobs_before tasks (deadline_of tasks job)) job
listed_until tasks t job some h =
    let deadline : ℕ = (task_at tasks job.task).deadline in
    let end : suc job.release + (deadline - 1) ≡ deadline_of tasks job = omega arith in
    subst (λ n. Contains (jobs_before tasks n) job) end (listed_after tasks job (deadline - 1) (released_then tasks t job h))

-- ---- the times of tables

times_of_table : (tasks : List Task) → TakeTime tasks → (job : Job) → Each (λ pair. 1 ≤ pair.0) (table_of tasks job)
times_of_table tasks take job =
    each_at (λ table. Each (λ pair. 1 ≤ pair.0) table) (task_at tasks job.task).cycle (job.number % length (task_at tasks job.task).cycle) []
    (each_at (λ (task : Task). Each (λ table. Each (λ pair. 1 ≤ pair.0) table) task.cycle) tasks job.task _ take tt) tt
  where
    each_at : {X : Type 0} (P : X → Type 0) (xs : List X) (i : ℕ) (past : X) → Each P xs → P past → P (get_or xs i past)
    each_at P [] i past h p = p
    each_at P (x ∷ xs) zero past h p = h.0
    each_at P (x ∷ xs) (suc i) past h p = each_at P xs i past h.1 p

-- ---- the law

module _ (schedule : ScheduleToBacklog) (early late : List Task) (h : Both IsLater early late) (take : TakeTime early)
    (order : List ℕ) (is : is_order (length late) order ≡ true) (job : Job) (listed : Contains (jobs_before late (deadline_of late job)) job) where
  abbrev jobs : List Job
  jobs = jobs_before late (deadline_of late job)

  is_listed : (a : List Timed) → jobs_of a ≡ jobs → Each (λ e. 1 ≤ e.time) a → IsListed late (deadline_of late job) order a job
  is_listed a of_a times = record { whole = of_a; take_time = All-from_recursion (λ (e : Timed). 1 ≤ e.time) a times; permutation = is; listed = listed }

  miss_later : (a b : List Timed) → jobs_of a ≡ jobs → Each (λ e. 1 ≤ e.time) a → Both IsTimedLater a b →
      one_if (misses order job (deadline_of late job) a) ≤ one_if (misses order job (deadline_of late job) b)
  miss_later a b of_a times both =
      rw (
        schedule.miss late (deadline_of late job) order a job (is_listed a of_a times) (deadline_of late job),
        schedule.miss late (deadline_of late job) order b job (is_listed b (sym (same_jobs a b both) ∙ of_a) (later_times a b times both)) (deadline_of late job),
      )
      (earlier (deadline_of late job) (finish_by_backlog order a job) (finish_by_backlog order b job) (finish_later order a b job both))
    where
      same_jobs : (a b : List Timed) → Both IsTimedLater a b → jobs_of a ≡ jobs_of b
      same_jobs [] [] both = refl
      same_jobs [] (e' ∷ b) both = absurd both
      same_jobs (e ∷ a) [] both = absurd both
      same_jobs (e ∷ a) (e' ∷ b) both = let one : e.job ≡ e'.job = (both.0).job in rw one (ap (λ js. e'.job ∷ js) (same_jobs a b both.1))

      later_times : (a b : List Timed) → Each (λ e. 1 ≤ e.time) a → Both IsTimedLater a b → Each (λ e. 1 ≤ e.time) b
      later_times [] [] times both = tt
      later_times [] (e' ∷ b) times both = absurd both
      later_times (e ∷ a) [] times both = absurd both
      later_times (e ∷ a) (e' ∷ b) times both = (omega (arith, times.0, (both.0).time), later_times a b times.1 both.1)

      earlier : (d m n : ℕ) → m ≤ n → one_if (nat_lt d m) ≤ one_if (nat_lt d n)
      earlier d m n h = grind (arith, nat_tests)

  no_greater : IsNoGreaterChance early late order job
  no_greater = record {
    misses =
        let weights : miss_weight early order job ≡ weigh (table_of early) jobs (λ a. one_if (misses order job (deadline_of late job) a)) =
        listed_passing (table_of early) (jobs_before early (deadline_of early job)) (misses order job (deadline_of early job))
        ∙ ap (λ js. weigh (table_of early) js (λ a. one_if (misses order job (deadline_of early job) a))) (jobs_until_later early late h job)
        ∙ ap (λ d. weigh (table_of early) jobs (λ a. one_if (misses order job d a))) (deadline_later early late h job) in
        rw (weights, listed_passing (table_of late) jobs (misses order job (deadline_of late job)))
        (weigh_later (table_of early) (table_of late) (table_later early late h) (times_of_table early take) jobs _ _ miss_later);
    totals = chance_totals early late h job;
  }

pub later_times_lower_no_chance : ScheduleToBacklog → JobsAreBefore → LaterTimesLowerNoChance
later_times_lower_no_chance schedule are_before early sheet is h take order job permutation listed =
    let own : job.task < length sheet.tasks = (All-contains (IsBefore sheet.tasks (horizon sheet)) (jobs_before sheet.tasks (horizon sheet)) job (are_before sheet.tasks (horizon sheet)) listed).task in
    let ranges : IsTask sheet.settings.cap (task_at sheet.tasks job.task) = is.tasks job.task _ own in
    no_greater schedule early sheet.tasks h take order permutation job (listed_until sheet.tasks (horizon sheet) job ranges.deadline_low listed)
