-- The numbers of the own jobs of a level run bound the exact chances.
use Rattle.std.proofs.Common.{◌≡◌, ℕ, suc, ◌+◌, ◌-◌, ◌*◌, ◌≤◌, ◌<◌, false, nat_le, nat_lt, Option, Contains, List, ◌++◌, filter, length, refl, ap, sym, ◌∙◌, subst, arith, mul_comm}
use Rattle.std.specs.List.{AllByRecursion as Each}
use Rattle.std.proofs.Math.Nat.{mul-sub}
use Rattle.std.proofs.lemmas.List.{length-take-le}
use Rattle.std.proofs.lemmas.List.Elements.{All-from_recursion, recursion_from_All, Contains-append_left, Contains-append_right}
use Rattle.std.proofs.lemmas.Bool.Decides.{nat_tests}
use Rattle.prta_mass.specs.Unit.{unit}
use Rattle.prta_mass.specs.Table.{Table}
use Rattle.prta_mass.specs.Chances.{at}
use Rattle.prta_mass.specs.Direction.{IsSafe}
use Rattle.prta_mass.specs.declared.direction.Dir.{Dir}
use Rattle.prta_mass.specs.declared.direction.Dir.TheVariants.{Up, Down}
use Rattle.prta_mass.specs.declared.support.Support.{Support}
use Rattle.prta_sheet.specs.Sheet.{Task, task_at}
use Rattle.prta_sheet.specs.Job.{Job, table_of, nth_job, released_at, jobs_before}
use Rattle.prta_sheet.specs.Assignment.{Timed}
use Rattle.prta_sheet.specs.Machine.{misses}
use Rattle.prta_sheet.specs.Chance.{miss_weight, chance_total}
use Rattle.prta_sheet.specs.Weights.{one_if, weigh, jobs_of}
use Rattle.prta_sheet.proofs.Each.{Each-weaker, Each-right, Each-from_map}
use Rattle.prta_sheet.proofs.Weighing.{listed_passing, weigh_one}
use Rattle.prta_jobs.specs.Backlog.{finish_by_backlog}
use Rattle.prta_jobs.specs.Laws.{OrdersHavePlaces, IsBefore}
use Rattle.prta_jobs.proofs.JobsBefore.{each_before}
use Rattle.prta_ticksim.specs.ScheduleToBacklog.{IsListed, ScheduleToBacklog}
use Rattle.prta_ticksim.proofs.Each.{Each-both}
use Rattle.prta_ticksim.proofs.Places.{place_within}
use Rattle.prta_ticksim.proofs.LevelFound.{finish_found}
use Rattle.prta_backlog.specs.Level.{Level, has_task, is_quiet}
use Rattle.prta_backlog.proofs.Released.{job_table}
use Rattle.prta_response.specs.Response.{all_delayed, first_cells, meeting_cell, response_start, number_from}
use Rattle.prta_response.specs.Backlog.{level_backlog}
use Rattle.prta_response.specs.Chance.{IsOrderFor, BoundsChance}
use Rattle.prta_response.specs.Laws.{IsPeriodic, IsLevelOf}
use Rattle.prta_response.proofs.Weighing.{weigh-plus, weigh-same_timed}
use Rattle.prta_response.proofs.Shares.{BoundsShare, Bounds, same_mean}
use Rattle.prta_response.proofs.Operations.{BoundsUpTo}
use Rattle.prta_response.proofs.Backlogs.{BoundsShares}
use Rattle.prta_response.proofs.Released.{nth_released, own_instant}
use Rattle.prta_response.proofs.Runs.{run_bounded, run_at_instant}
use Rattle.prta_response.proofs.JobsFrom.{jobs_from, jobs_split, IsWithin, each_within, delaying_is}
use Rattle.prta_response.proofs.Responses.{response_time, response_first, IsLater, delays_bound, at-take}

module _ (tasks : List Task) (level : Level) (is : IsLevelOf tasks level) where
  abbrev table : Job → Table
  table = table_of tasks

  abbrev own : Task
  own = task_at tasks level.own

  abbrev deadline : ℕ
  deadline = own.deadline

  periodic : IsPeriodic own
  periodic = is.periodic level.own _ is.own

  -- ---- the cell at the deadline

  -- the jobs between the release and the deadline
  later_jobs : (r : ℕ) → Each (IsLater table r deadline) (jobs_from tasks (suc r) (deadline - 1))
  later_jobs r =
      let n : ℕ = deadline - 1 in
      let later : List Job = jobs_from tasks (suc r) n in
      let before : Each (IsBefore tasks (suc r + n)) later =
      Each-right (IsBefore tasks (suc r + n)) (jobs_before tasks (suc r)) later (subst (Each (IsBefore tasks (suc r + n))) (jobs_split tasks (suc r) n) (each_before tasks (suc r + n))) in
      Each-weaker _ (IsLater table r deadline)
      (λ job both. (omega (arith, (both.0).0), omega (arith, (both.0).1), (job_table tasks job is.tables (both.1).task).weighs)) later
      (Each-both (IsWithin (suc r) n) (IsBefore tasks (suc r + n)) later (each_within tasks (suc r) n) before)

  module _ (dir : Dir) (support : Option Support) (start : List ℕ) (base n : ℕ) (long : deadline < length start) (h : BoundsShares dir tasks level base base start) where
    abbrev pub first : List ℕ
    first = response_start dir tasks level support start base n

    module _ (instant : is_quiet tasks level (base + n) ≡ false) where
      abbrev r : ℕ
      r = base + n

      -- the list right after the own job's addition bounds the response time, for the jobs released so far
      first_bounds : Bounds dir table (at first) (jobs_before tasks (suc r)) (response_time level r)
      first_bounds k =
          same_mean dir table (at first k) (jobs_before tasks (suc r)) (λ a. one_if (nat_le (level_backlog level a r) k)) _
          (λ a of_a. ap (λ m. one_if (nat_le m k)) (sym (response_first level r a (early a of_a))))
          (run_at_instant dir tasks level is.tables is.apart support (length start) some start base n refl h instant k)
        where
          some : 0 < length start
          some = omega (arith, long)

          early : (a : List Timed) → jobs_of a ≡ jobs_before tasks (suc r) → Each (λ e. e.job.release ≤ r) a
          early a of_a =
              Each-from_map (λ (job : Job). job.release ≤ r) (λ e. e.job) a
              (subst (Each (λ (job : Job). job.release ≤ r)) (sym of_a)
              (Each-weaker (IsBefore tasks (suc r)) _ (λ job before. omega (arith, before.release)) (jobs_before tasks (suc r)) (each_before tasks (suc r))))

      size : length first ≡ length start
      size = (run_bounded dir tasks level is.tables is.apart support (length start) (omega (arith, long)) start base (suc n) refl h).size_is

      -- so the cell at the deadline bounds it, for the jobs released before the deadline
      pub meeting_bounds : BoundsShare dir table (meeting_cell dir tasks level r first) (jobs_before tasks (r + deadline)) (response_time level r) deadline
      meeting_bounds =
          let later : List Job = jobs_from tasks (suc r) (deadline - 1) in
          let end : suc r + (deadline - 1) ≡ r + deadline = omega (arith, periodic.deadline) in
          let whole : jobs_before tasks (suc r) ++ later ≡ jobs_before tasks (r + deadline) = sym (jobs_split tasks (suc r) (deadline - 1)) ∙ ap (jobs_before tasks) end in
          let begin : List ℕ = first_cells tasks level first in
          let within : BoundsUpTo deadline dir table (at begin) (jobs_before tasks (suc r)) (response_time level r) =
          λ k low. subst (λ x. BoundsShare dir table x (jobs_before tasks (suc r)) (response_time level r) k) (sym (at-take first deadline k low (omega (arith, size, long)))) (first_bounds k) in
          let delayed : BoundsUpTo deadline dir table (at (all_delayed dir table r (filter (λ job. level.higher job.task) later) begin)) (jobs_before tasks (suc r) ++ later) (response_time level r) =
          delays_bound level r dir table deadline (jobs_before tasks (suc r)) later begin (later_jobs r) (omega (arith, length-take-le (deadline + 1) first (omega (arith, size, long)))) within in
          subst (λ jobs. BoundsShare dir table (at (all_delayed dir table r jobs begin) deadline) (jobs_before tasks (r + deadline)) (response_time level r) deadline) (sym (delaying_is tasks level r deadline periodic.deadline))
          (subst (λ jobs. BoundsShare dir table (at (all_delayed dir table r (filter (λ job. level.higher job.task) later) begin) deadline) jobs (response_time level r) deadline) whole (delayed deadline (omega arith)))

  -- ---- the exact chance

  module _ (places : OrdersHavePlaces) (schedule : ScheduleToBacklog) (order : List ℕ) (fits : IsOrderFor tasks level order) (k : ℕ) where
    abbrev job : Job
    job = nth_job tasks level.own k

    abbrev release : ℕ
    release = job.release

    abbrev jobs : List Job
    jobs = jobs_before tasks (release + deadline)

    listed : Contains jobs job
    listed =
        let end : suc release + (deadline - 1) ≡ release + deadline = omega (arith, periodic.deadline) in
        subst (λ jobs. Contains jobs job) (sym (jobs_split tasks (suc release) (deadline - 1)) ∙ ap (jobs_before tasks) end)
        (Contains-append_left (jobs_before tasks (suc release)) (jobs_from tasks (suc release) (deadline - 1)) job
        (Contains-append_right (jobs_before tasks release) (released_at 0 tasks release) job (nth_released tasks level.own k is.own (omega (arith, periodic.offset)))))

    take_time : Each (λ job. Each (λ pair. 1 ≤ pair.0) (table job)) jobs
    take_time =
        Each-weaker (IsBefore tasks (release + deadline)) _
        (λ job before. recursion_from_All (λ (pair : ℕ × ℕ). 1 ≤ pair.0) (table job) (job_table tasks job is.tables before.task).positive_times)
        jobs (each_before tasks (release + deadline))

    -- an assignment misses the deadline or meets it, by its response time
    one_of : (a : List Timed) → jobs_of a ≡ jobs → Each (λ e. 1 ≤ e.time) a → one_if (misses order job (release + deadline) a) + one_if (nat_le (response_time level release a) deadline) ≡ 1
    one_of a of_a times =
        let all : IsListed tasks (release + deadline) order a job = record { whole = of_a; take_time = All-from_recursion (λ (e : Timed). 1 ≤ e.time) a times; permutation = fits.permutation; listed = listed } in
        let finish : release + response_time level release a ≡ finish_by_backlog order a job =
        finish_found order a job (place_within places (length tasks) order fits.permutation level.own is.own) level.higher (has_task level) fits.above (λ task. refl) _ _ refl refl in
        let late : misses order job (release + deadline) a ≡ nat_lt (release + deadline) (release + response_time level release a) =
        schedule.miss tasks (release + deadline) order a job all (release + deadline) ∙ ap (nat_lt (release + deadline)) (sym finish) in
        ap (λ b. one_if b + one_if (nat_le (response_time level release a) deadline)) late ∙ by_ticks (response_time level release a)
      where
        by_ticks : (ticks : ℕ) → one_if (nat_lt (release + deadline) (release + ticks)) + one_if (nat_le ticks deadline) ≡ 1
        by_ticks ticks = grind (arith, nat_tests)

    abbrev meeting : ℕ
    meeting = weigh table jobs (λ a. one_if (nat_le (response_time level release a) deadline))

    all_weights : miss_weight tasks order job + meeting ≡ chance_total tasks job
    all_weights =
        ap (λ w. w + meeting) (listed_passing table jobs (misses order job (release + deadline)))
        ∙ sym (weigh-plus table jobs (λ a. one_if (misses order job (release + deadline) a)) (λ a. one_if (nat_le (response_time level release a) deadline)))
        ∙ weigh-same_timed table jobs _ (λ a. 1) take_time one_of
        ∙ weigh_one table jobs

    -- what the cell at the deadline leaves to the unit bounds the chance
    by_cell : (dir : Dir) (cell : ℕ) → IsSafe dir (cell * chance_total tasks job) (unit * meeting) → BoundsChance dir tasks order job (unit - cell)
    by_cell Up cell safe = upper unit cell (chance_total tasks job) (miss_weight tasks order job) meeting all_weights safe
      where
        upper : (u x t m n : ℕ) → m + n ≡ t → x * t ≤ u * n → u * m ≤ (u - x) * t
        upper u x t m n e safe = omega (arith, mul_comm (u - x) t ∙ mul-sub t u x, ap (λ s. u * s) e)
    by_cell Down cell safe = lower unit cell (chance_total tasks job) (miss_weight tasks order job) meeting all_weights safe
      where
        lower : (u x t m n : ℕ) → m + n ≡ t → u * n ≤ x * t → (u - x) * t ≤ u * m
        lower u x t m n e safe = omega (arith, mul_comm (u - x) t ∙ mul-sub t u x, ap (λ s. u * s) e)

    pub number_bounds : (dir : Dir) (support : Option Support) (start : List ℕ) (base n : ℕ) → deadline < length start → BoundsShares dir tasks level base base start → release ≡ base + n →
        BoundsChance dir tasks order job (number_from dir tasks level support start base n)
    number_bounds dir support start base n long h at_n =
        let instant : is_quiet tasks level (base + n) ≡ false = subst (λ t. is_quiet tasks level t ≡ false) at_n (own_instant tasks level k is.own (omega (arith, periodic.offset))) in
        let cell : ℕ = meeting_cell dir tasks level (base + n) (first dir support start base n long h) in
        by_cell dir cell
        (subst (λ t. BoundsShare dir table cell (jobs_before tasks (t + deadline)) (response_time level t) deadline) (sym at_n) (meeting_bounds dir support start base n long h instant))
