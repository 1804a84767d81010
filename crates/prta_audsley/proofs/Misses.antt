-- Fewer tasks above a task raise none of its exact chances.
use Rattle.std.proofs.Common.{◌≡◌, ℕ, suc, ◌+◌, ◌-◌, ◌≤◌, ◌<◌, true, List, [], ◌∷◌, sum_by, length, Contains, refl, ap, sym, ◌∙◌, subst, arith, mul-le-mul_left}
use Rattle.std.specs.List.{AllByRecursion as Each}
use Rattle.std.proofs.lemmas.List.Elements.{All-from_recursion, recursion_from_All, Contains-append_left, Contains-append_right}
use Rattle.std.proofs.lemmas.List.Sums.{sum_by-cons}
use Rattle.prta_mass.specs.Table.{Table}
use Rattle.prta_sheet.specs.Sheet.{Task, task_at}
use Rattle.prta_sheet.specs.Job.{Job, table_of, nth_job, deadline_of, released_at, jobs_before}
use Rattle.prta_sheet.specs.Assignment.{Timed}
use Rattle.prta_sheet.specs.Machine.{misses}
use Rattle.prta_sheet.specs.Chance.{miss_weight}
use Rattle.prta_sheet.specs.Accepted.{IsTask}
use Rattle.prta_sheet.specs.Weights.{one_if, weigh, jobs_of}
use Rattle.prta_sheet.proofs.Each.{Each-weaker}
use Rattle.prta_sheet.proofs.Weighing.{listed_passing}
use Rattle.prta_jobs.specs.Permutation.{is_order}
use Rattle.prta_jobs.specs.Laws.{IsBefore}
use Rattle.prta_jobs.proofs.JobsBefore.{each_before}
use Rattle.prta_ticksim.specs.ScheduleToBacklog.{IsListed, ScheduleToBacklog}
use Rattle.prta_backlog.specs.Laws.{HaveTables}
use Rattle.prta_backlog.proofs.Released.{job_table}
use Rattle.prta_response.proofs.Weighing.{timed}
use Rattle.prta_response.proofs.Released.{nth_released}
use Rattle.prta_response.proofs.JobsFrom.{jobs_from, jobs_split}
use Rattle.prta_audsley.specs.Fewer.{HasFewerAbove, FewerRaiseNoChance}
use Rattle.prta_audsley.proofs.Tables.{have_tables}
use Rattle.prta_audsley.proofs.Finishes.{miss_fewer}

sum_each_le : {X : Type 0} (f g : X → ℕ) (xs : List X) → Each (λ x. f x ≤ g x) xs → sum_by f xs ≤ sum_by g xs
sum_each_le f g [] h = omega arith
sum_each_le f g (x ∷ xs) h = omega (arith, sum_by-cons f x xs, sum_by-cons g x xs, sum_each_le f g xs h.1, h.0)

-- where the jobs are these, and each takes time, a smaller number has a smaller sum
weigh-le_timed : (table : Job → Table) (jobs : List Job) (f g : List Timed → ℕ) → Each (λ job. Each (λ pair. 1 ≤ pair.0) (table job)) jobs →
    ((a : List Timed) → jobs_of a ≡ jobs → Each (λ e. 1 ≤ e.time) a → f a ≤ g a) → weigh table jobs f ≤ weigh table jobs g
weigh-le_timed table [] f g take e = e [] refl tt
weigh-le_timed table (job ∷ jobs) f g take e =
    sum_each_le _ _ (table job)
    (Each-weaker (λ pair. 1 ≤ pair.0) _
    (λ pair some. mul-le-mul_left pair.1 (weigh-le_timed table jobs _ _ take.1 (λ rest h each. e (timed job pair.0 ∷ rest) (ap (λ js. job ∷ js) h) (some, each))))
    (table job) take.0)

module _ (schedule : ScheduleToBacklog) (tasks : List Task) (have : HaveTables tasks) (task k : ℕ) (low : task < length tasks) (some : 1 ≤ (task_at tasks task).deadline) (period : 0 < (task_at tasks task).period) where
  abbrev job : Job
  job = nth_job tasks task k

  abbrev end : ℕ
  end = deadline_of tasks job

  abbrev table : Job → Table
  table = table_of tasks

  abbrev jobs : List Job
  jobs = jobs_before tasks end

  listed : Contains jobs job
  listed =
      let deadline : ℕ = (task_at tasks task).deadline in
      let last : suc job.release + (deadline - 1) ≡ end = omega arith in
      subst (λ jobs. Contains jobs job) (sym (jobs_split tasks (suc job.release) (deadline - 1)) ∙ ap (jobs_before tasks) last)
      (Contains-append_left (jobs_before tasks (suc job.release)) (jobs_from tasks (suc job.release) (deadline - 1)) job
      (Contains-append_right (jobs_before tasks job.release) (released_at 0 tasks job.release) job (nth_released tasks task k low period)))

  take_time : Each (λ job. Each (λ pair. 1 ≤ pair.0) (table job)) jobs
  take_time =
      Each-weaker (IsBefore tasks end) _
      (λ job before. recursion_from_All (λ (pair : ℕ × ℕ). 1 ≤ pair.0) (table job) (job_table tasks job have before.task).positive_times)
      jobs (each_before tasks end)

  is_listed : (order : List ℕ) (a : List Timed) → is_order (length tasks) order ≡ true → jobs_of a ≡ jobs → Each (λ e. 1 ≤ e.time) a → IsListed tasks end order a job
  is_listed order a is of_a times = record { whole = of_a; take_time = All-from_recursion (λ (e : Timed). 1 ≤ e.time) a times; permutation = is; listed = listed }

  pub weights_fewer : (order fewer : List ℕ) → is_order (length tasks) order ≡ true → is_order (length tasks) fewer ≡ true → HasFewerAbove order fewer task → miss_weight tasks fewer job ≤ miss_weight tasks order job
  weights_fewer order fewer is too above =
      rw (listed_passing table jobs (misses order job end), listed_passing table jobs (misses fewer job end))
      (weigh-le_timed table jobs (λ a. one_if (misses fewer job end a)) (λ a. one_if (misses order job end a)) take_time
      (λ a of_a times. miss_fewer schedule tasks end order fewer a job (is_listed order a is of_a times) (is_listed fewer a too of_a times) above end))

pub fewer_raise_no_chance : ScheduleToBacklog → FewerRaiseNoChance
fewer_raise_no_chance schedule sheet order fewer task k is low =
    let own : IsTask sheet.settings.cap (task_at sheet.tasks task) = is.tasks task _ low in
    weights_fewer schedule sheet.tasks (have_tables sheet is) task k low own.deadline_low (omega (arith, own.period_low)) order fewer
