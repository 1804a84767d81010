-- One delay more, by the next job of the walk.
use Rattle.std.proofs.Common.{ℕ, ◌+◌, ◌-◌, List, length, ap, ◌∙◌, arith, mul-le-mul_right}
use Rattle.prta_sheet.specs.Sheet.{Task}
use Rattle.prta_sheet.specs.Job.{Job}
use Rattle.prta_backlog.specs.Level.{delaying}
use Rattle.prta_backlog.specs.Pass.{level_of}
use Rattle.prta_response.specs.Coming.{ComingState}
use Rattle.prta_response.proofs.DelayingJobs.{delaying_few}
use Rattle.prta_response.proofs.DelaySteps.{delayed_one, first_more, first_all, first_next}
use Rattle.prta_response.proofs.delaying.Delayed.by_all.Goals as goal

pub overflow_add-made : goal.overflow_add-made
overflow_add-made g c =
    let tasks : List Task = c.args.sheet.now.tasks in
    let ticks : ℕ = length c.args.cells.now - 1 in
    let all : List Job = delaying tasks (level_of c.args.higher c.args.self.task) c.args.self.release ticks in
    omega (
      arith,
      (first_next {all = all} c.in-Some.ensures.job.jobs c.loop-job.invariant.steps).listed,
      delaying_few tasks (level_of c.args.higher c.args.self.task) c.args.self.release ticks,
      mul-le-mul_right (c.args.self.release + ticks) c.tasks-tasks.ensures.accepted.few,
      c.requires.release,
      c.requires.few,
    )

pub by_one-requires-clause-spare : goal.by_one-requires-clause-spare
by_one-requires-clause-spare g c =
    let all : List Job = delaying c.args.sheet.now.tasks (level_of c.args.higher c.args.self.task) c.args.self.release (length c.args.cells.now - 1) in
    (first_next {all = all} c.in-Some.ensures.job.jobs c.loop-job.invariant.steps).free c.requires.spare

pub loop-job-preserved : goal.loop-job-preserved
loop-job-preserved g c = record {
  steps = first_more c.in-Some.ensures.job.jobs
      (delayed_one c.table_of-table.ensures (ap (λ (j : Job). j.release) c.job.view_is) c.by_one.ensures.cells c.by_one.ensures.noted c.by_one.ensures.room)
      c.loop-job.invariant.steps;
  coming = c.in-Some.ensures.coming;
  since = omega (arith, c.loop-job.invariant.since, c.in-Some.ensures.later);
  end = ap (λ (s : ComingState). s.end) c.in-Some.ensures.same ∙ c.loop-job.invariant.end;
  chances = c.by_one.ensures.chances;
}

pub returns-clause-noted : goal.returns-clause-noted
returns-clause-noted g c = (first_all c.in_default.ensures.job c.loop-job.invariant.steps).notes
