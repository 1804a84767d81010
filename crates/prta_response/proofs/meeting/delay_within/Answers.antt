-- One delay more, on the front that it suffices to make.
use Rattle.std.proofs.Common.{◌≡◌, ℕ, ◌+◌, ◌-◌, ◌≤◌, min, List, length, ap, sym, ◌∙◌, subst, arith}
use Rattle.prta_mass.specs.Table.{Table}
use Rattle.prta_sheet.specs.Sheet.{Task}
use Rattle.prta_sheet.specs.Job.{Job, table_of}
use Rattle.prta_backlog.specs.Level.{delaying}
use Rattle.prta_backlog.specs.Pass.{level_of}
use Rattle.prta_response.specs.Response.{all_delayed}
use Rattle.prta_response.specs.Coming.{ComingState, to_come}
use Rattle.prta_response.specs.Reach.{least, Suffices}
use Rattle.prta_response.proofs.Reach.{front_delayed, right_more, suffices_next}
use Rattle.prta_response.proofs.meeting.delay_within.Goals as goal

pub loop-next-preserved : goal.loop-next-preserved
loop-next-preserved g c =
    let tasks : List Task = c.args.sheet.now.tasks in
    let r : ℕ = c.args.job.release in
    let limit : ℕ = length c.args.cells.now - 1 in
    let job : Job = c.in-Some.next in
    let times : Table = c.table_of-table.result.now in
    let reach : ℕ = c.loop-next.reach in
    let next : ℕ = c.min-reach.result in
    let grows : next ≡ min limit (reach + least times) = omega (arith, c.min-reach.ensures, c.least_of.ensures.least) in
    let parts : (job.release - r ≤ reach) × Suffices (table_of tasks) r limit (to_come tasks c.next.new.self) (min limit (reach + least (table_of tasks job))) =
    suffices_next (table_of tasks) r limit job (to_come tasks c.next.new.self) (to_come tasks c.loop-next.coming) reach c.in-Some.ensures.job.jobs c.loop-next.invariant.suffices in
    let final : List ℕ = all_delayed c.args.job.dir (table_of tasks) r (delaying tasks (level_of c.args.higher c.args.job.task) r limit) c.args.cells.now in
    record {
      right = right_more c.args.job.dir (table_of tasks) r final reach next job (to_come tasks c.next.new.self) (to_come tasks c.loop-next.coming) times c.loop-next.cells c.delay_front.new.cells
          c.in-Some.ensures.job.jobs c.table_of-table.ensures c.delay_front.ensures.table parts.0 (omega (arith, c.loop-next.invariant.within)) (omega (arith, grows))
          (c.delay_front.ensures.cells ∙ ap (λ n. front_delayed c.args.job.dir times (n - r) (next + 1) c.loop-next.cells) (ap (λ (j : Job). j.release) c.next-in-Some.view_is))
          c.loop-next.invariant.right;
      suffices = subst (Suffices (table_of tasks) r limit (to_come tasks c.next.new.self)) (sym (grows ∙ ap (λ (t : Table). min limit (reach + least t)) c.table_of-table.ensures)) parts.1;
      coming = c.in-Some.ensures.coming;
      since = omega (arith, c.loop-next.invariant.since, c.in-Some.ensures.later);
      end = ap (λ (s : ComingState). s.end) c.in-Some.ensures.same ∙ c.loop-next.invariant.end;
      within = omega (arith, grows);
      chances = c.delay_front.ensures.chances;
    }
