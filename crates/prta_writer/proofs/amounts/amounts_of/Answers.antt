use Rattle.std.proofs.Common.{◌∙◌, arith}
use Rattle.prta_writer.proofs.amounts.amounts_of.Goals as goal

pub loop-i-preserved : goal.loop-i-preserved
loop-i-preserved g c =
    let next = c.with_task-amounts.ensures in
    record {
      amounts = next.amounts;
      small = next.small;
      fits = next.bench;
      entries = omega (arith, next.room, c.loop-i.invariant.entries);
      jobs = next.bounds ∙ c.loop-i.invariant.jobs;
      page = next.page ∙ c.loop-i.invariant.page;
    }
