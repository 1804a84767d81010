-- the jobs to come stay, as the walk goes on to an instant at which some wait
use Rattle.std.proofs.Common.{◌≡◌, ◌-◌, ◌≤◌}
use Rattle.prta_response.specs.Coming.{to_come, IsComing}
use Rattle.prta_response.proofs.coming.Coming.next.Given as goal

abbrev pub invariant-loop-task : goal.invariant-loop-task
invariant-loop-task l = record {
  coming : IsComing l.sheet.tasks l.self;
  jobs : to_come l.sheet.tasks l.self ≡ to_come l.sheet.tasks l.initial.self;
  later : l.initial.self.at ≤ l.self.at;
  same : l.self ≡ record l.initial.self { at = l.self.at; waiting = l.self.waiting };
}

abbrev pub decreases-loop-task : goal.decreases-loop-task
decreases-loop-task l = l.self.end - l.self.at
