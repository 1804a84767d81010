-- the jobs of the other ones of the tasks so far
use Rattle.std.proofs.Common.{◌≡◌, ◌*◌, ◌≤◌, nat_eq, if◌then◌else◌}
use Rattle.prta_sheet.specs.Sheet.{task_at}
use Rattle.prta_sheet.specs.Counts.{releases}
use Rattle.prta_sheet.proofs.Below.{sum_below}
use Rattle.prta_backlog.proofs.room.others_before.Given as goal

abbrev pub invariant-loop-m : goal.invariant-loop-m
invariant-loop-m l = (l.jobs ≡ sum_below (λ m. if nat_eq m l.i then 0 else releases (task_at l.tasks m) l.time) l.m) × (l.jobs ≤ l.m * l.time)
