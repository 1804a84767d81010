use Rattle.std.proofs.Common.{◌/◌, ◌^◌}
use Rattle.prta_convlane.proofs.Eight.{lane_with}
use Rattle.prta_convlane.proofs.lanes.down_45.Goals as goal

pub returns : goal.returns
returns c j below = lane_with (λ y n. y / 2 ^ n) c.args.x 45 j c.fits-x.0 below
