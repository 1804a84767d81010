use Rattle.prta_convlane.proofs.Eight.{lane_masked}
use Rattle.prta_convlane.proofs.lanes.low_32.Goals as goal

pub returns : goal.returns
returns c j below = lane_masked 32 c.args.x j c.fits-x.0 below
