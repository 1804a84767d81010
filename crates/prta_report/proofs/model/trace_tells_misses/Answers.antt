use Rattle.prta_report.proofs.TraceMisses.{trace_tells_misses}
use Rattle.prta_report.proofs.model.trace_tells_misses.Goals as goal

pub returns : goal.returns
returns c = trace_tells_misses c.finishes_tell_misses.ensures
