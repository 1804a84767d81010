use Rattle.std.proofs.Common.{refl}
use Rattle.std.specs.Fmt.{digits}
use Rattle.prta_report.specs.Text.{busy_line, idle_line}
use Rattle.prta_report.specs.Trace.{named_text, finished_text, left_text}
use Rattle.prta_report.proofs.model.worked_traces.Goals as goal

pub returns : goal.returns
unfolding busy_line idle_line named_text finished_text left_text digits
returns c = record { preempted = refl; done_before = refl; late = refl; pending = refl }
