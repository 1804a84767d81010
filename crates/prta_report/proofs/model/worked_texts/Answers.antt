use Rattle.std.proofs.Common.{refl}
use Rattle.std.specs.Fmt.{digits}
use Rattle.prta_report.specs.Text.{count_line, size_line, sums_line, job_line, csv_line, entry_line, gap_line, failing_line}
use Rattle.prta_report.proofs.model.worked_texts.Goals as goal

pub returns : goal.returns
unfolding count_line size_line sums_line job_line csv_line entry_line gap_line failing_line digits
returns c = record { exact = refl; records = refl; delayed = refl; amounts = refl; fails = refl; passes = refl }
