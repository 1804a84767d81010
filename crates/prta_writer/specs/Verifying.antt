-- What `verify` finds of the lists of a certificate.
use Rattle.std.specs.Prelude.{◌≡◌, ℕ, Some, List}
use Rattle.prta_sheet.specs.Sheet.{Sheet}
use Rattle.prta_certfile.specs.declared.level.CertLevel.{CertLevel}
use Rattle.prta_report.specs.Certificates.{stated_at, broken_in}
use Rattle.prta_writer.specs.declared.verifying.Broken.{Broken}

-- the task of what is found, and that its list is broken first at the place
abbrev pub task_of : Broken → ℕ
task_of broken = broken.task

abbrev pub IsBrokenAt : Sheet → List CertLevel → Broken → Type 0
IsBrokenAt sheet levels broken = broken_in sheet broken.task (stated_at levels broken.task) ≡ Some broken.at
