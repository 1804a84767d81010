-- How a command ended: its status, the line for err, and what out took.
use Rattle.std.specs.Prelude.{◌≡◌, ℕ, Option, List, [], ⊤}
use Rattle.prta_cli.specs.declared.status.Status.{Status}
use Rattle.prta_cli.specs.declared.status.Status.TheVariants as status
use Rattle.prta_cli.specs.declared.ending.Ending.{Ending}
use Rattle.prta_cli.specs.declared.ending.Ending.TheVariants.{Done, No, Usage, SheetRefused, InputRefused, ReadFault, WriteFault, NoMemory}
use Rattle.prta_cli.specs.Answer.{Answer, err_line}
use Rattle.prta_writer.specs.Writing.{Took, TookPart}

abbrev pub status_of : Ending → Status
status_of Done = status.Done
status_of No = status.No
status_of Usage = status.Usage
status_of (SheetRefused page) = status.SheetRefused
status_of (InputRefused page) = status.InputRefused
status_of ReadFault = status.ReadFault
status_of WriteFault = status.WriteFault
status_of NoMemory = status.NoMemory

abbrev pub line_of : Ending → List ℕ
line_of (SheetRefused page) = page.written
line_of (InputRefused page) = page.written
line_of ending = err_line (status_of ending)

-- what an ending without a text says of the answer; faults and want of memory say nothing
abbrev pub Tells : Ending → Answer → Type 0
Tells (SheetRefused page) answer = answer ≡ record { status = status.SheetRefused; out = []; err = page.written }
Tells (InputRefused page) answer = answer ≡ record { status = status.InputRefused; out = []; err = page.written }
Tells ending answer = ⊤

-- a status with the whole text on out
abbrev pub IsServed : Status → Type 0
IsServed status.Done = ⊤
IsServed status.No = ⊤
IsServed _ = ⊥

-- how a command ended, against its answer and against what out took in the call
pub record EndsBy (ending : Ending) (answer : Answer) (before now : Option (List ℕ)) : Type 0 where
  -- with a text it has the answer's status, and out took the text
  pub status_is : IsServed (status_of ending) → answer.status ≡ status_of ending
  pub text : IsServed (status_of ending) → Took before now answer.out
  -- where out failed there is a text, and out took a prefix of it
  pub served : status_of ending ≡ status.WriteFault → IsServed answer.status
  pub part : status_of ending ≡ status.WriteFault → TookPart before now answer.out
  pub tells : Tells ending answer
