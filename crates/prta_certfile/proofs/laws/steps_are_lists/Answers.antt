use Rattle.prta_certfile.proofs.StepLists.{read, read_back, rise, below, whole, make, more}
use Rattle.prta_certfile.proofs.laws.steps_are_lists.Goals as goal

pub returns : goal.returns
returns c = record {
  read = read;
  read_back = read_back;
  rise = rise;
  below = below;
  whole = whole;
  make = make;
  more = more;
}
