-- what is left decides
use Rattle.std.proofs.Common.{◌≡◌, drop}
use Rattle.prta_certfile.specs.Reading.{rise_from, rises}
use Rattle.prta_certfile.proofs.line.rise.Given as goal

abbrev pub invariant-loop-place : goal.invariant-loop-place
invariant-loop-place l = rise_from l.from l.last (drop l.place-index l.pairs) ≡ rises l.pairs
