-- Each turn takes one byte or more of the file, up to one more than the limit, and no call has failed.
use Rattle.std.proofs.Common.{◌≡◌, ◌+◌, ◌-◌, ◌≤◌, vec_len}
use Rattle.std.specs.Io.KnownBytes.{Consumes}
use Rattle.prta_outside.proofs.folder_shelf.read_file.Given as goal

abbrev pub invariant-loop-turn : goal.invariant-loop-turn
invariant-loop-turn g l =
    (vec_len l.bytes ≤ l.limit + 1)
    × Consumes (g.D.Disk.left l.initial.file) (g.D.Disk.left l.file) l.bytes.items
    × (g.D.Disk.faults l.disk ≡ g.D.Disk.faults l.initial.disk)

abbrev pub decreases-loop-turn : goal.decreases-loop-turn
decreases-loop-turn g l = l.limit + 1 - vec_len l.bytes
