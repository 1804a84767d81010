-- No file before this one has the name.
use Rattle.std.proofs.Common.{◌≡◌, drop}
use Rattle.prta_outside.specs.MemoryShelf.{held_under}
use Rattle.prta_outside.specs.MemoryFiles.{files_of}
use Rattle.prta_outside.proofs.memory_shelf.newest.Given as goal

abbrev pub invariant-loop-file : goal.invariant-loop-file
invariant-loop-file l = held_under (files_of (drop l.file-index l.files)) l.name ≡ held_under (files_of l.files) l.name
