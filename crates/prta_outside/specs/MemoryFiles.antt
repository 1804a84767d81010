-- The files that a shelf over memory keeps, as contracts see them.
use Rattle.std.specs.Prelude.{List, map, string_bytes}
use Rattle.prta_outside.specs.declared.memory_shelf.File.{File}
use Rattle.prta_outside.specs.MemoryShelf.{Files}

-- the names and bytes of the files
abbrev pub files_of : List File → Files
files_of files = map (λ (file : File). (string_bytes file.name, file.bytes.items)) files
