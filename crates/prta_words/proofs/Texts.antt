-- Each word is text.
use Rattle.std.proofs.Common.{List, [], ◌∷◌, arith}
use Rattle.std.specs.Prelude.{All, IsUtf8, String, string_bytes}
use Rattle.std.specs.declared.alloc.Global.{Global}
use Rattle.std.proofs.lemmas.List.Elements.{All-cons}
use Rattle.std.proofs.lemmas.Str.{IsUtf8-string_bytes}
use Rattle.prta_words.specs.Words.{texts}

pub texts-utf8 : (words : List (String Global)) → All IsUtf8 (texts words)
texts-utf8 [] = λ k d lt. absurd (omega arith)
texts-utf8 (word ∷ rest) = All-cons IsUtf8 (string_bytes word) (texts rest) (IsUtf8-string_bytes word) (texts-utf8 rest)
