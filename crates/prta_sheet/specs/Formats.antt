-- What is accepted in format 1 is accepted in format 2, and states the same sheet.
use Rattle.std.specs.Prelude.{◌≡◌, ℕ, if◌then◌else◌, None, codes, bytes_eq}
use Rattle.toml.specs.Data.{Members, no_members, member}
use Rattle.prta_sheet.specs.Canonical.{number_data}
use Rattle.prta_sheet.specs.DocumentConditions.{format_of}
use Rattle.prta_sheet.specs.Stated.{stated}
use Rattle.prta_sheet.specs.Refusal.{document_refusal}

-- the document with another number of its format
abbrev pub in_format : ℕ → Members → Members
in_format n no_members = no_members
in_format n (member key d rest) = member key (if bytes_eq key (codes "format") then number_data n else d) (in_format n rest)

abbrev pub SecondFormatIsRead : Type 0
SecondFormatIsRead =
    (doc : Members) → format_of doc ≡ 1 → document_refusal doc ≡ None
    → (document_refusal (in_format 2 doc) ≡ None) × (stated (in_format 2 doc) ≡ stated doc)
