-- Worked texts of `certify` and `verify`.
use Rattle.std.specs.Prelude.{◌≡◌, List, [], ◌∷◌, ◌++◌, codes}
use Rattle.prta_mass.specs.Unit.{unit}
use Rattle.prta_sheet.specs.Sheet.{Sheet}
use Rattle.prta_certfile.specs.declared.level.CertLevel.{CertLevel}
use Rattle.prta_certfile.specs.declared.level.CertLevel.TheVariants.{Steps, OverFull}
use Rattle.prta_report.specs.Certificates.{certify_text, verify_text}
use Rattle.prta_report.specs.WorkedTraces.{named}
use Rattle.prta_report.specs.WorkedTexts.{capped}

-- one task that is released at 2 of every 4 ticks and takes 4 ticks in one of four cases, 2 of which are then left
abbrev pub late : Sheet
late = capped 5 (named (codes "A") 2 4 3 ((1, 3) ∷ (4, 1) ∷ []) ∷ [])

-- one task whose greatest work is above its period, and one whose peak is 7 ticks
abbrev pub heavy : Sheet
heavy = capped 8 (named (codes "A") 0 4 4 ((1, 1) ∷ (6, 1) ∷ []) ∷ [])

abbrev pub long : Sheet
long = capped 6 (named (codes "A") 0 10 4 ((7, 1) ∷ []) ∷ [])

-- the list that is found for the first one, and one that says that nothing is ever left
abbrev pub found : List CertLevel
found = Steps ((0, 864691128455135232) ∷ (2, unit) ∷ []) ∷ []

abbrev pub empty : List CertLevel
empty = Steps ((0, unit) ∷ []) ∷ []

pub record WorkedCertificateTexts : Type 0 where
  pub list : certify_text late ≡
      codes "prta certificate 1\n"
      ++ codes "level A 0:864691128455135232 2:1152921504606846976\n"
      ++ codes "end\n"
  pub overfull : certify_text heavy ≡ codes "prta certificate 1\n" ++ codes "none A overfull 6 4\n" ++ codes "end\n"
  pub beyond : certify_text long ≡ codes "prta certificate 1\n" ++ codes "none A beyondcap 7\n" ++ codes "end\n"
  pub certified : verify_text late found ≡
      codes "prta verify 1\n"
      ++ codes "level A certified\n"
      ++ codes "steady A 0 upper 288230376151711744 0.250000000000\n"
      ++ codes "end\n"
  pub broken : verify_text late empty ≡ codes "prta verify 1\n" ++ codes "broken A 0 1152921504606846976 864691128455135232\n"
  -- what isn't a list isn't tested
  pub uncertified : verify_text late (OverFull 1 2 ∷ []) ≡ codes "prta verify 1\n" ++ codes "uncertified A\n" ++ codes "end\n"
