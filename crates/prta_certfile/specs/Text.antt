-- The text of a certificate.
use Rattle.std.specs.Prelude.{ℕ, List, [], ◌∷◌, ◌++◌, flat_map, codes, decimal}
use Rattle.prta_sheet.specs.Sheet.{Task}
use Rattle.prta_certfile.specs.declared.level.CertLevel.{CertLevel}
use Rattle.prta_certfile.specs.declared.level.CertLevel.TheVariants.{Steps, OverFull, BeyondCap}

-- the first line, without its line feed
abbrev pub title : List ℕ
title = codes "prta certificate 1"

-- how the line of a list of chances begins
unfoldable pub level_head : List ℕ → List ℕ
level_head name = codes "level " ++ name

-- a step
unfoldable pub pair_text : ℕ × ℕ → List ℕ
pair_text pair = codes " " ++ decimal pair.0 ++ codes ":" ++ decimal pair.1

-- the line, without its line feed, of a level that has no list since its greatest work is above the hyperperiod
unfoldable pub overfull_text : List ℕ → ℕ → ℕ → List ℕ
overfull_text name work hyperperiod = codes "none " ++ name ++ codes " overfull " ++ decimal work ++ codes " " ++ decimal hyperperiod

-- the same of one whose peak isn't below the cap
unfoldable pub beyond_text : List ℕ → ℕ → List ℕ
beyond_text name peak = codes "none " ++ name ++ codes " beyondcap " ++ decimal peak

-- the line of a task, without its line feed
abbrev pub level_text : List ℕ → CertLevel → List ℕ
level_text name (Steps steps) = level_head name ++ flat_map pair_text steps
level_text name (OverFull work hyperperiod) = overfull_text name work hyperperiod
level_text name (BeyondCap peak) = beyond_text name peak

-- the lines of tasks, each with its level
abbrev pub level_lines : List Task → List CertLevel → List ℕ
level_lines (task ∷ tasks) (level ∷ levels) = level_text task.name level ++ codes "\n" ++ level_lines tasks levels
level_lines _ _ = []

abbrev pub cert_text : List Task → List CertLevel → List ℕ
cert_text tasks levels = title ++ codes "\n" ++ level_lines tasks levels ++ codes "end\n"
