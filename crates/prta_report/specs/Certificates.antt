-- The texts of `certify` and `verify`: the certificate that is found for a sheet, and what a given one is worth.
use Rattle.std.specs.Prelude.{◌≡◌, ℕ, ◌/◌, ◌++◌, is_some, Option, Some, None, List, [], map, flat_map, find, codes, slice_index_or}
use Rattle.std.specs.Option.{option_map_or}
use Rattle.std.specs.List.{range_with_len}
use Rattle.prta_sheet.specs.Sheet.{Sheet, task_at, sheet_order, hyperperiod}
use Rattle.prta_sheet.specs.Job.{nth_job}
use Rattle.prta_dist.specs.declared.effect.Break.{Break}
use Rattle.prta_backlog.specs.Level.{sheet_level}
use Rattle.prta_certfile.specs.declared.level.CertLevel.{CertLevel}
use Rattle.prta_certfile.specs.declared.level.CertLevel.TheVariants.{Steps, BeyondCap}
use Rattle.prta_certfile.specs.Steps.{steps_of, cells_by_steps}
use Rattle.prta_certfile.specs.Text.{title, level_text, cert_text}
use Rattle.prta_certificate.specs.Certificate.{broken_at, steady_number}
use Rattle.prta_certificate.specs.Levels.{cert_level}
use Rattle.prta_report.specs.Text.{certified_line, uncertified_line, steady_line, broken_line}

abbrev pub name_of : Sheet → ℕ → List ℕ
name_of sheet i = (task_at sheet.tasks i).name

-- ---- `certify`

-- the line of a level with a list, by its steps
abbrev pub list_rows : Sheet → ℕ → List ℕ → List ℕ
list_rows sheet i cells = level_text (name_of sheet i) (Steps (steps_of cells)) ++ codes "\n"

-- the line of a task's level: the list that is found for it, by its steps, or why there is none
abbrev pub certify_rows : Sheet → ℕ → List ℕ
certify_rows sheet i = level_text (name_of sheet i) (cert_level sheet i) ++ codes "\n"

abbrev pub certify_text : Sheet → List ℕ
certify_text sheet = title ++ codes "\n" ++ flat_map (certify_rows sheet) (sheet_order sheet.tasks) ++ codes "end\n"

-- ---- `verify`

-- what is stated of a task's level
abbrev pub stated_at : List CertLevel → ℕ → CertLevel
stated_at levels i = slice_index_or levels i (BeyondCap 0)

-- the first place where the image of the stated list is below it; none where no list is stated, or where it certifies the level
abbrev pub broken_in : Sheet → ℕ → CertLevel → Option Break
broken_in sheet i (Steps steps) = broken_at sheet.tasks (sheet_level i) (cells_by_steps sheet.settings.cap steps)
broken_in sheet i level = None

-- the line of a task whose list is broken
abbrev pub broken_text : Sheet → ℕ → Option Break → List ℕ
broken_text sheet i (Some broken) = broken_line (name_of sheet i) broken
broken_text sheet i None = []

-- the first task, in sheet order, whose list is broken
abbrev pub broken_task : Sheet → List CertLevel → Option ℕ
broken_task sheet levels = find (λ i. is_some (broken_in sheet i (stated_at levels i))) (sheet_order sheet.tasks)

-- the steady number of the k-th job of a task, for a list
abbrev pub steady_in : Sheet → ℕ → List ℕ → ℕ → ℕ
steady_in sheet i cells k = steady_number sheet.tasks (sheet_level i) cells (nth_job sheet.tasks i k)

-- the jobs of a task in one hyperperiod
abbrev pub jobs_in_turn : Sheet → ℕ → ℕ
jobs_in_turn sheet i = hyperperiod sheet.tasks / (task_at sheet.tasks i).period

-- a line with a number for each job of the first hyperperiod, in order of the jobs' numbers
abbrev pub rows_of : Sheet → ℕ → (ℕ → ℕ) → List ℕ
rows_of sheet i number = flat_map (λ k. steady_line (name_of sheet i) k (number k)) (range_with_len 0 (jobs_in_turn sheet i))

abbrev pub steady_rows : Sheet → ℕ → List ℕ → List ℕ
steady_rows sheet i cells = rows_of sheet i (steady_in sheet i cells)

-- the rows of a level with a list that certifies it
abbrev pub certified_rows : Sheet → ℕ → List ℕ → List ℕ
certified_rows sheet i cells = certified_line (name_of sheet i) ++ steady_rows sheet i cells

-- the rows of a task, where no list is broken
abbrev pub level_rows : Sheet → ℕ → CertLevel → List ℕ
level_rows sheet i (Steps steps) = certified_rows sheet i (cells_by_steps sheet.settings.cap steps)
level_rows sheet i level = uncertified_line (name_of sheet i)

abbrev pub verify_rows : Sheet → List CertLevel → ℕ → List ℕ
verify_rows sheet levels i = level_rows sheet i (stated_at levels i)

abbrev pub steady_text : Sheet → List CertLevel → List ℕ
steady_text sheet levels = flat_map (verify_rows sheet levels) (sheet_order sheet.tasks) ++ codes "end\n"

-- of these levels: the first broken list, or the steady numbers of all levels with a list
abbrev pub verify_text : Sheet → List CertLevel → List ℕ
verify_text sheet levels =
    codes "prta verify 1\n"
    ++ option_map_or (λ i. broken_text sheet i (broken_in sheet i (stated_at levels i))) (broken_task sheet levels) (steady_text sheet levels)

-- ---- laws

-- the text of `certify` is that of the certificate that states what is found for each level
abbrev pub CertifyWritesCertificate : Type 0
CertifyWritesCertificate = (sheet : Sheet) → certify_text sheet ≡ cert_text sheet.tasks (map (cert_level sheet) (sheet_order sheet.tasks))
