-- The text of `tail`: for each level steady numbers that hold in every hyperperiod, by a certificate or by a geometric tail, or why there
-- are none.
use Rattle.std.specs.Prelude.{ℕ, ◌++◌, Option, Some, None, List, flat_map, codes}
use Rattle.prta_sheet.specs.Sheet.{Sheet, sheet_order}
use Rattle.prta_sheet.specs.Job.{nth_job}
use Rattle.prta_backlog.specs.Level.{sheet_level}
use Rattle.prta_backlog.specs.Greatest.{worst_backlog}
use Rattle.prta_certfile.specs.Text.{overfull_text, beyond_text}
use Rattle.prta_certificate.specs.Candidates.{image_of_point, lowered, verdict_of}
use Rattle.prta_certificate.specs.declared.verdict.Verdict.{Verdict}
use Rattle.prta_certificate.specs.declared.verdict.Verdict.TheVariants.{Turn, Slack, OverFull, BeyondCap}
use Rattle.prta_tail.specs.declared.ratio.Ratio.{Ratio}
use Rattle.prta_tail.specs.Walk.{first_ratio}
use Rattle.prta_tail.specs.Tail.{tail_number}
use Rattle.prta_report.specs.Text.{tail_line}
use Rattle.prta_report.specs.Certificates.{name_of, rows_of, certified_rows}

-- the tail number of the k-th job of a task, at a ratio
abbrev pub tail_in : Sheet → ℕ → Ratio → ℕ → ℕ
tail_in sheet i ratio k = tail_number sheet.tasks (sheet_level i) sheet.settings.cap sheet.settings.turns ratio (nth_job sheet.tasks i k)

-- the rows of a level with a tail at a ratio
abbrev pub tail_at : Sheet → ℕ → Ratio → List ℕ
tail_at sheet i ratio = tail_line (name_of sheet i) ratio (worst_backlog sheet.tasks (sheet_level i)) ++ rows_of sheet i (tail_in sheet i ratio)

-- the rows of a level whose greatest work is above the hyperperiod: its tail at a ratio that passes, or why there is no certificate
abbrev pub overfull_rows : Sheet → ℕ → ℕ → ℕ → Option Ratio → List ℕ
overfull_rows sheet i work total (Some ratio) = tail_at sheet i ratio
overfull_rows sheet i work total None = overfull_text (name_of sheet i) work total ++ codes "\n"

-- those of a level by the verdict on it
abbrev pub verdict_rows : Sheet → ℕ → Verdict → List ℕ
verdict_rows sheet i (Turn j) = certified_rows sheet i (image_of_point sheet.tasks (sheet_level i) sheet.settings.cap j)
verdict_rows sheet i (Slack s) = certified_rows sheet i (lowered sheet.tasks (sheet_level i) sheet.settings.cap sheet.settings.turns s)
verdict_rows sheet i (OverFull work total) = overfull_rows sheet i work total (first_ratio sheet.tasks (sheet_level i))
verdict_rows sheet i (BeyondCap most) = beyond_text (name_of sheet i) most ++ codes "\n"

abbrev pub tail_rows : Sheet → ℕ → List ℕ
tail_rows sheet i = verdict_rows sheet i (verdict_of sheet.tasks (sheet_level i) sheet.settings.cap sheet.settings.turns)

abbrev pub tail_text : Sheet → List ℕ
tail_text sheet = codes "prta tail 1\n" ++ flat_map (tail_rows sheet) (sheet_order sheet.tasks) ++ codes "end\n"
