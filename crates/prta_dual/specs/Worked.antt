-- Worked analyses.
use Rattle.std.specs.Prelude.{◌≡◌, ℕ, None, [], ◌∷◌}
use Rattle.prta_mass.specs.Unit.{unit}
use Rattle.prta_mass.specs.declared.direction.Dir.TheVariants.{Up, Down}
use Rattle.prta_sheet.specs.Job.{nth_job}
use Rattle.prta_ledger.specs.declared.entry.Kind.TheVariants.{Round, Resample, Delay}
use Rattle.prta_backlog.specs.Worked.{sheet, task, heavy, two, alone, below, entry, each_fourth, half}
use Rattle.prta_dual.specs.declared.bounds.Bounds.{Bounds}
use Rattle.prta_dual.specs.Numbers.{all_bounds}
use Rattle.prta_dual.specs.Entries.{entries, job_sum}

abbrev pub bounds : ℕ → ℕ → Bounds
bounds lower upper = record { lower = lower; upper = upper }

pub record WorkedAnalyses : Type 0 where
  -- one rounding in each direction
  pub rounded : all_bounds (sheet 12 1 None (task 0 10 5 (((3, 9) ∷ (7, 1) ∷ []) ∷ []) ∷ [])) alone ≡ bounds 115292150460684697 115292150460684698 ∷ []
  pub rounded_entries : entries (sheet 12 1 None (task 0 10 5 (((3, 9) ∷ (7, 1) ∷ []) ∷ []) ∷ [])) alone ≡ entry Up Round 0 0 1 1 ∷ entry Down Round 0 0 1 1 ∷ []
  -- work is left from each job to the next
  pub carried : all_bounds (sheet 11 3 None heavy) alone ≡ bounds half half ∷ bounds half half ∷ bounds 720575940379279360 720575940379279360 ∷ []
  -- a re-sampling before the second job
  pub sampled : all_bounds (sheet 12 2 each_fourth heavy) alone ≡ bounds half half ∷ bounds half 864691128455135232 ∷ []
  pub sampled_entries : entries (sheet 12 2 each_fourth heavy) alone ≡ entry Up Resample 0 1 2 half ∷ entry Down Resample 0 1 2 half ∷ []
  pub sampled_first : job_sum (sheet 12 2 each_fourth heavy) alone (nth_job heavy 0 0) ≡ 0
  pub sampled_second : job_sum (sheet 12 2 each_fourth heavy) alone (nth_job heavy 0 1) ≡ unit
  -- cuts: the last cell loses what stands past the cap
  pub cut : all_bounds (sheet 6 3 None heavy) alone ≡ bounds half half ∷ bounds half 864691128455135232 ∷ bounds half 1008806316530991104 ∷ []
  pub cut_first : job_sum (sheet 6 3 None heavy) alone (nth_job heavy 0 0) ≡ unit
  pub cut_second : job_sum (sheet 6 3 None heavy) alone (nth_job heavy 0 1) ≡ 2017612633061982208
  pub cut_third : job_sum (sheet 6 3 None heavy) alone (nth_job heavy 0 2) ≡ 2738188573441261568
  -- delays: each response run's entries after those of its own job's addition
  pub delayed_entries : entries (sheet 9 1 None two) below
      ≡ entry Up Round 1 0 1 1 ∷ entry Up Delay 1 0 1 1 ∷ entry Down Round 1 0 1 1 ∷ entry Down Round 1 0 2 1 ∷ entry Down Delay 1 0 1 1 ∷ []
  pub delayed : all_bounds (sheet 9 1 None two) below ≡ bounds 64051194700380387 64051194700380388 ∷ []
  pub delayed_sum : job_sum (sheet 9 1 None two) below (nth_job two 1 0) ≡ 5
