-- Worked level runs.
use Rattle.std.specs.Prelude.{◌≡◌, ℕ, Option, Some, None, true, List, [], ◌∷◌, ◌++◌}
use Rattle.prta_mass.specs.Unit.{unit}
use Rattle.prta_mass.specs.Table.{Table}
use Rattle.prta_mass.specs.Chances.{point}
use Rattle.prta_mass.specs.declared.direction.Dir.{Dir}
use Rattle.prta_mass.specs.declared.direction.Dir.TheVariants.{Up, Down}
use Rattle.prta_mass.specs.declared.support.Support.{Support}
use Rattle.prta_sheet.specs.Sheet.{Task, Sheet}
use Rattle.prta_ledger.specs.declared.entry.Entry.{Entry}
use Rattle.prta_ledger.specs.declared.entry.Kind.{Kind}
use Rattle.prta_ledger.specs.declared.entry.Kind.TheVariants.{Round, Cut, Resample}
use Rattle.prta_backlog.specs.Level.{Level}
use Rattle.prta_backlog.specs.LevelRun.{level_run, image}
use Rattle.prta_backlog.specs.Entries.{analysis_entries}
use Rattle.prta_backlog.specs.Greatest.{greatest_work, worst_backlog, peak}
use Rattle.prta_backlog.specs.Room.{room_for}
use Rattle.prta_backlog.specs.Pass.{level_of}

abbrev pub half : ℕ
half = 576460752303423488

abbrev pub quarter : ℕ
quarter = 288230376151711744

abbrev pub three_quarters : ℕ
three_quarters = 864691128455135232

abbrev pub task : ℕ → ℕ → ℕ → List Table → Task
task offset period deadline cycle = record { name = []; offset = offset; period = period; deadline = deadline; cycle = cycle; allow = (0, 1) }

abbrev pub sheet : ℕ → ℕ → Option Support → List Task → Sheet
sheet cap hyperperiods support tasks = record { settings = record { cap = cap; hyperperiods = hyperperiods; turns = 16; support = support }; tasks = tasks }

-- each 4 ticks a job of 1 tick, or with the same chance of 6
abbrev pub heavy : List Task
heavy = task 0 4 4 (((1, 1) ∷ (6, 1) ∷ []) ∷ []) ∷ []

-- at 2, and each 4 ticks on, a job of 1 tick, or in one of four cases of 4
abbrev pub late : List Task
late = task 2 4 3 (((1, 3) ∷ (4, 1) ∷ []) ∷ []) ∷ []

-- each 4 ticks a job of 1 tick, or in one of three cases of 2, above one of 2 or 4 ticks each 8 ticks
abbrev pub two : List Task
two = task 0 4 4 (((1, 2) ∷ (2, 1) ∷ []) ∷ []) ∷ task 0 8 7 (((2, 1) ∷ (4, 1) ∷ []) ∷ []) ∷ []

-- each 10 ticks a job of 7 ticks
abbrev pub fixed : List Task
fixed = task 0 10 4 (((7, 1) ∷ []) ∷ []) ∷ []

-- two jobs in turn each 5 ticks, the second of 2 ticks
abbrev pub turning : List Task
turning = task 0 5 5 (((3, 1) ∷ (6, 1) ∷ []) ∷ ((2, 1) ∷ []) ∷ []) ∷ []

-- the first task alone, and the second below the first
abbrev pub alone : Level
alone = level_of [] 0

abbrev pub below : Level
below = level_of (true ∷ []) 1

abbrev pub entry : Dir → Kind → ℕ → ℕ → ℕ → ℕ → Entry
entry dir kind task job op amount = record { dir = dir; kind = kind; task = task; job = job; op = op; amount = amount }

abbrev pub each_fourth : Option Support
each_fourth = Some (record { fine = 0; step = 4 })

pub record WorkedRuns : Type 0 where
  -- of a first job of 1 tick nothing is left, of one of 6 ticks 2
  pub second_instant : (level_run Up heavy alone None (point 11 0) 0 5).cells
      ≡ 0 ∷ quarter ∷ quarter ∷ half ∷ half ∷ half ∷ three_quarters ∷ three_quarters ∷ unit ∷ unit ∷ unit ∷ []
  pub exact : analysis_entries Up (sheet 11 3 None heavy) alone ++ analysis_entries Down (sheet 11 3 None heavy) alone ≡ []
  pub sampled_up : analysis_entries Up (sheet 12 2 each_fourth heavy) alone ≡ entry Up Resample 0 1 2 half ∷ []
  pub sampled_down : analysis_entries Down (sheet 12 2 each_fourth heavy) alone ≡ entry Down Resample 0 1 2 half ∷ []
  pub cut_up : analysis_entries Up (sheet 6 3 None heavy) alone ≡ entry Up Cut 0 0 1 half ∷ entry Up Cut 0 1 2 quarter ∷ entry Up Cut 0 2 3 144115188075855872 ∷ []
  pub cut_down : analysis_entries Down (sheet 6 3 None heavy) alone ≡ entry Down Cut 0 0 1 half ∷ entry Down Cut 0 1 2 half ∷ entry Down Cut 0 2 3 half ∷ []
  -- in Up the second addition leaves no remainder
  pub rounded_up : analysis_entries Up (sheet 9 1 None two) below ≡ entry Up Round 1 0 1 1 ∷ []
  pub rounded_down : analysis_entries Down (sheet 9 1 None two) below ≡ entry Down Round 1 0 1 1 ∷ entry Down Round 1 0 2 1 ∷ []
  pub cut_whole : analysis_entries Up (sheet 6 1 None fixed) alone ≡ entry Up Cut 0 0 1 unit ∷ []
  pub image_of_point : image late alone 4 (point 5 0) ≡ three_quarters ∷ three_quarters ∷ unit ∷ unit ∷ unit ∷ []
  pub own_table : (level_run Up turning alone None (point 8 0) 0 6).cells ≡ 0 ∷ 0 ∷ half ∷ unit ∷ unit ∷ unit ∷ unit ∷ unit ∷ []

-- greatest work, worst-case backlog and peak
pub record WorkedGreatest : Type 0 where
  pub late_work : greatest_work late alone ≡ 4
  pub late_backlog : worst_backlog late alone ≡ 2
  pub late_peak : peak late alone ≡ 4
  pub heavy_work : greatest_work heavy alone ≡ 6
  pub heavy_backlog : worst_backlog heavy alone ≡ 2
  pub heavy_peak : peak heavy alone ≡ 8
  pub fixed_work : greatest_work fixed alone ≡ 7
  pub fixed_backlog : worst_backlog fixed alone ≡ 0
  pub fixed_peak : peak fixed alone ≡ 7
  pub turning_work : greatest_work turning alone ≡ 8
  pub two_work : greatest_work two below ≡ 8
  pub two_peak : peak two below ≡ 6
  pub two_room : room_for (sheet 9 1 None two) ≡ 46
