-- The law of starts, and what follows from it for the numbers of an analysis.
use Rattle.std.specs.Prelude.{◌≡◌, ℕ, suc, ◌+◌, ◌*◌, ◌<◌, ◌≤◌, false, Option, List, length, All}
use Rattle.prta_mass.specs.Chances.{point}
use Rattle.prta_mass.specs.declared.direction.Dir.{Dir}
use Rattle.prta_mass.specs.declared.direction.Dir.TheVariants.{Up, Down}
use Rattle.prta_mass.specs.declared.support.Support.{Support}
use Rattle.prta_sheet.specs.Sheet.{Task, Sheet, task_at, hyperperiod}
use Rattle.prta_sheet.specs.Job.{nth_job}
use Rattle.prta_sheet.specs.Chance.{IsAround}
use Rattle.prta_sheet.specs.Accepted.{IsAccepted}
use Rattle.prta_backlog.specs.Level.{Level, is_quiet}
use Rattle.prta_backlog.specs.LevelRun.{level_run, image}
use Rattle.prta_backlog.specs.Laws.{HaveTables}
use Rattle.prta_response.specs.Response.{number_from, number_of}
use Rattle.prta_response.specs.Backlog.{BoundsBacklog}
use Rattle.prta_response.specs.Chance.{IsOrderFor, BoundsChance, copy_of}

-- what the laws ask of a task beside its tables; every task of an accepted sheet has it
pub record IsPeriodic (task : Task) : Type 0 where
  pub offset : task.offset < task.period
  pub deadline : 1 ≤ task.deadline

-- what they ask of tasks and a level of them
pub record IsLevelOf (tasks : List Task) (level : Level) : Type 0 where
  pub tables : HaveTables tasks
  pub periodic : All IsPeriodic tasks
  pub own : level.own < length tasks
  pub apart : level.higher level.own ≡ false

-- The law of starts: what follows where a list bounds a level's backlog at the start of the m-th later hyperperiod
pub record BoundsFromStart (dir : Dir) (tasks : List Task) (level : Level) (support : Option Support) (start : List ℕ) (m : ℕ) : Type 0 where
  -- a level run that starts there with the list bounds the backlog right after each instant, for the jobs released up to and at it
  pub instants : (n : ℕ) → let t = m * hyperperiod tasks + n in
      is_quiet tasks level t ≡ false → BoundsBacklog dir tasks level (suc t) t (level_run dir tasks level support start (m * hyperperiod tasks) (suc n)).cells
  -- the number of each own job in this level run bounds the exact chance of the job's copy, under every order in which exactly the higher tasks stand above
  pub numbers : (order : List ℕ) (k : ℕ) → IsOrderFor tasks level order →
      BoundsChance dir tasks order (copy_of tasks level.own k m) (number_from dir tasks level support start (m * hyperperiod tasks) (nth_job tasks level.own k).release)
  -- and it is the number of the job in the level run that starts with the list at time 0
  pub repeats : (k : ℕ) →
      number_from dir tasks level support start (m * hyperperiod tasks) (nth_job tasks level.own k).release
      ≡ number_from dir tasks level support start 0 (nth_job tasks level.own k).release

abbrev pub LawOfStarts : Type 0
LawOfStarts =
    (dir : Dir) (tasks : List Task) (level : Level) (support : Option Support) (start : List ℕ) (m : ℕ) → IsLevelOf tasks level →
    (task_at tasks level.own).deadline < length start → BoundsBacklog dir tasks level (m * hyperperiod tasks) (m * hyperperiod tasks) start →
    BoundsFromStart dir tasks level support start m

-- in Up the image of a list that bounds the backlog at the start of a hyperperiod bounds it at the start of the next
abbrev pub ImagesBoundBacklogs : Type 0
ImagesBoundBacklogs =
    (tasks : List Task) (level : Level) (cells : List ℕ) (m : ℕ) → IsLevelOf tasks level → 0 < length cells →
    BoundsBacklog Up tasks level (m * hyperperiod tasks) (m * hyperperiod tasks) cells →
    BoundsBacklog Up tasks level (suc m * hyperperiod tasks) (suc m * hyperperiod tasks) (image tasks level (hyperperiod tasks) cells)

-- the point at 0 bounds the backlog at time 0 in both directions, and in Down at every time
pub record PointsBoundBacklogs : Type 0 where
  pub empty : (dir : Dir) (tasks : List Task) (level : Level) (cap : ℕ) → 0 < cap → BoundsBacklog dir tasks level 0 0 (point cap 0)
  pub later : (tasks : List Task) (level : Level) (cap t : ℕ) → 0 < cap → BoundsBacklog Down tasks level t t (point cap 0)

-- the numbers of an analysis in the two directions are around the exact chance of the job
abbrev pub NumbersAreAround : Type 0
NumbersAreAround =
    (sheet : Sheet) (level : Level) (order : List ℕ) (k : ℕ) → IsAccepted sheet → level.own < length sheet.tasks → IsOrderFor sheet.tasks level order →
    IsAround sheet.tasks order (nth_job sheet.tasks level.own k)
    (number_of Down sheet level (nth_job sheet.tasks level.own k)) (number_of Up sheet level (nth_job sheet.tasks level.own k))

-- and the lower one bounds the exact chance of the job's copy in every later hyperperiod
abbrev pub LowerNumbersStay : Type 0
LowerNumbersStay =
    (sheet : Sheet) (level : Level) (order : List ℕ) (k m : ℕ) → IsAccepted sheet → level.own < length sheet.tasks → IsOrderFor sheet.tasks level order →
    BoundsChance Down sheet.tasks order (copy_of sheet.tasks level.own k m) (number_of Down sheet level (nth_job sheet.tasks level.own k))
