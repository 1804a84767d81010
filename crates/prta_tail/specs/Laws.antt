-- Laws of geometric tails.
use Rattle.std.specs.Prelude.{◌≡◌, ℕ, ◌+◌, ◌-◌, ◌*◌, ◌^◌, ◌<◌, ◌≤◌, true, List, Contains}
use Rattle.prta_mass.specs.declared.direction.Dir.TheVariants.{Up}
use Rattle.prta_sheet.specs.Sheet.{Task, Sheet, task_at, sheet_order, hyperperiod}
use Rattle.prta_sheet.specs.Job.{nth_job, table_of, jobs_before}
use Rattle.prta_sheet.specs.Assignment.{total_of}
use Rattle.prta_backlog.specs.Level.{Level, sheet_level}
use Rattle.prta_backlog.specs.Greatest.{worst_backlog}
use Rattle.prta_response.specs.Backlog.{BoundsBacklog}
use Rattle.prta_response.specs.Chance.{IsOrderFor, BoundsChance, copy_of}
use Rattle.prta_response.specs.Laws.{IsLevelOf}
use Rattle.prta_tail.specs.declared.ratio.Ratio.{Ratio}
use Rattle.prta_tail.specs.Ratios.{ratios}
use Rattle.prta_tail.specs.Walk.{ratio_passes}
use Rattle.prta_tail.specs.Tail.{base_list, image_of, tail_number, weight_above}

-- one of the ratios, which passes for the level
pub record Passes (tasks : List Task) (level : Level) (r : Ratio) : Type 0 where
  pub listed : Contains ratios r
  pub passes : ratio_passes tasks level r ≡ true

-- the backlog at a time is above k with a chance of at most (p/q)^(k + 1 - B), for every k from the worst-case backlog B on
abbrev pub HasTail : List Task → Level → Ratio → ℕ → Type 0
HasTail tasks level r t =
    (k : ℕ) → worst_backlog tasks level ≤ k →
    weight_above tasks level t k * r.q ^ (k + 1 - worst_backlog tasks level) ≤ total_of (table_of tasks) (jobs_before tasks t) * r.p ^ (k + 1 - worst_backlog tasks level)

-- where a ratio passes for a level, its backlog at the start of every hyperperiod has the tail
abbrev pub BacklogsHaveTails : Type 0
BacklogsHaveTails = (tasks : List Task) (level : Level) (r : Ratio) (m : ℕ) → IsLevelOf tasks level → Passes tasks level r → HasTail tasks level r (m * hyperperiod tasks)

-- so each image of the base list bounds it there
abbrev pub BaseListsBound : Type 0
BaseListsBound =
    (tasks : List Task) (level : Level) (cap : ℕ) (r : Ratio) (j m : ℕ) → IsLevelOf tasks level → 0 < cap → Passes tasks level r →
    BoundsBacklog Up tasks level (m * hyperperiod tasks) (m * hyperperiod tasks) (image_of tasks level (base_list tasks level cap r) j)

-- and the tail number of an own job bounds the exact chance of its copy in every later hyperperiod
abbrev pub TailNumbersHold : Type 0
TailNumbersHold =
    (tasks : List Task) (level : Level) (cap turns : ℕ) (r : Ratio) (order : List ℕ) (k m : ℕ) → IsLevelOf tasks level → (task_at tasks level.own).deadline < cap →
    Passes tasks level r → IsOrderFor tasks level order →
    BoundsChance Up tasks order (copy_of tasks level.own k m) (tail_number tasks level cap turns r (nth_job tasks level.own k))

-- what holds of the tail numbers of a sheet's task at a ratio: that of job k bounds the exact chance that its copy m hyperperiods later
-- misses its deadline, under the sheet's own order of priorities; and the backlog of its level there has the tail
pub record TailsHold (sheet : Sheet) (i : ℕ) (r : Ratio) : Type 0 where
  pub numbers : (k m : ℕ) → BoundsChance Up sheet.tasks (sheet_order sheet.tasks) (copy_of sheet.tasks i k m)
      (tail_number sheet.tasks (sheet_level i) sheet.settings.cap sheet.settings.turns r (nth_job sheet.tasks i k))
  pub backlogs : (m : ℕ) → HasTail sheet.tasks (sheet_level i) r (m * hyperperiod sheet.tasks)
