-- What holds of every sheet that is made.
use Rattle.std.specs.Prelude.{◌≡◌, ◌≢◌, ℕ, ◌+◌, ◌^◌, ◌<◌, ◌≤◌, Bool, true, ◌&&◌, ◌||◌, nat_le, nat_eq, Option, Some, None, List, length, All}
use Rattle.std.specs.Char.{is_ascii_alphanumeric}
use Rattle.std.specs.List.{list_all}
use Rattle.prta_mass.specs.Table.{IsTable, greatest}
use Rattle.prta_mass.specs.declared.support.Support.{Support}
use Rattle.prta_sheet.specs.declared.settings.Settings.{Settings}
use Rattle.prta_sheet.specs.declared.limits.TheConstants.{TASK_LIMIT, NAME_LIMIT, CYCLE_LIMIT, TIME_LIMIT, PERIOD_LIMIT, JOB_LIMIT, WORK_LIMIT}
use Rattle.prta_sheet.specs.Sheet.{Task, Sheet, task_at, hyperperiod}
use Rattle.prta_sheet.specs.Counts.{all_jobs}
use Rattle.prta_sheet.specs.Work.{work}

-- a letter or a digit of ASCII, '_' or '-'
abbrev pub is_name_byte : ℕ → Bool
is_name_byte b = is_ascii_alphanumeric b || (nat_eq b 95 || nat_eq b 45)

-- 1 to 24 such bytes
abbrev pub is_good_name : List ℕ → Bool
is_good_name name = (nat_le 1 (length name) && nat_le (length name) NAME_LIMIT) && list_all is_name_byte name

-- a stated support is in its ranges
pub record AreSupportRanges (support : Support) : Type 0 where
  pub fine : support.fine ≤ 16383
  pub step_low : 1 ≤ support.step
  pub step_high : support.step ≤ 16384

abbrev pub IsSupport : Option Support → Type 0
IsSupport None = Unit {0}
IsSupport (Some support) = AreSupportRanges support

-- p of q, with p at most q
pub record IsAllowance (allow : ℕ × ℕ) : Type 0 where
  pub part : allow.0 ≤ allow.1
  pub whole_low : 1 ≤ allow.1
  pub whole_high : allow.1 ≤ 10 ^ 18

-- no name is that of an earlier task
abbrev pub HaveOwnNames : List Task → Type 0
HaveOwnNames tasks = (i j : ℕ) → i < j → j < length tasks → (task_at tasks i).name ≢ (task_at tasks j).name

-- the settings are in their ranges
pub record AreSettings (settings : Settings) : Type 0 where
  pub cap_low : 3 ≤ settings.cap
  pub cap_high : settings.cap ≤ 16384
  pub hyperperiods_low : 1 ≤ settings.hyperperiods
  pub hyperperiods_high : settings.hyperperiods ≤ 64
  pub turns : settings.turns ≤ 64
  pub support : IsSupport settings.support

-- the task is in the ranges, under a cap
pub record IsTask (cap : ℕ) (task : Task) : Type 0 where
  pub name : is_good_name task.name ≡ true
  pub offset : task.offset < task.period
  pub period_low : 1 ≤ task.period
  pub period_high : task.period ≤ PERIOD_LIMIT
  pub deadline_low : 1 ≤ task.deadline
  pub deadline_high : task.deadline + 2 ≤ cap
  pub cycle_low : 1 ≤ length task.cycle
  pub cycle_high : length task.cycle ≤ CYCLE_LIMIT
  pub tables : All IsTable task.cycle
  pub times : All (λ table. greatest table ≤ TIME_LIMIT) task.cycle
  pub allow : IsAllowance task.allow

pub record IsAccepted (sheet : Sheet) : Type 0 where
  pub settings : AreSettings sheet.settings
  pub some : 1 ≤ length sheet.tasks
  pub few : length sheet.tasks ≤ TASK_LIMIT
  pub tasks : All (IsTask sheet.settings.cap) sheet.tasks
  pub names : HaveOwnNames sheet.tasks
  pub short_hyperperiod : hyperperiod sheet.tasks ≤ PERIOD_LIMIT
  pub jobs : all_jobs sheet ≤ JOB_LIMIT
  pub work : work sheet ≤ WORK_LIMIT
