-- Level runs: the list of chances of a level's backlog, from instant to instant.
use Rattle.std.specs.Prelude.{ℕ, zero, suc, ◌+◌, ◌-◌, Option, Some, None, Bool, true, false, if◌then◌else◌, List, fold}
use Rattle.prta_mass.specs.declared.direction.Dir.{Dir}
use Rattle.prta_mass.specs.declared.direction.Dir.TheVariants.{Up}
use Rattle.prta_mass.specs.declared.support.Support.{Support}
use Rattle.prta_mass.specs.Table.{Table}
use Rattle.prta_sheet.specs.Sheet.{Task}
use Rattle.prta_sheet.specs.Job.{Job, table_of}
use Rattle.prta_shift.specs.Shift.{shifted}
use Rattle.prta_resample.specs.Resample.{resampled}
use Rattle.prta_dist.specs.Addition.{added}
use Rattle.prta_backlog.specs.Level.{Level, level_at, is_quiet}

-- the tables of some jobs, added one after the other
abbrev pub tables_added : Dir → (Job → Table) → List Job → List ℕ → List ℕ
tables_added dir table jobs cells = fold (λ cells job. added dir (table job) cells) cells jobs

-- a list after an instant, the time of that instant, or of the start, and whether there was an instant
pub record RunState : Type 0 where
  pub cells : List ℕ
  pub since : ℕ
  pub begun : Bool

-- the list that the next instant shifts: re-sampled, where there is a support and an instant before
abbrev pub kept : Dir → Option Support → RunState → List ℕ
kept dir None run = run.cells
kept dir (Some support) run = if run.begun then resampled dir support run.cells else run.cells

-- the list to which an instant adds its jobs' tables: shifted by the time since the instant before
abbrev pub found_at : Dir → Option Support → RunState → ℕ → List ℕ
found_at dir support run t = shifted (t - run.since) (kept dir support run)

-- a run after an instant at a time: the tables of the jobs that the level releases are added
abbrev pub after_instant : Dir → List Task → Level → Option Support → RunState → ℕ → RunState
after_instant dir tasks level support run t = record {
  cells = tables_added dir (table_of tasks) (level_at tasks level t) (found_at dir support run t);
  since = t;
  begun = true;
}

-- before the first instant: the start's list at a base time
abbrev pub run_start : List ℕ → ℕ → RunState
run_start start base = record { cells = start; since = base; begun = false }

-- from a list at a base time through the instants of the n ticks from there on
abbrev pub level_run : Dir → List Task → Level → Option Support → List ℕ → ℕ → ℕ → RunState
level_run dir tasks level support start base zero = run_start start base
level_run dir tasks level support start base (suc n) =
    let run = level_run dir tasks level support start base n in
    if is_quiet tasks level (base + n) then run else after_instant dir tasks level support run (base + n)

-- the image of a list: in Up and without re-sampling through the instants of one hyperperiod, and shifted to its end
abbrev pub image : List Task → Level → ℕ → List ℕ → List ℕ
image tasks level hyperperiod cells =
    let run = level_run Up tasks level None cells 0 hyperperiod in
    shifted (hyperperiod - run.since) run.cells
