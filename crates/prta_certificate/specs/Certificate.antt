-- Certificates: lists that bound the backlog at the start of every hyperperiod.
use Rattle.std.specs.Prelude.{ℕ, Option, None, Bool, ◌&&◌, is_none, nat_eq, List}
use Rattle.prta_mass.specs.Unit.{unit}
use Rattle.prta_mass.specs.Chances.{last, IsWhole, Dominates}
use Rattle.prta_mass.specs.declared.direction.Dir.TheVariants.{Up}
use Rattle.prta_sheet.specs.Sheet.{Task, hyperperiod}
use Rattle.prta_sheet.specs.Job.{Job}
use Rattle.prta_dist.specs.declared.effect.Break.{Break}
use Rattle.prta_dist.specs.Curve.{first_break}
use Rattle.prta_backlog.specs.Level.{Level}
use Rattle.prta_backlog.specs.LevelRun.{image}
use Rattle.prta_response.specs.Response.{number_from}

-- the image of a list, one hyperperiod later
abbrev pub next_image : List Task → Level → List ℕ → List ℕ
next_image tasks level cells = image tasks level (hyperperiod tasks) cells

-- a list certifies a level where it is whole and dominates its image
pub record Certifies (tasks : List Task) (level : Level) (cells : List ℕ) : Type 0 where
  pub whole : IsWhole cells
  pub dominates : Dominates cells (next_image tasks level cells)

-- the first place where its image is below it
abbrev pub broken_at : List Task → Level → List ℕ → Option Break
broken_at tasks level cells = first_break cells (next_image tasks level cells)

-- the same as a test
abbrev pub certifies : List Task → Level → List ℕ → Bool
certifies tasks level cells = nat_eq (last cells) unit && is_none (broken_at tasks level cells)

-- the steady number of an own job, for a list: its upper number in a level run without re-sampling that starts at time 0 with the list
abbrev pub steady_number : List Task → Level → List ℕ → Job → ℕ
steady_number tasks level cells job = number_from Up tasks level None cells 0 job.release
