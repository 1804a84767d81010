-- What a verdict says of its level.
use Rattle.std.specs.Prelude.{◌≡◌, ℕ, ◌≤◌, ◌<◌, List, length}
use Rattle.prta_mass.specs.Chances.{IsChances}
use Rattle.prta_sheet.specs.Sheet.{Task, hyperperiod}
use Rattle.prta_backlog.specs.Level.{Level}
use Rattle.prta_backlog.specs.Greatest.{greatest_work, peak}
use Rattle.prta_response.specs.Laws.{IsLevelOf}
use Rattle.prta_certificate.specs.Certificate.{Certifies}
use Rattle.prta_certificate.specs.Candidates.{image_of_point, lowered, slack, verdict_of}
use Rattle.prta_certificate.specs.declared.verdict.Verdict.{Verdict}
use Rattle.prta_certificate.specs.declared.verdict.Verdict.TheVariants.{Turn, Slack, OverFull, BeyondCap}

-- this image of the point at 0 certifies, and none before it does
pub record IsFirstImage (tasks : List Task) (level : Level) (cap turns j : ℕ) : Type 0 where
  pub tried : j ≤ turns
  pub certified : Certifies tasks level (image_of_point tasks level cap j)
  pub first : (i : ℕ) → i < j → Certifies tasks level (image_of_point tasks level cap i) → ⊥

-- lowered by s, one of the sixteen numbers, the last image certifies; none of the images does, nor the last one lowered by a number before s
pub record IsFirstLowered (tasks : List Task) (level : Level) (cap turns s : ℕ) : Type 0 where
  pub place : ℕ
  pub tried : place < 16
  pub amount : s ≡ slack place
  pub certified : Certifies tasks level (lowered tasks level cap turns s)
  pub no_image : (i : ℕ) → i ≤ turns → Certifies tasks level (image_of_point tasks level cap i) → ⊥
  pub first : (i : ℕ) → i < place → Certifies tasks level (lowered tasks level cap turns (slack i)) → ⊥

-- no list of chances of as many cells as the cap certifies
abbrev pub NoList : List Task → Level → ℕ → Type 0
NoList tasks level cap = (cells : List ℕ) → length cells ≡ cap → IsChances cells → Certifies tasks level cells → ⊥

-- the greatest work is above the hyperperiod
pub record IsOverFull (tasks : List Task) (level : Level) (cap work total : ℕ) : Type 0 where
  pub greatest : work ≡ greatest_work tasks level
  pub whole : total ≡ hyperperiod tasks
  pub over : total < work
  pub none : NoList tasks level cap

-- the greatest work isn't above the hyperperiod, but the peak isn't below the cap
pub record IsBeyondCap (tasks : List Task) (level : Level) (cap most : ℕ) : Type 0 where
  pub fits : greatest_work tasks level ≤ hyperperiod tasks
  pub greatest : most ≡ peak tasks level
  pub over : cap ≤ most
  pub none : NoList tasks level cap

abbrev pub Says : List Task → Level → ℕ → ℕ → Verdict → Type 0
Says tasks level cap turns (Turn j) = IsFirstImage tasks level cap turns j
Says tasks level cap turns (Slack s) = IsFirstLowered tasks level cap turns s
Says tasks level cap turns (OverFull work total) = IsOverFull tasks level cap work total
Says tasks level cap turns (BeyondCap most) = IsBeyondCap tasks level cap most

-- the verdict says so of every level
abbrev pub VerdictsSay : Type 0
VerdictsSay = (tasks : List Task) (level : Level) (cap turns : ℕ) → IsLevelOf tasks level → Says tasks level cap turns (verdict_of tasks level cap turns)
