-- The steps of the search for a certificate, each with the verdict that it decides.
use Rattle.std.specs.Prelude.{◌≡◌, ℕ, ◌≤◌, ◌<◌, Bool, true, false, Option, Some, None, List}
use Rattle.prta_sheet.specs.Sheet.{Task, hyperperiod}
use Rattle.prta_backlog.specs.Level.{Level}
use Rattle.prta_backlog.specs.Greatest.{greatest_work, peak}
use Rattle.prta_response.specs.Laws.{IsLevelOf}
use Rattle.prta_certificate.specs.Certificate.{certifies}
use Rattle.prta_certificate.specs.Candidates.{image_of_point, lowered, slack, verdict_of}
use Rattle.prta_certificate.specs.declared.verdict.Verdict.TheVariants.{Turn, Slack, OverFull, BeyondCap}

-- the greatest work and the peak decide first
abbrev pub WorkDecides : Type 0
WorkDecides =
    (tasks : List Task) (level : Level) (cap turns : ℕ) →
    (hyperperiod tasks < greatest_work tasks level → verdict_of tasks level cap turns ≡ OverFull (greatest_work tasks level) (hyperperiod tasks))
    × (greatest_work tasks level ≤ hyperperiod tasks → cap ≤ peak tasks level → verdict_of tasks level cap turns ≡ BeyondCap (peak tasks level))

-- then the first image of the point at 0 that certifies
abbrev pub ImageDecides : Type 0
ImageDecides =
    (tasks : List Task) (level : Level) (cap turns j : ℕ) → greatest_work tasks level ≤ hyperperiod tasks → peak tasks level < cap → j ≤ turns →
    ((i : ℕ) → i < j → certifies tasks level (image_of_point tasks level cap i) ≡ false) →
    certifies tasks level (image_of_point tasks level cap j) ≡ true →
    verdict_of tasks level cap turns ≡ Turn j

-- then the first of the sixteen lowered lists
abbrev pub SlackDecides : Type 0
SlackDecides =
    (tasks : List Task) (level : Level) (cap turns n : ℕ) → greatest_work tasks level ≤ hyperperiod tasks → peak tasks level < cap → n < 16 →
    ((i : ℕ) → i ≤ turns → certifies tasks level (image_of_point tasks level cap i) ≡ false) →
    ((i : ℕ) → i < n → certifies tasks level (lowered tasks level cap turns (slack i)) ≡ false) →
    certifies tasks level (lowered tasks level cap turns (slack n)) ≡ true →
    verdict_of tasks level cap turns ≡ Slack (slack n)

-- the last of the sixteen certifies
abbrev pub LastCertifies : Type 0
LastCertifies =
    (tasks : List Task) (level : Level) (cap turns : ℕ) → IsLevelOf tasks level → greatest_work tasks level ≤ hyperperiod tasks → peak tasks level < cap →
    certifies tasks level (lowered tasks level cap turns (slack 15)) ≡ true

pub record SearchDecides : Type 0 where
  pub work : WorkDecides
  pub image : ImageDecides
  pub slack : SlackDecides
  pub last : LastCertifies

-- of some lists in turn this one is the first that passes the test, and is left
pub record IsFirst (test : List ℕ → Bool) (list : ℕ → List ℕ) (n : ℕ) (cells : List ℕ) : Type 0 where
  pub fail : (i : ℕ) → i < n → test (list i) ≡ false
  pub passes : test (list n) ≡ true
  pub left : cells ≡ list n

-- none of the images of the point at 0 certifies, and the last of them is left
pub record NoImage (tasks : List Task) (level : Level) (cap turns : ℕ) (cells : List ℕ) : Type 0 where
  pub fail : (i : ℕ) → i ≤ turns → certifies tasks level (image_of_point tasks level cap i) ≡ false
  pub left : cells ≡ image_of_point tasks level cap turns

-- after the images 0 to turns were tried: the first that certifies is left, or none does
abbrev pub ImagesTried : List Task → Level → ℕ → ℕ → List ℕ → Option ℕ → Type 0
ImagesTried tasks level cap turns cells None = NoImage tasks level cap turns cells
ImagesTried tasks level cap turns cells (Some j) = (j ≤ turns) × IsFirst (certifies tasks level) (image_of_point tasks level cap) j cells

-- the number is one of the sixteen; the last image lowered by it is the first of the lowered lists that certifies, and is left
abbrev pub LoweredTried : List Task → Level → ℕ → ℕ → List ℕ → ℕ → Type 0
LoweredTried tasks level cap turns cells s =
    (n : ℕ) × (n < 16) × (s ≡ slack n) × IsFirst (certifies tasks level) (λ i. lowered tasks level cap turns (slack i)) n cells
