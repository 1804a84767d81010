-- Laws of certificates.
use Rattle.std.specs.Prelude.{◌≡◌, ◌↔◌, ℕ, ◌*◌, ◌<◌, ◌≤◌, ◌⊎◌, true, List, length}
use Rattle.prta_mass.specs.Chances.{IsChances}
use Rattle.prta_mass.specs.declared.direction.Dir.TheVariants.{Up}
use Rattle.prta_sheet.specs.Sheet.{Task, task_at, hyperperiod}
use Rattle.prta_sheet.specs.Job.{nth_job}
use Rattle.prta_backlog.specs.Level.{Level}
use Rattle.prta_backlog.specs.Greatest.{greatest_work, peak}
use Rattle.prta_response.specs.Backlog.{BoundsBacklog}
use Rattle.prta_response.specs.Chance.{IsOrderFor, BoundsChance, copy_of}
use Rattle.prta_response.specs.Laws.{IsLevelOf}
use Rattle.prta_certificate.specs.Certificate.{Certifies, certifies, steady_number}
use Rattle.prta_certificate.specs.Candidates.{candidates, first_certifying}

-- the test of a list is what it says
abbrev pub TestCertifies : Type 0
TestCertifies =
    (tasks : List Task) (level : Level) (cells : List ℕ) → IsLevelOf tasks level → 0 < length cells → IsChances cells →
    (certifies tasks level cells ≡ true) ↔ Certifies tasks level cells

-- a list that certifies a level bounds its backlog at the start of every hyperperiod
abbrev pub CertifiedListsBound : Type 0
CertifiedListsBound =
    (tasks : List Task) (level : Level) (cells : List ℕ) (m : ℕ) → IsLevelOf tasks level → 0 < length cells → IsChances cells → Certifies tasks level cells →
    BoundsBacklog Up tasks level (m * hyperperiod tasks) (m * hyperperiod tasks) cells

-- so the steady number of an own job bounds the exact chance of its copy in every later hyperperiod
abbrev pub SteadyNumbersHold : Type 0
SteadyNumbersHold =
    (tasks : List Task) (level : Level) (cells : List ℕ) (order : List ℕ) (k m : ℕ) → IsLevelOf tasks level → (task_at tasks level.own).deadline < length cells → IsChances cells →
    Certifies tasks level cells → IsOrderFor tasks level order →
    BoundsChance Up tasks order (copy_of tasks level.own k m) (steady_number tasks level cells (nth_job tasks level.own k))

-- where the greatest work fits the hyperperiod and the peak is below the cap, one of the candidates certifies
abbrev pub CandidatesCertify : Type 0
CandidatesCertify =
    (tasks : List Task) (level : Level) (cap turns : ℕ) → IsLevelOf tasks level → greatest_work tasks level ≤ hyperperiod tasks → peak tasks level < cap →
    first_certifying tasks level cap turns < length (candidates tasks level cap turns)

-- where it doesn't, or the peak isn't, no list of as many cells as the cap does
abbrev pub NoneCertifies : Type 0
NoneCertifies =
    (tasks : List Task) (level : Level) (cap : ℕ) (cells : List ℕ) → IsLevelOf tasks level → (hyperperiod tasks < greatest_work tasks level) ⊎ (cap ≤ peak tasks level) →
    length cells ≡ cap → IsChances cells → Certifies tasks level cells → ⊥
