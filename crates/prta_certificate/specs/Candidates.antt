-- The lists that are tried as certificates, and the verdict on a level.
use Rattle.std.specs.Prelude.{ℕ, zero, suc, ◌+◌, ◌-◌, ◌*◌, ◌^◌, nat_lt, nat_le, if◌then◌else◌, Option, Some, None, List, ◌++◌, map}
use Rattle.std.specs.List.{range_with_len, position_or_len}
use Rattle.prta_mass.specs.Chances.{point}
use Rattle.prta_sheet.specs.Sheet.{Task, hyperperiod}
use Rattle.prta_dist.specs.Curve.{lower}
use Rattle.prta_backlog.specs.Level.{Level}
use Rattle.prta_backlog.specs.Greatest.{greatest_work, worst_backlog, peak}
use Rattle.prta_certificate.specs.Certificate.{next_image, certifies}
use Rattle.prta_certificate.specs.declared.verdict.Verdict.{Verdict}
use Rattle.prta_certificate.specs.declared.verdict.Verdict.TheVariants.{Turn, Slack, OverFull, BeyondCap}

-- the j-th image of the point at 0; the 0-th is the point itself
abbrev pub image_of_point : List Task → Level → ℕ → ℕ → List ℕ
image_of_point tasks level cap zero = point cap 0
image_of_point tasks level cap (suc j) = next_image tasks level (image_of_point tasks level cap j)

-- the last of these less s, not below 0, at places below the worst-case backlog, and the unit from there on
abbrev pub lowered : List Task → Level → ℕ → ℕ → ℕ → List ℕ
lowered tasks level cap turns s = lower s (worst_backlog tasks level) (image_of_point tasks level cap turns)

-- the numbers that are taken off, in turn
abbrev pub slack : ℕ → ℕ
slack i = 2 ^ (4 * i)

-- first the images 0 to turns of the point at 0, then the last of them lowered by 2^0, 2^4, .., 2^60
abbrev pub candidates : List Task → Level → ℕ → ℕ → List (List ℕ)
candidates tasks level cap turns =
    map (image_of_point tasks level cap) (range_with_len 0 (turns + 1))
    ++ map (λ i. lowered tasks level cap turns (slack i)) (range_with_len 0 16)

-- the place of the first that certifies; their number where none does
abbrev pub first_certifying : List Task → Level → ℕ → ℕ → ℕ
first_certifying tasks level cap turns = position_or_len (certifies tasks level) (candidates tasks level cap turns)

-- what is said of a level
abbrev pub verdict_of : List Task → Level → ℕ → ℕ → Verdict
verdict_of tasks level cap turns =
    let work = greatest_work tasks level in
    let most = peak tasks level in
    let i = first_certifying tasks level cap turns in
    if nat_lt (hyperperiod tasks) work then OverFull work (hyperperiod tasks)
    else if nat_le cap most then BeyondCap most
    else if nat_le i turns then Turn i
    else Slack (slack (i - (turns + 1)))

-- the list that a verdict names, where it names one
abbrev pub list_of : List Task → Level → ℕ → ℕ → Verdict → Option (List ℕ)
list_of tasks level cap turns (Turn j) = Some (image_of_point tasks level cap j)
list_of tasks level cap turns (Slack s) = Some (lowered tasks level cap turns s)
list_of tasks level cap turns (OverFull work hyperperiod) = None
list_of tasks level cap turns (BeyondCap peak) = None
