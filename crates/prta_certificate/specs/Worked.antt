-- Worked certificates.
use Rattle.std.specs.Prelude.{◌≡◌, [], ◌∷◌}
use Rattle.prta_mass.specs.Unit.{unit}
use Rattle.prta_mass.specs.Chances.{point}
use Rattle.prta_sheet.specs.Job.{nth_job}
use Rattle.prta_backlog.specs.Worked.{late, heavy, fixed, two, alone, below, three_quarters, quarter}
use Rattle.prta_certificate.specs.Certificate.{steady_number}
use Rattle.prta_certificate.specs.Candidates.{image_of_point, lowered, verdict_of}
use Rattle.prta_certificate.specs.declared.verdict.Verdict.TheVariants.{Turn, Slack, OverFull, BeyondCap}

pub record WorkedCertificates : Type 0 where
  -- the first image certifies: work is left over in one of four hyperperiods
  pub turn : verdict_of late alone 5 16 ≡ Turn 1
  pub list : image_of_point late alone 5 1 ≡ three_quarters ∷ three_quarters ∷ unit ∷ unit ∷ unit ∷ []
  pub steady : steady_number late alone (image_of_point late alone 5 1) (nth_job late 0 0) ≡ quarter
  -- without a turn, the point at 0 lowered by the whole unit below the worst-case backlog
  pub slack : verdict_of late alone 5 0 ≡ Slack unit
  pub lowest : lowered late alone 5 0 unit ≡ point 5 2
  pub slack_steady : steady_number late alone (point 5 2) (nth_job late 0 0) ≡ quarter
  -- a level that is empty at the end of each hyperperiod
  pub empty : verdict_of two below 9 16 ≡ Turn 0
  pub overfull : verdict_of heavy alone 11 16 ≡ OverFull 6 4
  pub beyond : verdict_of fixed alone 6 16 ≡ BeyondCap 7
