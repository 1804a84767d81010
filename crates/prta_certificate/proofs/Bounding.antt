-- A list that certifies a level bounds its backlog at every hyperperiod, and so its steady numbers hold there.
use Rattle.std.proofs.Common.{ℕ, zero, suc, ◌*◌, ◌<◌, ◌≤◌, None, List, sym, subst, arith, zero-mul, le_trans, mul-le-mul_right}
use Rattle.prta_mass.specs.Chances.{at, point, IsChances, Dominates}
use Rattle.prta_mass.specs.declared.direction.Dir.TheVariants.{Up}
use Rattle.prta_dist.proofs.Cells.{at_limited}
use Rattle.prta_sheet.specs.Sheet.{Task, hyperperiod}
use Rattle.prta_sheet.specs.Job.{table_of, jobs_before}
use Rattle.prta_sheet.specs.Assignment.{total_of}
use Rattle.prta_backlog.specs.Level.{Level}
use Rattle.prta_response.specs.Backlog.{BoundsBacklog}
use Rattle.prta_response.specs.Chance.{BoundsChance, copy_of}
use Rattle.prta_response.specs.Laws.{BoundsFromStart, LawOfStarts, ImagesBoundBacklogs, PointsBoundBacklogs}
use Rattle.prta_response.proofs.Operations.{at-point}
use Rattle.prta_certificate.specs.Certificate.{next_image}
use Rattle.prta_certificate.specs.Laws.{CertifiedListsBound, SteadyNumbersHold}

-- in Up what dominates a list that bounds a backlog bounds it too
pub dominating_bounds : (tasks : List Task) (level : Level) (until t : ℕ) (cells below : List ℕ) → Dominates cells below → BoundsBacklog Up tasks level until t below → BoundsBacklog Up tasks level until t cells
dominating_bounds tasks level until t cells below dominates claim k = le_trans (mul-le-mul_right (total_of (table_of tasks) (jobs_before tasks until)) (dominates k)) (claim k)

-- every list of chances dominates the point at 0
pub dominates_point : (cells : List ℕ) (cap : ℕ) → 0 < cap → IsChances cells → Dominates cells (point cap 0)
dominates_point cells cap some chances k = subst (λ x. at cells k ≤ x) (sym (at-point cap k some)) (at_limited cells k chances)

-- so it bounds the empty backlog at time 0; and where a certifying list bounds the backlog at one hyperperiod, its image bounds that at the next, and so does the list
pub certified_bound : ImagesBoundBacklogs → PointsBoundBacklogs → CertifiedListsBound
certified_bound images points tasks level cells zero is some chances certified =
    subst (λ t. BoundsBacklog Up tasks level t t cells) (sym (zero-mul (hyperperiod tasks)))
    (dominating_bounds tasks level 0 0 cells (point 1 0) (dominates_point cells 1 (omega arith) chances) (points.empty Up tasks level 1 (omega arith)))
certified_bound images points tasks level cells (suc m) is some chances certified =
    let next : ℕ = suc m * hyperperiod tasks in
    dominating_bounds tasks level next next cells (next_image tasks level cells) certified.dominates
    (images tasks level cells m is some (certified_bound images points tasks level cells m is some chances certified))

-- the number from the list at a hyperperiod bounds the chance of the copy there, and is the number from the list at time 0
pub steady_hold : LawOfStarts → CertifiedListsBound → SteadyNumbersHold
steady_hold law bound tasks level cells order k m is long chances certified fits =
    let from : BoundsFromStart Up tasks level None cells m = law Up tasks level None cells m is long (bound tasks level cells m is (omega (arith, long)) chances certified) in
    subst (BoundsChance Up tasks order (copy_of tasks level.own k m)) (from.repeats k) (from.numbers order k fits)
