-- The numbers of a job from the point at 0 at time 0 are around its exact chance, and the lower one bounds the chance of each copy.
use Rattle.std.proofs.Common.{◌≡◌, ℕ, ◌+◌, ◌*◌, ◌<◌, Option, List, length, get_or, ◌/◌, sym, ◌∙◌, subst, arith, zero-mul, le_refl}
use Rattle.std.proofs.lemmas.Bool.{le-ltb}
use Rattle.prta_mass.specs.Chances.{point}
use Rattle.prta_mass.specs.declared.direction.Dir.{Dir}
use Rattle.prta_mass.specs.declared.direction.Dir.TheVariants.{Up, Down}
use Rattle.prta_mass.specs.declared.support.Support.{Support}
use Rattle.prta_sheet.specs.Sheet.{Task, Sheet, task_at, hyperperiod}
use Rattle.prta_sheet.specs.Job.{nth_job}
use Rattle.prta_sheet.specs.Machine.{place}
use Rattle.prta_sheet.specs.Chance.{IsAround}
use Rattle.prta_sheet.specs.Accepted.{IsTask, IsAccepted}
use Rattle.prta_backlog.specs.Level.{Level}
use Rattle.prta_backlog.proofs.Chances.{size_point}
use Rattle.prta_response.specs.Response.{number_from}
use Rattle.prta_response.specs.Backlog.{BoundsBacklog}
use Rattle.prta_response.specs.Chance.{IsOrderFor, BoundsChance, copy_of}
use Rattle.prta_response.specs.Laws.{IsLevelOf, BoundsFromStart, LawOfStarts, PointsBoundBacklogs, NumbersAreAround, LowerNumbersStay}

module _ (law : LawOfStarts) (points : PointsBoundBacklogs) where
  module _ (tasks : List Task) (level : Level) (support : Option Support) (cap : ℕ) (is : IsLevelOf tasks level) (low : (task_at tasks level.own).deadline < cap) (order : List ℕ) (fits : IsOrderFor tasks level order) (k : ℕ) where
    -- the number of the job in the level run from the point at 0
    abbrev number : Dir → ℕ
    number dir = number_from dir tasks level support (point cap 0) 0 (nth_job tasks level.own k).release

    -- where the point bounds the backlog at a hyperperiod, the number bounds the chance of the copy there
    by_point : (dir : Dir) (m : ℕ) → BoundsBacklog dir tasks level (m * hyperperiod tasks) (m * hyperperiod tasks) (point cap 0) → BoundsChance dir tasks order (copy_of tasks level.own k m) (number dir)
    by_point dir m claim =
        let from : BoundsFromStart dir tasks level support (point cap 0) m = law dir tasks level support (point cap 0) m is (omega (arith, size_point cap 0)) claim in
        subst (BoundsChance dir tasks order (copy_of tasks level.own k m)) (from.repeats k) (from.numbers order k fits)

    first : (dir : Dir) → BoundsChance dir tasks order (nth_job tasks level.own k) (number dir)
    first dir =
        let none : k + 0 * (hyperperiod tasks / (task_at tasks level.own).period) ≡ k = omega arith in
        subst (λ i. BoundsChance dir tasks order (nth_job tasks level.own i) (number dir)) none
        (by_point dir 0 (subst (λ t. BoundsBacklog dir tasks level t t (point cap 0)) (sym (zero-mul (hyperperiod tasks))) (points.empty dir tasks level cap (omega arith))))

    pub around : IsAround tasks order (nth_job tasks level.own k) (number Down) (number Up)
    around = record { below = first Down; above = first Up }

    pub stays : (m : ℕ) → BoundsChance Down tasks order (copy_of tasks level.own k m) (number Down)
    stays m = by_point Down m (points.later tasks level cap (m * hyperperiod tasks) (omega arith))

  -- ---- accepted sheets

  module _ (sheet : Sheet) (level : Level) (order : List ℕ) (is : IsAccepted sheet) (own : level.own < length sheet.tasks) (fits : IsOrderFor sheet.tasks level order) where
    level_is : IsLevelOf sheet.tasks level
    level_is = record {
      tables = record {
        some = λ i d low. let task : IsTask sheet.settings.cap (get_or sheet.tasks i d) = is.tasks i d low in task.cycle_low;
        tables = λ i d low. let task : IsTask sheet.settings.cap (get_or sheet.tasks i d) = is.tasks i d low in task.tables;
      };
      periodic = λ i d low. let task : IsTask sheet.settings.cap (get_or sheet.tasks i d) = is.tasks i d low in record { offset = task.offset; deadline = task.deadline_low };
      own = own;
      apart = fits.above level.own ∙ le-ltb (place order level.own) (place order level.own) (le_refl _);
    }

    within : (task_at sheet.tasks level.own).deadline < sheet.settings.cap
    within = let task : IsTask sheet.settings.cap (task_at sheet.tasks level.own) = is.tasks level.own _ own in omega (arith, task.deadline_high)

  pub numbers_are_around : NumbersAreAround
  numbers_are_around sheet level order k is own fits =
      around sheet.tasks level sheet.settings.support sheet.settings.cap (level_is sheet level order is own fits) (within sheet level order is own fits) order fits k

  pub lower_numbers_stay : LowerNumbersStay
  lower_numbers_stay sheet level order k m is own fits =
      stays sheet.tasks level sheet.settings.support sheet.settings.cap (level_is sheet level order is own fits) (within sheet level order is own fits) order fits k m
