-- The images of the base list bound the backlog at every hyperperiod, and so the tail numbers hold there.
use Rattle.std.proofs.Common.{◌≡◌, ℕ, zero, suc, ◌+◌, ◌-◌, ◌*◌, ◌≤◌, ◌<◌, min, nat_lt, true, None, List, length, refl, ap, sym, ◌∙◌, subst, arith, ⊎_elim, le_trans, mul-le-mul_left, zero-add, zero-mul, add-zero, add-suc}
use Rattle.std.proofs.lemmas.Bool.{cases_lt, cond_both}
use Rattle.std.proofs.lemmas.Bool.Decides.{nat_tests}
use Rattle.prta_mass.specs.Unit.{unit}
use Rattle.prta_mass.specs.Chances.{point, IsChances, Dominates}
use Rattle.prta_mass.specs.declared.direction.Dir.TheVariants.{Up}
use Rattle.prta_sheet.specs.Sheet.{Task, task_at, hyperperiod}
use Rattle.prta_sheet.specs.Job.{Job, nth_job}
use Rattle.prta_sheet.specs.Chance.{miss_weight, chance_total}
use Rattle.prta_dist.proofs.Cells.{length-cells_of, chances_of}
use Rattle.prta_dist.proofs.Chances.{point_chances}
use Rattle.prta_backlog.specs.Level.{Level}
use Rattle.prta_backlog.specs.Greatest.{worst_backlog}
use Rattle.prta_backlog.specs.Laws.{DominatesAlike, ImagesKeepDominance, StaysChances}
use Rattle.prta_backlog.proofs.Chances.{size_image, size_point}
use Rattle.prta_response.specs.Backlog.{BoundsBacklog}
use Rattle.prta_response.specs.Chance.{BoundsChance, copy_of}
use Rattle.prta_response.specs.Laws.{IsLevelOf, BoundsFromStart, LawOfStarts, ImagesBoundBacklogs, PointsBoundBacklogs}
use Rattle.prta_response.proofs.Starts.{short, cycles}
use Rattle.prta_certificate.specs.Certificate.{next_image, steady_number}
use Rattle.prta_certificate.proofs.Bounding.{dominating_bounds, dominates_point}
use Rattle.prta_certificate.proofs.Wholeness.{image_chances}
use Rattle.prta_tail.specs.declared.ratio.Ratio.{Ratio}
use Rattle.prta_tail.specs.Ratios.{IsProper}
use Rattle.prta_tail.specs.Tail.{shrunk, base_cell, base_list, image_of, least_steady}
use Rattle.prta_tail.specs.Laws.{BacklogsHaveTails, BaseListsBound, TailNumbersHold}
use Rattle.prta_tail.proofs.Products.{ceil_least}
use Rattle.prta_tail.proofs.Proper.{proper}
use Rattle.prta_tail.proofs.Tails.{has_tail, base_bounds}

-- ---- the base list is one of chances

module _ (r : Ratio) (is : IsProper r) where
  shrunk_step : (n : ℕ) → shrunk r (suc n) ≤ shrunk r n
  shrunk_step n =
      let below : r.p ≤ r.q = omega (arith, is.below_one) in
      ceil_least (shrunk r n * r.p) r.q (shrunk r n) (omega (arith, is.below_one)) (mul-le-mul_left (shrunk r n) below)

  pub shrunk_falls : (n m : ℕ) → n ≤ m → shrunk r m ≤ shrunk r n
  shrunk_falls n zero h = let e : n ≡ 0 = omega arith in rw e (omega arith)
  shrunk_falls n (suc m) h = ⊎_elim
      (λ (l : n < suc m). le_trans (shrunk_step m) (shrunk_falls n m (omega arith)))
      (λ (l : suc m ≤ n). let e : n ≡ suc m = omega arith in rw e (omega arith))
      (cases_lt n (suc m))

  -- below the backlog nothing is left of the unit either
  pub cell_is : (worst k : ℕ) → base_cell r worst k ≡ unit - shrunk r (k + 1 - worst)
  cell_is worst k =
      cond_both (nat_lt k worst) 0 (unit - shrunk r (k + 1 - worst)) (λ x. x ≡ unit - shrunk r (k + 1 - worst))
      (λ e. let none : k + 1 - worst ≡ 0 = gone k worst e in omega (arith, ap (shrunk r) none))
      (λ e. refl)
    where
      gone : (k n : ℕ) → nat_lt k n ≡ true → k + 1 - n ≡ 0
      gone k n e = grind (arith, nat_tests)

  pub base_chances : (tasks : List Task) (level : Level) (cap : ℕ) → IsChances (base_list tasks level cap r)
  base_chances tasks level cap =
      let worst : ℕ = worst_backlog tasks level in
      chances_of cap (base_cell r worst)
      (λ i k le low. omega (arith, cell_is worst i, cell_is worst k, shrunk_falls (i + 1 - worst) (k + 1 - worst) (omega arith)))
      (λ k low. omega (arith, cell_is worst k))

-- ---- images

module _ (tasks : List Task) (level : Level) (is : IsLevelOf tasks level) where
  abbrev hyper : ℕ
  hyper = hyperperiod tasks

  abbrev BoundsAt : List ℕ → ℕ → Type 0
  BoundsAt cells t = BoundsBacklog Up tasks level t t cells

  pub length-image_of : (cells : List ℕ) (j : ℕ) → length (image_of tasks level cells j) ≡ length cells
  length-image_of cells zero = refl
  length-image_of cells (suc j) = size_image tasks level hyper (image_of tasks level cells j) ∙ length-image_of cells j

  images_later : (cells : List ℕ) (i j : ℕ) → image_of tasks level cells (i + j) ≡ image_of tasks level (image_of tasks level cells i) j
  images_later cells i zero = ap (image_of tasks level cells) (add-zero i)
  images_later cells i (suc j) = ap (image_of tasks level cells) (add-suc i j) ∙ ap (next_image tasks level) (images_later cells i j)

  images_chances : (cells : List ℕ) → 0 < length cells → IsChances cells → (j : ℕ) → IsChances (image_of tasks level cells j)
  images_chances cells some chances zero = chances
  images_chances cells some chances (suc j) =
      let stays : StaysChances (image_of tasks level cells j) (image_of tasks level cells (suc j)) =
      image_chances tasks level (image_of tasks level cells j) is.tables (omega (arith, length-image_of cells j)) (images_chances cells some chances j) in
      stays.chances

  module _ (images : ImagesBoundBacklogs) (points : PointsBoundBacklogs) (keep : ImagesKeepDominance) where
    -- the j-th image of what bounds the backlog at a hyperperiod bounds that at the j-th later one
    images_bound : (cells : List ℕ) (m : ℕ) → 0 < length cells → BoundsAt cells (m * hyper) → (j : ℕ) → BoundsAt (image_of tasks level cells j) ((m + j) * hyper)
    images_bound cells m some h zero = subst (λ n. BoundsAt cells (n * hyper)) (sym (add-zero m)) h
    images_bound cells m some h (suc j) =
        subst (λ n. BoundsAt (image_of tasks level cells (suc j)) (n * hyper)) (sym (add-suc m j))
        (images tasks level (image_of tasks level cells j) (m + j) is (omega (arith, length-image_of cells j)) (images_bound cells m some h j))

    images_dominate : (x y : List ℕ) → DominatesAlike x y → (j : ℕ) → DominatesAlike (image_of tasks level x j) (image_of tasks level y j)
    images_dominate x y h zero = h
    images_dominate x y h (suc j) = keep tasks level hyper (image_of tasks level x j) (image_of tasks level y j) is.tables (images_dominate x y h j)

    -- every list of chances dominates the point at 0
    over_point : (cells : List ℕ) (cap : ℕ) → 0 < cap → length cells ≡ cap → IsChances cells → DominatesAlike cells (point cap 0)
    over_point cells cap some size chances = record { same = size ∙ sym (size_point cap 0); some = omega (arith, size); dominates = dominates_point cells cap some chances }

    -- each image of a list of chances that bounds every hyperperiod does so
    pub every_image : (cells : List ℕ) (cap : ℕ) → 0 < cap → length cells ≡ cap → IsChances cells → ((m : ℕ) → BoundsAt cells (m * hyper)) → (j m : ℕ) → BoundsAt (image_of tasks level cells j) (m * hyper)
    every_image cells cap some size chances h j m = ⊎_elim
        (λ (l : m < j).
        let i : ℕ = j - m in
        let split : j ≡ i + m = omega arith in
        let empty : List ℕ = point cap 0 in
        let size_empty : length empty ≡ cap = size_point cap 0 in
        let first : DominatesAlike (image_of tasks level cells j) (image_of tasks level empty j) = images_dominate cells empty (over_point cells cap some size chances) j in
        let second : DominatesAlike (image_of tasks level (image_of tasks level empty i) m) (image_of tasks level empty m) =
        images_dominate (image_of tasks level empty i) empty
        (over_point (image_of tasks level empty i) cap some (length-image_of empty i ∙ size_empty) (images_chances empty (omega (arith, size_empty)) (point_chances cap 0) i)) m in
        let same : image_of tasks level empty j ≡ image_of tasks level (image_of tasks level empty i) m = ap (image_of tasks level empty) split ∙ images_later empty i m in
        let both : Dominates (image_of tasks level cells j) (image_of tasks level empty m) =
        λ k. le_trans (first.dominates k) (subst (λ x. Dominates x (image_of tasks level empty m)) (sym same) second.dominates k) in
        let from_start : BoundsAt empty (0 * hyper) = subst (BoundsAt empty) (sym (zero-mul hyper)) (points.empty Up tasks level cap some) in
        let at_m : BoundsAt (image_of tasks level empty m) (m * hyper) =
        subst (λ n. BoundsAt (image_of tasks level empty m) (n * hyper)) (zero-add m) (images_bound empty 0 (omega (arith, size_empty)) from_start m) in
        dominating_bounds tasks level (m * hyper) (m * hyper) (image_of tasks level cells j) (image_of tasks level empty m) both at_m)
        (λ (l : j ≤ m).
        let e : (m - j) + j ≡ m = omega arith in
        subst (λ n. BoundsAt (image_of tasks level cells j) (n * hyper)) e (images_bound cells (m - j) (omega (arith, size)) (h (m - j)) j))
        (cases_lt m j)

-- ---- the laws

pub tails_are : BacklogsHaveTails
tails_are tasks level r m is passing =
    let r_is : IsProper r = proper r passing.listed in
    has_tail tasks level r r_is.some (omega (arith, r_is.below_one)) is.apart is.tables (short tasks level is) (cycles tasks level is) passing.passes m

pub lists_bound : BacklogsHaveTails → ImagesBoundBacklogs → PointsBoundBacklogs → ImagesKeepDominance → BaseListsBound
lists_bound tails images points keep tasks level cap r j m is some passing =
    let r_is : IsProper r = proper r passing.listed in
    let worst : ℕ = worst_backlog tasks level in
    every_image tasks level is images points keep (base_list tasks level cap r) cap some (length-cells_of cap (base_cell r worst)) (base_chances r r_is tasks level cap)
    (λ n. base_bounds tasks level r r_is.some (omega (arith, r_is.below_one)) is.apart is.tables (short tasks level is) (cycles tasks level is) passing.passes cap (n * hyperperiod tasks) some
    (tails tasks level r n is passing))
    j m

-- the least of the steady numbers from lists that bound the backlog bounds the chance of the copy
pub numbers_hold : LawOfStarts → BaseListsBound → TailNumbersHold
numbers_hold law bound tasks level cap turns r order k m is long passing fits = go turns
  where
    base : List ℕ
    base = base_list tasks level cap r

    job : Job
    job = nth_job tasks level.own k

    long_image : (j : ℕ) → (task_at tasks level.own).deadline < length (image_of tasks level base j)
    long_image j = omega (arith, length-image_of tasks level is base j, length-cells_of cap (base_cell r (worst_backlog tasks level)))

    one : (j : ℕ) → BoundsChance Up tasks order (copy_of tasks level.own k m) (steady_number tasks level (image_of tasks level base j) job)
    one j =
        let from : BoundsFromStart Up tasks level None (image_of tasks level base j) m =
        law Up tasks level None (image_of tasks level base j) m is (long_image j) (bound tasks level cap r j m is (omega (arith, long)) passing) in
        subst (BoundsChance Up tasks order (copy_of tasks level.own k m)) (from.repeats k) (from.numbers order k fits)

    least : (x a b t : ℕ) → x ≤ a * t → x ≤ b * t → x ≤ min a b * t
    least x a b t k l = ⊎_elim
        (λ (p : a < b). let e : min a b ≡ a = omega arith in rw e k)
        (λ (p : b ≤ a). let e : min a b ≡ b = omega arith in rw e l)
        (cases_lt a b)

    go : (j : ℕ) → BoundsChance Up tasks order (copy_of tasks level.own k m) (least_steady tasks level base job j)
    go zero = one zero
    go (suc j) =
        least (unit * miss_weight tasks order (copy_of tasks level.own k m)) (least_steady tasks level base job j) (steady_number tasks level (image_of tasks level base (suc j)) job) (chance_total tasks (copy_of tasks level.own k m))
        (go j) (one (suc j))
