-- The numbers after each image.
use Rattle.std.proofs.Common.{◌≡◌, ℕ, suc, ◌+◌, ◌≤◌, min, map, replicate, List, get_or, ap, ap₂, sym, ◌∙◌, arith}
use Rattle.std.specs.List.{range_with_len}
use Rattle.prta_mass.specs.Unit.{unit}
use Rattle.prta_sheet.specs.Sheet.{Task}
use Rattle.prta_sheet.specs.Job.{nth_job}
use Rattle.prta_backlog.specs.Level.{Level}
use Rattle.prta_certificate.specs.Certificate.{next_image, steady_number}
use Rattle.prta_tail.specs.Tail.{image_of, least_steady}
use Rattle.prta_tail.proofs.Lowering.{lowered_from, lowered_first}

module _ (tasks : List Task) (level : Level) (task : ℕ) (base : List ℕ) (n : ℕ) where
  -- the least numbers up to an image, of n jobs
  abbrev pub least_up_to : ℕ → List ℕ
  least_up_to turn = map (λ k. least_steady tasks level base (nth_job tasks task k) turn) (range_with_len 0 n)

  abbrev steady_of : List ℕ → ℕ → ℕ
  steady_of cells k = steady_number tasks level cells (nth_job tasks task k)

  abbrev lowered_by : List ℕ → List ℕ → List ℕ
  lowered_by xs cells = map (λ k. min (get_or xs k 0) (steady_of cells k)) (range_with_len 0 n)

  steady_low : (cells : List ℕ) (k : ℕ) → steady_of cells k ≤ unit
  steady_low cells k = omega arith

  -- the base list itself
  pub first_turn : (xs cells now : List ℕ) → xs ≡ replicate n unit → cells ≡ base → now ≡ lowered_by xs cells → now ≡ least_up_to 0
  first_turn xs cells now full list is =
      is ∙ ap₂ lowered_by full list ∙ lowered_first (steady_of base) n unit (steady_low base)

  -- one image further
  pub next_turn : (turn : ℕ) (xs cells now : List ℕ) → xs ≡ least_up_to turn → cells ≡ image_of tasks level base (turn + 1) → now ≡ lowered_by xs cells → now ≡ least_up_to (turn + 1)
  next_turn turn xs cells now before list is =
      let e : turn + 1 ≡ suc turn = omega arith in
      is ∙ ap (lowered_by xs) (list ∙ ap (image_of tasks level base) e)
      ∙ lowered_from (steady_of (image_of tasks level base (suc turn))) (λ k. least_steady tasks level base (nth_job tasks task k) turn) n xs before
      ∙ ap least_up_to (sym e)

  pub image_next : (turn : ℕ) (cells spare main : List ℕ) → spare ≡ image_of tasks level base turn → main ≡ spare → cells ≡ next_image tasks level main → cells ≡ image_of tasks level base (turn + 1)
  image_next turn cells spare main is brought gone_on =
      let e : suc turn ≡ turn + 1 = omega arith in
      gone_on ∙ ap (next_image tasks level) (brought ∙ is) ∙ ap (image_of tasks level base) e
