-- One of the candidates certifies where the greatest work and the peak are low enough, and no list where they aren't.
use Rattle.std.proofs.Common.{◌≡◌, ℕ, zero, suc, ◌+◌, ◌-◌, ◌≤◌, ◌<◌, ◌⊎◌, max, min, true, nat_lt, if◌then◌else◌, List, [], ◌∷◌, map, length, get_or, refl, ap, sym, ◌∙◌, arith, ⊎_elim, true≢false}
use Rattle.std.specs.List.{range_with_len}
use Rattle.std.proofs.lemmas.List.{get_or-append_right, get_or_append_left, length-append}
use Rattle.std.proofs.lemmas.List.Sums.{fails_before_first}
use Rattle.std.proofs.lemmas.List.FromFn.{length-map-range_with_len, get_or-map-range_with_len}
use Rattle.std.proofs.lemmas.Bool.{cases_lt, lt-ltb, le-ltb}
use Rattle.prta_mass.specs.Unit.{unit}
use Rattle.prta_mass.specs.Chances.{at, cells_of, point, IsChances, IsWhole}
use Rattle.prta_sheet.specs.Sheet.{Task, hyperperiod}
use Rattle.prta_dist.specs.Curve.{lower}
use Rattle.prta_dist.proofs.Cells.{at_past, at_limited}
use Rattle.prta_dist.proofs.Chances.{point_chances}
use Rattle.prta_backlog.specs.Level.{Level}
use Rattle.prta_backlog.specs.Greatest.{greatest_work, backlog_end, worst_backlog, peak, greatest_walk}
use Rattle.prta_backlog.specs.Laws.{StaysChances}
use Rattle.prta_backlog.proofs.Chances.{size_point}
use Rattle.prta_response.specs.Laws.{IsLevelOf}
use Rattle.prta_certificate.specs.Certificate.{next_image, Certifies, certifies}
use Rattle.prta_certificate.specs.Candidates.{image_of_point, lowered, slack, candidates, first_certifying}
use Rattle.prta_certificate.specs.Laws.{CandidatesCertify, NoneCertifies}
use Rattle.prta_certificate.proofs.Certifying.{passes_from}
use Rattle.prta_certificate.proofs.Walks.{ends_at, most_rises, worst_low}
use Rattle.prta_certificate.proofs.Units.{Low, Full, at_some_cell}
use Rattle.prta_certificate.proofs.Wholeness.{image_chances, image_low, image_never, image_full}

-- ---- no list certifies

-- a list without the unit isn't whole
not_whole : (cells : List ℕ) → ((c : ℕ) → Low cells c) → IsWhole cells → ⊥
not_whole cells low whole =
    let n : ℕ = length cells in
    absurd (omega (arith, at_past cells (n - 1) (omega arith), low (suc n) (n - 1) (omega arith), whole))

module _ (tasks : List Task) (level : Level) (cells : List ℕ) (of : IsLevelOf tasks level) (some : 0 < length cells) (chances : IsChances cells) (is : Certifies tasks level cells) where
  -- where no value below a place is the unit, neither is the one at the place: else the image would be below the list there
  none_there : (b : ℕ) → (hyperperiod tasks < greatest_work tasks level) ⊎ (length cells ≤ peak tasks level) → Low cells b → at cells b < unit
  none_there b over low =
      let ends : backlog_end tasks level b ≡ max (worst_backlog tasks level) (b + greatest_work tasks level - hyperperiod tasks) = ends_at tasks level of.apart b in
      ⊎_elim
      (λ (l : b < backlog_end tasks level b). omega (arith, is.dominates b, image_low tasks level of.tables cells b some chances low b l))
      (λ (l : backlog_end tasks level b ≤ b). ⊎_elim
      (λ (w : hyperperiod tasks < greatest_work tasks level). absurd (omega arith))
      (λ (w : length cells ≤ peak tasks level).
      let up : peak tasks level ≤ (greatest_walk tasks level b (hyperperiod tasks)).most = most_rises tasks level (worst_backlog tasks level) b (hyperperiod tasks) (omega arith) in
      omega (arith, is.dominates b, image_never tasks level of.tables cells b (suc b) some chances low (omega arith) b (omega arith)))
      over)
      (cases_lt b (backlog_end tasks level b))

  none_below : (hyperperiod tasks < greatest_work tasks level) ⊎ (length cells ≤ peak tasks level) → (b : ℕ) → Low cells b
  none_below over zero k near = absurd (omega arith)
  none_below over (suc b) k near = ⊎_elim
      (λ (l : k < b). none_below over b k l)
      (λ (l : b ≤ k). let e : k ≡ b = omega arith in rw e (none_there b over (none_below over b)))
      (cases_lt k b)

some_cells : (cells : List ℕ) → IsWhole cells → 0 < length cells
some_cells [] whole = absurd (omega (arith, whole))
some_cells (cell ∷ cells) whole = omega arith

pub none_certifies : NoneCertifies
none_certifies tasks level cap cells of over size chances is =
    let over_it : (hyperperiod tasks < greatest_work tasks level) ⊎ (length cells ≤ peak tasks level) = rw size over in
    not_whole cells (none_below tasks level cells of (some_cells cells is.whole) chances is over_it) is.whole

-- ---- the point at the worst-case backlog certifies

module _ (cap b : ℕ) (room : b < cap) where
  abbrev cell : ℕ → ℕ
  cell k = if nat_lt k b then 0 else unit

  empty_point : (k : ℕ) → k < b → at (point cap b) k ≡ 0
  empty_point k near = at_some_cell cap cell k (omega arith) ∙ (let e : min k (cap - 1) < b = omega arith in rw (lt-ltb (min k (cap - 1)) b e) refl)

  full_point : Full (point cap b) b
  full_point k far = at_some_cell cap cell k (omega arith) ∙ (let e : b ≤ min k (cap - 1) = omega arith in rw (le-ltb (min k (cap - 1)) b e) refl)

  whole_point : IsWhole (point cap b)
  whole_point = let n : ℕ = length (point cap b) in sym (at_past (point cap b) (n - 1) (omega arith)) ∙ full_point (n - 1) (omega (arith, size_point cap b))

point_certifies : (tasks : List Task) (level : Level) (cap : ℕ) → IsLevelOf tasks level → greatest_work tasks level ≤ hyperperiod tasks → peak tasks level < cap →
    Certifies tasks level (point cap (worst_backlog tasks level))
point_certifies tasks level cap of fits below =
    let worst : ℕ = worst_backlog tasks level in
    let room : worst < cap = omega (arith, worst_low tasks level) in
    let ends : backlog_end tasks level worst ≡ worst = omega (arith, ends_at tasks level of.apart worst) in
    let full : Full (next_image tasks level (point cap worst)) (backlog_end tasks level worst) =
    image_full tasks level of.tables (point cap worst) worst (full_point cap worst room) (omega (arith, size_point cap worst)) in
    record {
      whole = whole_point cap worst room;
      dominates = λ k. ⊎_elim
          (λ (l : k < worst). omega (arith, empty_point cap worst room k l))
          (λ (l : worst ≤ k). omega (arith, full_point cap worst room k l, full k (omega arith)))
          (cases_lt k worst);
    }

-- ---- it is the last candidate

-- a list of chances lowered by the unit is a point
lowered_all : (cap top : ℕ) (cells : List ℕ) → length cells ≡ cap → IsChances cells → lower unit top cells ≡ point cap top
lowered_all cap top cells size chances =
    ap (λ n. cells_of n (λ k. if nat_lt k top then at cells k - unit else unit)) size
    ∙ ap (cells_of cap) (λ i k. if nat_lt k top then none k i else unit)
  where
    none : (k : ℕ) → at cells k - unit ≡ 0
    none k = omega (arith, at_limited cells k chances)

module _ (tasks : List Task) (level : Level) (cap : ℕ) (of : IsLevelOf tasks level) (some : 0 < cap) where
  pub images_stay : (j : ℕ) → StaysChances (point cap 0) (image_of_point tasks level cap j)
  images_stay zero = record { chances = point_chances cap 0; size = refl }
  images_stay (suc j) =
      let was : StaysChances (point cap 0) (image_of_point tasks level cap j) = images_stay j in
      let next : StaysChances (image_of_point tasks level cap j) (image_of_point tasks level cap (suc j)) =
      image_chances tasks level (image_of_point tasks level cap j) of.tables (omega (arith, was.size, size_point cap 0)) was.chances in
      record { chances = next.chances; size = next.size ∙ was.size }

  last_lowered : (turns : ℕ) → lowered tasks level cap turns (slack 15) ≡ point cap (worst_backlog tasks level)
  last_lowered turns =
      let is : StaysChances (point cap 0) (image_of_point tasks level cap turns) = images_stay turns in
      lowered_all cap (worst_backlog tasks level) (image_of_point tasks level cap turns) (is.size ∙ size_point cap 0) is.chances

module _ (tasks : List Task) (level : Level) (cap turns : ℕ) where
  abbrev images : List (List ℕ)
  images = map (image_of_point tasks level cap) (range_with_len 0 (turns + 1))

  abbrev lowered_by : ℕ → List ℕ
  lowered_by i = lowered tasks level cap turns (slack i)

  image_count : length images ≡ turns + 1
  image_count = length-map-range_with_len (image_of_point tasks level cap) 0 (turns + 1)

  pub count : length (candidates tasks level cap turns) ≡ turns + 17
  count = length-append images (map lowered_by (range_with_len 0 16)) ∙ omega (arith, image_count, length-map-range_with_len lowered_by 0 16)

  pub image_candidate : (j : ℕ) → j ≤ turns → get_or (candidates tasks level cap turns) j [] ≡ image_of_point tasks level cap j
  image_candidate j near =
      get_or_append_left images (map lowered_by (range_with_len 0 16)) [] j (omega (arith, image_count))
      ∙ get_or-map-range_with_len (image_of_point tasks level cap) 0 (turns + 1) j j [] (omega arith) (omega arith)

  pub lowered_candidate : (i : ℕ) → i < 16 → get_or (candidates tasks level cap turns) (turns + 1 + i) [] ≡ lowered tasks level cap turns (slack i)
  lowered_candidate i near =
      let place : turns + 1 + i - (turns + 1) ≡ i = omega arith in
      get_or-append_right images (map lowered_by (range_with_len 0 16)) (turns + 1) (turns + 1 + i) [] image_count (omega arith)
      ∙ ap (λ k. get_or (map lowered_by (range_with_len 0 16)) k []) place
      ∙ get_or-map-range_with_len lowered_by 0 16 i i [] near (omega arith)

module _ (tasks : List Task) (level : Level) (cap turns : ℕ) (of : IsLevelOf tasks level) (fits : greatest_work tasks level ≤ hyperperiod tasks) (below : peak tasks level < cap) where
  pub last_certifies : certifies tasks level (lowered tasks level cap turns (slack 15)) ≡ true
  last_certifies =
      ap (certifies tasks level) (last_lowered tasks level cap of (omega arith) turns)
      ∙ passes_from tasks level (point cap (worst_backlog tasks level)) (point_certifies tasks level cap of fits below)

pub candidates_certify : CandidatesCertify
candidates_certify tasks level cap turns of fits below =
    let all : List (List ℕ) = candidates tasks level cap turns in
    let first : ℕ = first_certifying tasks level cap turns in
    let passes : certifies tasks level (get_or all (turns + 1 + 15) []) ≡ true =
    ap (certifies tasks level) (lowered_candidate tasks level cap turns 15 (omega arith)) ∙ last_certifies tasks level cap turns of fits below in
    ⊎_elim
    (λ (l : first < length all). l)
    (λ (l : length all ≤ first). absurd (true≢false (sym passes ∙ fails_before_first (certifies tasks level) all (turns + 1 + 15) [] (omega (arith, count tasks level cap turns)))))
    (cases_lt first (length all))
