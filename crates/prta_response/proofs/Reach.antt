-- Delays that are made on the first cells alone, up to a reach.
use Rattle.std.proofs.Common.{◌≡◌, ℕ, suc, ◌+◌, ◌-◌, ◌*◌, ◌<◌, ◌≤◌, min, max, nat_le, if◌then◌else◌, List, [], ◌∷◌, ◌++◌, length, length-append, length-take, get_or, take, drop, sum_by, refl, ap, ap₂, sym, ◌∙◌, subst, arith, ⊎_elim}
use Rattle.std.proofs.lemmas.List.{get_or_append_left, get_or-append_right, get_or-take, get_or-drop, get_or-map, length-map, length-drop}
use Rattle.std.proofs.lemmas.List.Kept.{AllPairs-from_increasing}
use Rattle.std.proofs.lemmas.List.Sums.{sum_by-cons}
use Rattle.std.proofs.lemmas.Bool.{cases_lt, le-leb, lt-leb}
use Rattle.prta_mass.specs.Table.{Table, times, total, IsTable}
use Rattle.prta_mass.specs.Chances.{at, IsChances}
use Rattle.prta_mass.specs.Direction.{divided}
use Rattle.prta_mass.specs.declared.direction.Dir.{Dir}
use Rattle.prta_sheet.specs.Job.{Job}
use Rattle.prta_dist.proofs.Cells.{at_cell, at-cells_of, chances_by}
use Rattle.prta_preempt.specs.Delay.{delayed_sum, delayed}
use Rattle.prta_preempt.specs.Laws.{KeptByDelay}
use Rattle.prta_response.specs.Response.{all_delayed}
use Rattle.prta_response.specs.Reach.{least, Suffices}
use Rattle.prta_response.proofs.Operations.{length-delayed}
use Rattle.prta_response.proofs.Responses.{at-take}

-- ---- the least time

-- no time of a table is below it
times_high : (table : Table) → IsTable table → (i : ℕ) (d : ℕ × ℕ) → i < length table → least table ≤ (get_or table i d).0
times_high table is i d h =
    let n : ℕ = length table in
    let time : (j : ℕ) (e : ℕ × ℕ) → j < n → get_or (times table) j 0 ≡ (get_or table j e).0 = λ j e l. get_or-map (λ (p : ℕ × ℕ). p.0) table j e 0 l in
    ⊎_elim
    (λ (l : 0 < i).
    let below : get_or (times table) 0 0 < get_or (times table) i 0 = AllPairs-from_increasing (times table) is.increasing 0 i 0 l (omega (arith, length-map table (λ (p : ℕ × ℕ). p.0))) in
    omega (arith, below, time i d h, time 0 (0, 0) (omega arith)))
    (λ (l : i ≤ 0).
    let e : i ≡ 0 = omega arith in
    omega (arith, time i d h, time 0 (0, 0) (omega arith), ap (λ j. get_or (times table) j 0) e))
    (cases_lt 0 i)

-- sums of values that are the same at the times of a table
sum_same_within : (table : Table) (f g : ℕ → ℕ) (low : ℕ) → ((i : ℕ) (d : ℕ × ℕ) → i < length table → low ≤ (get_or table i d).0) → ((c : ℕ) → low ≤ c → f c ≡ g c) →
    sum_by (λ pair. pair.1 * f pair.0) table ≡ sum_by (λ pair. pair.1 * g pair.0) table
sum_same_within [] f g low high same = refl
sum_same_within (pair ∷ table) f g low high same =
    sum_by-cons (λ (p : ℕ × ℕ). p.1 * f p.0) pair table
    ∙ ap₂ (λ a b. pair.1 * a + b) (same pair.0 (high 0 pair (omega arith))) (sum_same_within table f g low (λ i d h. high (suc i) d (omega arith)) same)
    ∙ sym (sum_by-cons (λ (p : ℕ × ℕ). p.1 * g p.0) pair table)

-- ---- one delay of the first cells

-- the first cells delayed, with the others as they were
abbrev pub front_delayed : Dir → Table → ℕ → ℕ → List ℕ → List ℕ
front_delayed dir table d n cells = delayed dir table d (take n cells) ++ drop n cells

pub first_chances : (n : ℕ) (cells : List ℕ) → IsChances cells → IsChances (take n cells)
first_chances n cells chances = chances_by (take n cells)
    (λ i k le h. omega (arith, get_or-take n cells i 0 (omega (arith, length-take n cells)), get_or-take n cells k 0 (omega (arith, length-take n cells)), chances.rising i k 0 le (omega (arith, length-take n cells))))
    (λ k h. omega (arith, get_or-take n cells k 0 (omega (arith, length-take n cells)), chances.limited k 0 (omega (arith, length-take n cells))))

-- a cell after the delay
abbrev cell_after : Dir → Table → ℕ → List ℕ → ℕ → ℕ
cell_after dir table d cells k = if nat_le k d then at cells k else divided dir (delayed_sum table d cells k) (total table)

module _ (dir : Dir) (table : Table) (d n : ℕ) (cells : List ℕ) (inside : n ≤ length cells) where
  size_first : length (take n cells) ≡ n
  size_first = omega (arith, length-take n cells)

  size_new : length (delayed dir table d (take n cells)) ≡ n
  size_new = omega (arith, length-delayed dir table d (take n cells), size_first)

  pub size_front : length (front_delayed dir table d n cells) ≡ length cells
  size_front = omega (arith, length-append (delayed dir table d (take n cells)) (drop n cells), size_new, length-drop n cells)

  near : (k : ℕ) → k < n → get_or (front_delayed dir table d n cells) k 0 ≡ get_or (delayed dir table d (take n cells)) k 0
  near k low = get_or_append_left (delayed dir table d (take n cells)) (drop n cells) 0 k (omega (arith, size_new))

  far : (k : ℕ) → n ≤ k → get_or (front_delayed dir table d n cells) k 0 ≡ get_or cells k 0
  far k high =
      let place : n + (k - n) ≡ k = omega arith in
      get_or-append_right (delayed dir table d (take n cells)) (drop n cells) n k 0 size_new high
      ∙ get_or-drop n cells (k - n) 0
      ∙ ap (λ i. get_or cells i 0) place

  in_front : (k : ℕ) → k < n → at (front_delayed dir table d n cells) k ≡ cell_after dir table d (take n cells) k
  in_front k low =
      sym (at_cell (front_delayed dir table d n cells) k 0 (omega (arith, size_front)))
      ∙ near k low
      ∙ at_cell (delayed dir table d (take n cells)) k 0 (omega (arith, size_new))
      ∙ at-cells_of (length (take n cells)) (cell_after dir table d (take n cells)) k (omega (arith, size_first))

  -- the front falls, so that all stay a list of chances
  pub front_chances : IsChances cells → KeptByDelay d (take n cells) (delayed dir table d (take n cells)) → IsChances (front_delayed dir table d n cells)
  front_chances chances kept =
      let new : List ℕ = delayed dir table d (take n cells) in
      let below : (k : ℕ) → k < n → get_or new k 0 ≤ get_or cells k 0 = λ k low.
      omega (
        arith,
        kept.falls k (omega (arith, size_first)),
        at_cell new k 0 (omega (arith, size_new)),
        at_cell (take n cells) k 0 (omega (arith, size_first)),
        get_or-take n cells k 0 low,
      ) in
      chances_by (front_delayed dir table d n cells)
      (λ i k le h. ⊎_elim
      (λ (l : k < n). omega (arith, near i (omega arith), near k l, kept.chances.rising i k 0 le (omega (arith, size_new))))
      (λ (l : n ≤ k). ⊎_elim
      (λ (m : i < n). omega (arith, near i m, far k l, below i m, chances.rising i k 0 le (omega (arith, size_front))))
      (λ (m : n ≤ i). omega (arith, far i m, far k l, chances.rising i k 0 le (omega (arith, size_front))))
      (cases_lt i n))
      (cases_lt k n))
      (λ k h. ⊎_elim
      (λ (l : k < n). omega (arith, near k l, below k l, chances.limited k 0 (omega (arith, size_front))))
      (λ (l : n ≤ k). omega (arith, far k l, chances.limited k 0 (omega (arith, size_front))))
      (cases_lt k n))

-- cells that are right up to a reach are right after it up to one that is greater by the least time
right_on : (dir : Dir) (table : Table) (d reach next : ℕ) (cells ideal : List ℕ) → IsTable table → d ≤ reach → reach ≤ next → next ≤ reach + least table →
    next < length cells → length ideal ≡ length cells → ((k : ℕ) → k ≤ reach → at cells k ≡ at ideal k) →
    (k : ℕ) → k ≤ next → at (front_delayed dir table d (next + 1) cells) k ≡ at (delayed dir table d ideal) k
right_on dir table d reach next cells ideal is place on most inside size right k le =
    in_front dir table d (next + 1) cells (omega arith) k (omega arith)
    ∙ ⊎_elim
    (λ (l : d < k). rw (lt-leb k d l) (ap (λ s. divided dir s (total table))
    (sum_same_within table (λ c. at (take (next + 1) cells) (max (k - c) d)) (λ c. at ideal (max (k - c) d)) (least table) (times_high table is) (λ c high. read (max (k - c) d) (omega arith)))))
    (λ (l : k ≤ d). rw (le-leb k d l) (read k (omega arith)))
    (cases_lt d k)
    ∙ sym (at-cells_of (length ideal) (cell_after dir table d ideal) k (omega arith))
  where
    read : (j : ℕ) → j ≤ reach → at (take (next + 1) cells) j ≡ at ideal j
    read j low = at-take cells next j (omega arith) inside ∙ right j low

-- ---- all delays

-- the cells are right up to a reach: so are those of a list from which the delays still to come make the last one
pub record AreRight (dir : Dir) (table : Job → Table) (r reach : ℕ) (rest : List Job) (final cells : List ℕ) : Type 0 where
  pub ideal : List ℕ
  pub goes_on : all_delayed dir table r rest ideal ≡ final
  pub size : length ideal ≡ length cells
  pub right : (k : ℕ) → k ≤ reach → at cells k ≡ at ideal k

module _ (dir : Dir) (table : Job → Table) (r : ℕ) (final : List ℕ) where
  pub right_start : (reach : ℕ) (jobs rest : List Job) (cells : List ℕ) → rest ≡ jobs → final ≡ all_delayed dir table r jobs cells → AreRight dir table r reach rest final cells
  right_start reach jobs rest cells all is = record {
    ideal = cells;
    goes_on = ap (λ js. all_delayed dir table r js cells) all ∙ sym is;
    size = refl;
    right = λ k low. refl;
  }

  pub right_more : (reach next : ℕ) (job : Job) (jobs rest : List Job) (times : Table) (cells cells' : List ℕ) → rest ≡ job ∷ jobs → times ≡ table job → IsTable times →
      job.release - r ≤ reach → reach < length cells → next ≡ min (length cells - 1) (reach + least times) →
      cells' ≡ front_delayed dir times (job.release - r) (next + 1) cells → AreRight dir table r reach rest final cells → AreRight dir table r next jobs final cells'
  right_more reach next job jobs rest times cells cells' first own is place inside grows made h = record {
    ideal = delayed dir (table job) (job.release - r) h.ideal;
    goes_on = ap (λ js. all_delayed dir table r js h.ideal) (sym first) ∙ h.goes_on;
    size = omega (
      arith,
      length-delayed dir (table job) (job.release - r) h.ideal,
      h.size,
      ap length made,
      size_front dir times (job.release - r) (next + 1) cells (omega arith),
    );
    right = λ k low.
        ap (λ cs. at cs k) made
        ∙ right_on dir times (job.release - r) reach next cells h.ideal is place (omega arith) (omega arith) (omega arith) h.size h.right k low
        ∙ ap (λ t. at (delayed dir t (job.release - r) h.ideal) k) own;
  }

  pub right_end : (reach limit : ℕ) (rest : List Job) (cells : List ℕ) → rest ≡ [] → limit ≤ reach → AreRight dir table r reach rest final cells → at cells limit ≡ at final limit
  right_end reach limit rest cells none far h =
      h.right limit far ∙ ap (λ cs. at cs limit) (ap (λ js. all_delayed dir table r js h.ideal) (sym none) ∙ h.goes_on)

-- ---- a reach that suffices

-- what it says of the next job
pub suffices_next : (table : Job → Table) (r limit : ℕ) (job : Job) (jobs rest : List Job) (reach : ℕ) → rest ≡ job ∷ jobs → Suffices table r limit rest reach →
    (job.release - r ≤ reach) × Suffices table r limit jobs (min limit (reach + least (table job)))
suffices_next table r limit job jobs rest reach first h = subst (λ js. Suffices table r limit js reach) first h

-- what is found so far: the least times so far add up to a sum, up to the limit, and from a reach on, one suffices for all where it does for the rest
pub record Reaches (table : Job → Table) (r limit : ℕ) (all rest : List Job) (sum reach : ℕ) : Type 0 where
  pub from : (g : ℕ) → reach ≤ g → g ≤ limit → Suffices table r limit rest (min limit (g + sum)) → Suffices table r limit all g

module _ (table : Job → Table) (r limit : ℕ) (all : List Job) where
  pub reaches_start : (rest : List Job) → rest ≡ all → Reaches table r limit all rest 0 0
  reaches_start rest same = record {
    from = λ g high low h.
        let here : min limit (g + 0) ≡ g = omega arith in
        subst (λ js. Suffices table r limit js g) same (subst (Suffices table r limit rest) here h);
  }

  pub reaches_more : (job : Job) (jobs rest : List Job) (sum sum' reach reach' : ℕ) → rest ≡ job ∷ jobs → job.release - r ≤ limit →
      reach' ≡ max reach (job.release - r - sum) → sum' ≡ min limit (sum + least (table job)) → Reaches table r limit all rest sum reach → Reaches table r limit all jobs sum' reach'
  reaches_more job jobs rest sum sum' reach reach' first place higher more h = record {
    from = λ g high low s.
        let here : job.release - r ≤ min limit (g + sum) = omega arith in
        let next : min limit (g + sum') ≡ min limit (min limit (g + sum) + least (table job)) = omega arith in
        h.from g (omega arith) low (subst (λ js. Suffices table r limit js (min limit (g + sum))) (sym first) (here, subst (Suffices table r limit jobs) next s));
  }

  pub reaches_end : (rest : List Job) (sum reach found : ℕ) → rest ≡ [] → reach ≤ limit → found ≡ max reach (limit - sum) → Reaches table r limit all rest sum reach → Suffices table r limit all found
  reaches_end rest sum reach found none low is h =
      let all_of_it : limit ≤ min limit (found + sum) = omega arith in
      h.from found (omega arith) (omega arith) (subst (λ js. Suffices table r limit js (min limit (found + sum))) (sym none) all_of_it)
