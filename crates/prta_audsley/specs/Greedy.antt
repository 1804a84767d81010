-- The greedy assignment of priorities, from the lowest place up, over any test of a task below a set of tasks.
use Rattle.std.specs.Prelude.{◌≡◌, ℕ, zero, suc, ◌<◌, Bool, true, false, not, nat_eq, List, [], ◌∷◌, ◌++◌, filter}
use Rattle.std.specs.List.{list_any, range_with_len}
use Rattle.prta_jobs.specs.Permutation.{is_order, is_above}

-- the tasks of a list as a set, the list without a task, and the set of the others
abbrev pub is_among : List ℕ → ℕ → Bool
is_among tasks i = list_any (λ other. nat_eq other i) tasks

abbrev pub without : ℕ → List ℕ → List ℕ
without task tasks = filter (λ i. not (nat_eq i task)) tasks

abbrev pub others : List ℕ → ℕ → ℕ → Bool
others tasks task = is_among (without task tasks)

-- what it ends with: an order from highest to lowest priority, or the unplaced tasks
pub data Outcome : Type 0 where
  Through : List ℕ → Outcome
  Stuck : List ℕ → Outcome

-- a task below the order of the rest
abbrev pub with_lowest : ℕ → Outcome → Outcome
with_lowest task (Through order) = Through (order ++ task ∷ [])
with_lowest task (Stuck unplaced) = Stuck unplaced

-- the first of some tasks gets the lowest free place, and `rest` places the others; without one the greedy is stuck
abbrev pub place_first : List ℕ → (ℕ → Outcome) → List ℕ → Outcome
place_first unplaced rest [] = Stuck unplaced
place_first unplaced rest (task ∷ tasks) = with_lowest task (rest task)

-- n unplaced tasks: the lowest free place gets the first of them that passes with all others of them above it
abbrev pub greedy : ((ℕ → Bool) → ℕ → Bool) → ℕ → List ℕ → Outcome
greedy passes zero unplaced = Through []
greedy passes (suc n) unplaced =
    place_first unplaced (λ task. greedy passes n (without task unplaced)) (filter (λ task. passes (others unplaced task) task) unplaced)

-- the greedy over n tasks
abbrev pub greedy_over : ((ℕ → Bool) → ℕ → Bool) → ℕ → Outcome
greedy_over passes n = greedy passes n (range_with_len 0 n)

-- ---- what it finds, whatever the test

-- one set of tasks is part of another
abbrev pub IsPartOf : (ℕ → Bool) → (ℕ → Bool) → Type 0
IsPartOf part set = (i : ℕ) → part i ≡ true → set i ≡ true

-- where one of n tasks passes below a set, it passes below each part of it
abbrev pub IsMonotone : ((ℕ → Bool) → ℕ → Bool) → ℕ → Type 0
IsMonotone passes n = (set part : ℕ → Bool) (task : ℕ) → task < n → IsPartOf part set → passes set task ≡ true → passes part task ≡ true

-- each of n tasks passes with exactly those before it in the order above it
abbrev pub EachPasses : ((ℕ → Bool) → ℕ → Bool) → ℕ → List ℕ → Type 0
EachPasses passes n order = (task : ℕ) → task < n → passes (is_above order task) task ≡ true

-- no order of n tasks does
abbrev pub NoOrder : ((ℕ → Bool) → ℕ → Bool) → ℕ → Type 0
NoOrder passes n = (order : List ℕ) → is_order n order ≡ true → EachPasses passes n order → ⊥

-- an order of n tasks that passes
pub record IsFound (passes : (ℕ → Bool) → ℕ → Bool) (n : ℕ) (order : List ℕ) : Type 0 where
  pub permutation : is_order n order ≡ true
  pub passing : EachPasses passes n order

-- some of n tasks, of which none passes with the others of them above it
pub record AreStuck (passes : (ℕ → Bool) → ℕ → Bool) (n : ℕ) (left : List ℕ) : Type 0 where
  pub first : ℕ
  pub some : is_among left first ≡ true
  pub listed : (i : ℕ) → is_among left i ≡ true → i < n
  pub none : (i : ℕ) → is_among left i ≡ true → passes (others left i) i ≡ false

-- under an order: one of these tasks, above which all the others of them stand
pub record IsBlocked (left order : List ℕ) (task : ℕ) : Type 0 where
  pub left_over : is_among left task ≡ true
  pub above : IsPartOf (others left task) (is_above order task)

pub record FindsOrder (passes : (ℕ → Bool) → ℕ → Bool) (n : ℕ) : Type 0 where
  -- where the greedy gets through, its order passes
  pub through : (order : List ℕ) → greedy_over passes n ≡ Through order → IsFound passes n order
  -- where it is stuck, none of the unplaced tasks passes below the others, and under each order these stand above one of them
  pub stuck : (left : List ℕ) → greedy_over passes n ≡ Stuck left → AreStuck passes n left
  pub blocked : (left order : List ℕ) → greedy_over passes n ≡ Stuck left → is_order n order ≡ true → (task : ℕ) × IsBlocked left order task
  -- so for a monotone test no order passes where it is stuck, and it gets through where some order passes
  pub none : IsMonotone passes n → (left : List ℕ) → greedy_over passes n ≡ Stuck left → NoOrder passes n
  pub complete : IsMonotone passes n → (order : List ℕ) → IsFound passes n order → (found : List ℕ) × (greedy_over passes n ≡ Through found)

abbrev pub GreedyFindsOrders : Type 0
GreedyFindsOrders = (passes : (ℕ → Bool) → ℕ → Bool) (n : ℕ) → FindsOrder passes n
