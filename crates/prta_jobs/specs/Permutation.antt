-- Orders of priorities: permutations of a sheet's tasks, from highest to lowest priority.
use Rattle.std.specs.Prelude.{◌≡◌, ℕ, ◌≤◌, Bool, true, ◌&&◌, nat_eq, nat_lt, List, length, count_by}
use Rattle.std.specs.List.{list_all, range_with_len}
use Rattle.prta_sheet.specs.declared.limits.TheConstants.{TASK_LIMIT}
use Rattle.prta_sheet.specs.Machine.{place}

-- a task stands in a list just once
abbrev pub stands_once : List ℕ → ℕ → Bool
stands_once list task = nat_eq (count_by (λ other. nat_eq other task) list) 1

-- each of n tasks stands in the list once, and nothing else does
abbrev pub is_order : ℕ → List ℕ → Bool
is_order n list =
    nat_eq (length list) n
    && (list_all (λ task. nat_lt task n) list
    && list_all (stands_once list) (range_with_len 0 n))

-- what holds of every order that is made
pub record IsOrder (order : List ℕ) : Type 0 where
  pub few : length order ≤ TASK_LIMIT
  pub permutation : is_order (length order) order ≡ true

-- task i stands before the task
abbrev pub is_above : List ℕ → ℕ → ℕ → Bool
is_above order task i = nat_lt (place order i) (place order task)
