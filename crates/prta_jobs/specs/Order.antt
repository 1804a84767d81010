-- What is answered for a list of numbers that is to be an order.
use Rattle.std.specs.Prelude.{◌≡◌, ℕ, true, false, Result, Ok, Err, List}
use Rattle.prta_jobs.specs.declared.order.OrderFault.{OrderFault}
use Rattle.prta_jobs.specs.declared.order.OrderFault.TheVariants.{NotPermutation, NoMemory}
use Rattle.prta_jobs.specs.Permutation.{is_order}

-- on a sheet of n tasks: the order that it is, or that it is none; memory is wanted only where it is one
abbrev pub IsOrderAnswer : ℕ → List ℕ → Result (List ℕ) OrderFault → Type 0
IsOrderAnswer n list (Ok order) = (is_order n list ≡ true) × (order ≡ list)
IsOrderAnswer n list (Err NotPermutation) = is_order n list ≡ false
IsOrderAnswer n list (Err NoMemory) = is_order n list ≡ true
