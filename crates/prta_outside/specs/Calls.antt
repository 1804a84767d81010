-- The calls of a shelf or a sink over memory, some of which are to fail.
use Rattle.std.specs.Prelude.{ℕ, Bool, nat_eq, List}
use Rattle.std.specs.List.{list_any}
use Rattle.prta_outside.specs.Sink.{raised}

-- the number of calls so far, and the numbers, from 1 on, of the calls that are to fail
pub record CallState : Type 0 where
  pub made : ℕ
  pub refused : List ℕ

-- the number of the next call is on the list
abbrev pub refuses_next : CallState → Bool
refuses_next calls = list_any (λ number. nat_eq number (raised calls.made)) calls.refused

-- the calls after one more
abbrev pub counted : CallState → CallState
counted calls = record calls { made = raised calls.made }
