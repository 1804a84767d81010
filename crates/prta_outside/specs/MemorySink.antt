-- A sink over memory: what it is, and what a put takes.
use Rattle.std.specs.Prelude.{ℕ, ◌-◌, Option, Some, None, ◌||◌, nat_le, if◌then◌else◌, min, List, [], ◌++◌, take, length}
use Rattle.prta_outside.specs.Sink.{raised}
use Rattle.prta_outside.specs.Calls.{CallState, refuses_next, counted}

-- the bytes taken, how many there may be in all and in one put, the puts, and the count of those that failed
pub record SinkState : Type 0 where
  pub taken : List ℕ
  pub room : ℕ
  pub most : ℕ
  pub puts : CallState
  pub faults : ℕ

-- a sink of this room, before the first put
abbrev pub empty_sink : ℕ → ℕ → SinkState
empty_sink room most = record { taken = []; room = room; most = most; puts = record { made = 0; refused = [] }; faults = 0 }

-- how many bytes of a piece a put takes; none where it fails
abbrev pub put_takes : SinkState → List ℕ → Option ℕ
put_takes sink piece =
    if refuses_next sink.puts || nat_le sink.room (length sink.taken) then None
    else Some (min (min (length piece) sink.most) (sink.room - length sink.taken))

-- the sink after a put that took so many bytes of the piece, or failed
abbrev pub after_put : SinkState → List ℕ → Option ℕ → SinkState
after_put sink piece None = record sink { puts = counted sink.puts; faults = raised sink.faults }
after_put sink piece (Some n) = record sink { puts = counted sink.puts; taken = sink.taken ++ take n piece }
