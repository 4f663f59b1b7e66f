use Rattle.std.specs.Prelude.{ℕ, ◌≡◌, ◌-◌, ◌<◌, ◌⊎◌, min, List, ◌++◌, length, take, Contains, Result, Ok, Err}
use Rattle.mbqi_edge.specs.Faults.{counted}

-- What a sink in memory holds: the bytes taken, how many it takes in all and in a call, the numbers of the
-- calls that fail, the number of the next call, and the count of faults (this project's own).
pub record SinkState : Type 0 where
  pub taken : List ℕ
  pub capacity : ℕ
  pub most : ℕ
  pub failing : List ℕ
  pub calls : ℕ
  pub faults : ℕ

-- How many bytes of a piece the next call may take.
abbrev pub room_of : SinkState → List ℕ → ℕ
room_of sink piece = min (min sink.most (sink.capacity - length sink.taken)) (length piece)

-- The next call fails: its number is listed, or the sink is full and there is something to take.
abbrev pub FailsAt : SinkState → List ℕ → Type 0
FailsAt sink piece =
    Contains sink.failing sink.calls ⊎ ((0 < length piece) × (length sink.taken ≡ sink.capacity))

-- The sink after a call: the call is counted, and so is a fault.
abbrev pub sink_after : {E : Type 0} → Result ℕ E → SinkState → List ℕ → SinkState
sink_after (Ok n) sink piece =
    record sink { taken = sink.taken ++ take n piece; calls = counted sink.calls }
sink_after (Err e) sink piece =
    record sink { calls = counted sink.calls; faults = counted sink.faults }
