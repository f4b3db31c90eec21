-- What a sink and the buffer before it did with the bytes that they got, for callers of `Outgoing`.
use Rattle.std.specs.Prelude.{◌≡◌, ℕ, ◌≤◌, List, [], ◌++◌, Bool, true, false, codes, decimal}
use Rattle.outside_io.specs.Faults.{Rose}
use Rattle.outside_io.specs.SinkView.{SinkView, PutsAll}

-- the bytes that wait for the sink, and whether it has failed
pub record Pending : Type 0 where
  pub bytes : List ℕ
  pub failed : Bool

-- a sink and the bytes that wait for it
pub record Stream : Type 0 where
  pub sink : SinkView
  pub pending : List ℕ
  pub failed : Bool

-- a sink with a buffer before it
abbrev pub stream : SinkView → Pending → Stream
stream sink out = record { sink = sink; pending = out.bytes; failed = out.failed }

-- these bytes wait, and the sink has failed or not
abbrev pub waiting : List ℕ → Bool → Pending
waiting bytes failed = record { bytes = bytes; failed = failed }

-- nothing waits, and the sink has failed or not
abbrev pub nothing_waiting : Bool → Pending
nothing_waiting failed = waiting [] failed

-- the end of a line: two numbers in decimal, each after a space, and a line feed
abbrev pub last_two_numbers : ℕ → ℕ → List ℕ
last_two_numbers first second =
    codes " " ++ (decimal first ++ (codes " " ++ (decimal second ++ codes "\n")))

-- Bytes were given to a stream. A prefix of what waited and of them was sent, and the rest waits,
-- until the sink fails; from then on nothing more is sent.
pub record Pushed (old new : Stream) (bytes : List ℕ) : Type 0 where
  pub sent : List ℕ
  pub rest : List ℕ
  pub split : old.failed ≡ false → old.pending ++ bytes ≡ sent ++ rest
  pub puts : PutsAll old.sink new.sink sent
  pub waits : new.failed ≡ false → new.pending ≡ rest
  pub cause : old.failed ≡ false → new.failed ≡ true → Rose old.sink.faults new.sink.faults
  pub latched : old.failed ≡ true → (new.failed ≡ true) × (sent ≡ [])
  pub faults_stay_or_rise : old.sink.faults ≤ new.sink.faults
