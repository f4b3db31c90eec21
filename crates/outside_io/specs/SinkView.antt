-- What a sink shows to contracts, and what a call adds to it, for callers of `Sink`.
use Rattle.std.specs.Prelude.{◌≡◌, ℕ, ◌≤◌, List, [], ◌++◌, Result, OnOk, OnErr}
use Rattle.outside_io.specs.Faults.{Rose}

-- what a sink shows: all that was written, and how often a piece was refused
pub record SinkView : Type 0 where
  pub written : List ℕ
  pub faults : ℕ

-- nothing was written yet, and no piece refused
pub record IsBlank (v : SinkView) : Type 0 where
  pub nothing_written : v.written ≡ []
  pub no_fault : v.faults ≡ 0

-- these bytes were appended to what was written, or some prefix of them
abbrev pub Appends : List ℕ → List ℕ → List ℕ → Type 0
Appends old new bytes = new ≡ old ++ bytes

abbrev pub AppendsPrefix : List ℕ → List ℕ → List ℕ → Type 0
AppendsPrefix old new bytes = (prefix rest : List ℕ) × (bytes ≡ prefix ++ rest) × Appends old new prefix

-- the same of a sink
abbrev pub PutsAll : SinkView → SinkView → List ℕ → Type 0
PutsAll old new bytes = Appends old.written new.written bytes

abbrev pub PutsPrefix : SinkView → SinkView → List ℕ → Type 0
PutsPrefix old new bytes = AppendsPrefix old.written new.written bytes

-- a text was written to a sink: all of it, or a prefix of it where the sink failed, and then its count of faults rose
pub record WritesText {T E : Type 0} (old new : SinkView) (text : List ℕ) (result : Result T E) : Type 0 where
  pub written : OnOk result (PutsAll old new text)
  pub prefix : OnErr result (PutsPrefix old new text)
  pub cause : OnErr result (Rose old.faults new.faults)
  pub faults_stay_or_rise : old.faults ≤ new.faults
