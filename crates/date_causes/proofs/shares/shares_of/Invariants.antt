use Rattle.std.proofs.Common.{◌≡◌, ℕ, ◌<◌, length, get_or, take}
use Rattle.date_causes.specs.Shares.{share}
use Rattle.date_causes.proofs.shares.shares_of.Given as goal

-- the shares of the links before
abbrev pub invariant-loop-link : goal.invariant-loop-link
invariant-loop-link l = record {
  long : length l.shares.items ≡ l.stations;
  each : (t : ℕ) → t < l.stations → get_or l.shares.items t 0 ≡ share (take l.link-index l.links) t;
}
