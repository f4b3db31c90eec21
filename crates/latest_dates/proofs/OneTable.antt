-- There is one table of latest dates.
use Rattle.std.proofs.Common.{◌≡◌, ℕ, ◌≤◌, sym, ◌∙◌, arith}
use Rattle.event_graph.specs.Network.{IsGraph}
use Rattle.live_check.specs.Order.{LiveGraph, IsUpward}
use Rattle.what_if.specs.Page.{IsDate, slot}
use Rattle.latest_dates.specs.Latest.{LatestTable, AreLatest}
use Rattle.latest_dates.proofs.FromLast.{OfReaders, from_last}
use Rattle.latest_dates.proofs.EarliestBounds.{earliest_bound-same}

module _ (l : LiveGraph) (up : IsUpward l.graph l.ranks) (graph : IsGraph l.graph) (may : ℕ) (y z : LatestTable) (latest : AreLatest l.graph may y) (other : AreLatest l.graph may z) where
  Same : ℕ → ℕ → Type 0
  Same t n = y t n ≡ z t n

  step : (t n : ℕ) → IsDate l.graph t n → 0 ≤ slot l t n → OfReaders l.graph Same t n → Same t n
  unfolding Same
  step t n date from readers =
      latest.each t n date ∙ earliest_bound-same l.graph may y z t n (λ a starts inside. readers a starts inside) ∙ sym (other.each t n date)

  pub same : (t n : ℕ) → IsDate l.graph t n → y t n ≡ z t n
  unfolding Same
  same t n date = from_last l up graph 0 Same step t n date (omega arith)
