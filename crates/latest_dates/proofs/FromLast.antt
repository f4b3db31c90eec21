-- Induction from the last date to the first: what holds of a date where it holds of those that read it holds of all.
use Rattle.std.proofs.Common.{ℕ, zero, suc, ◌+◌, ◌<◌, ◌≤◌, subst, arith}
use Rattle.line_base.specs.declared.event.Parts.{Parts}
use Rattle.event_graph.specs.Network.{jobs, arc, IsGraph, StartsAt}
use Rattle.live_check.specs.Order.{LiveGraph, IsUpward}
use Rattle.what_if.specs.Page.{IsDate, slot}
use Rattle.what_if.specs.Sheet.{date_count}
use Rattle.what_if.proofs.SlotOrder.{slot-below, slot-reader}

-- the date that reads a date through arc a is there
pub reader : (g : Parts) (t n a : ℕ) → IsGraph g → IsDate g t n → StartsAt g t a → n + (arc g a).tokens ≤ jobs g → IsDate g (arc g a).to (n + (arc g a).tokens)
reader g t n a graph date starts inside = record {
  station = graph.ends_exist a starts.0;
  from_one = omega (arith, date.from_one);
  job = inside;
}

-- what holds of each date that reads one
abbrev pub OfReaders : Parts → (ℕ → ℕ → Type 0) → ℕ → ℕ → Type 0
OfReaders g P t n =
    (a : ℕ) → StartsAt g t a → n + (arc g a).tokens ≤ jobs g → P (arc g a).to (n + (arc g a).tokens)

module _ (l : LiveGraph) (up : IsUpward l.graph l.ranks) (graph : IsGraph l.graph) where
  -- it comes later
  pub reads-later : (t n a : ℕ) → IsDate l.graph t n → StartsAt l.graph t a → slot l t n < slot l (arc l.graph a).to (n + (arc l.graph a).tokens)
  reads-later t n a date starts =
      subst (λ u. slot l u n < slot l (arc l.graph a).to (n + (arc l.graph a).tokens)) starts.1 (slot-reader l up graph a n starts.0 date.from_one)

  module _ (at : ℕ) (P : ℕ → ℕ → Type 0) (step : (t n : ℕ) → IsDate l.graph t n → at ≤ slot l t n → OfReaders l.graph P t n → P t n) where
    go : (left t n : ℕ) → IsDate l.graph t n → at ≤ slot l t n → date_count l.graph ≤ slot l t n + left → P t n
    go zero t n date from enough = absurd (omega (arith, slot-below l up t n date))
    go (suc left) t n date from enough =
        step t n date from (λ a starts inside. let more = reads-later t n a date starts in go left (arc l.graph a).to (n + (arc l.graph a).tokens) (reader l.graph t n a graph date starts inside) (omega arith) (omega arith))

    -- of each date from a slot on
    pub from_last : (t n : ℕ) → IsDate l.graph t n → at ≤ slot l t n → P t n
    from_last t n date from = go (date_count l.graph) t n date from (omega arith)
