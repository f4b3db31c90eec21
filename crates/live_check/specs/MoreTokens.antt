-- The law on graphs that differ in tokens alone.
-- Source: Baccelli, Cohen, Olsder, Quadrat, Synchronization and Linearity: dates do not get later with more tokens.
use Rattle.std.specs.Prelude.{◌≡◌, ℕ, ◌≤◌, ◌<◌, slice_index_or}
use Rattle.std.specs.List.{AllZip}
use Rattle.std.specs.List.Sorted.{IsNonDecreasing}
use Rattle.line_base.specs.declared.times.Times.TheVariants.{Fixed}
use Rattle.line_base.specs.declared.event.Arc.{Arc}
use Rattle.line_base.specs.declared.event.Parts.{Parts}
use Rattle.event_graph.specs.Network.{IsGraph, arc, arc_count, stations}
use Rattle.event_graph.specs.Live.{IsLive}
use Rattle.event_graph.specs.Varying.{IsList}
use Rattle.event_graph.specs.Table.{Table}
use Rattle.event_graph.specs.Least.{IsLeast, IsNowhereAbove}

-- the same arc, with at least as many tokens
pub record KeepsArc (few many : Arc) : Type 0 where
  pub from : many.from ≡ few.from
  pub to : many.to ≡ few.to
  pub worked : many.worked ≡ few.worked
  pub tokens : few.tokens ≤ many.tokens

-- the graphs are the same but for tokens, of which the second has at least as many on each arc
pub record HasMoreTokens (few many : Parts) : Type 0 where
  pub labels : many.labels ≡ few.labels
  pub times : many.times ≡ few.times
  pub dates : many.dates ≡ few.dates
  pub delays : many.delays ≡ few.delays
  pub arcs : AllZip KeepsArc few.arcs many.arcs

-- the station has an arc to itself with one token
pub record HasOwnToken (g : Parts) (t : ℕ) : Type 0 where
  pub own : ℕ
  pub exists : own < arc_count g
  pub from : (arc g own).from ≡ t
  pub to : (arc g own).to ≡ t
  pub one : (arc g own).tokens ≡ 1

-- each station with a list of times has an arc to itself with one token
abbrev pub ListsKeepOrder : Parts → Type 0
ListsKeepOrder g =
    (t : ℕ) → t < stations g → IsList (slice_index_or g.times t (Fixed 0)) → HasOwnToken g t

-- the second graph is live, and its least solution is nowhere above the first's
pub record IsNeverLater (few many : Parts) : Type 0 where
  pub live : IsLive many
  pub dates : (x y : Table) → IsLeast few x → IsLeast many y → IsNowhereAbove few y x

-- more tokens, never later: with more tokens a live graph stays live, and its least solution gets no later anywhere,
-- where demand dates do not decrease and one token keeps the jobs of each list of times in order
abbrev pub MoreTokensNeverLater : Type 0
MoreTokensNeverLater =
    (few many : Parts) → IsGraph few → IsNonDecreasing few.dates → ListsKeepOrder few → IsLive few →
    HasMoreTokens few many → IsNeverLater few many
