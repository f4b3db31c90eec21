-- Source: Baccelli, Cohen, Olsder, Quadrat, Synchronization and Linearity, markings of event graphs.
use Rattle.std.specs.Prelude.{ℕ, List, [], map, length, replicate, slice_index_or, sum_by}
use Rattle.line_base.specs.declared.event.Parts.{Parts}
use Rattle.event_graph.specs.Network.{stations}

-- a list of dates for each station, its log, and one for each arc, its place, from front to back
pub record State : Type 0 where
  pub logs : List (List ℕ)
  pub places : List (List ℕ)

-- the log of station t
abbrev pub log : State → ℕ → List ℕ
log s t = slice_index_or s.logs t []

-- the place of arc a
abbrev pub place : State → ℕ → List ℕ
place s a = slice_index_or s.places a []

-- how many tokens a state has on the arcs
abbrev pub tokens_in : State → List ℕ → ℕ
tokens_in s arcs = sum_by (λ a. length (place s a)) arcs

-- empty logs, and on each arc as many tokens of date 0 as it has at the start
unfoldable pub start : Parts → State
start g = record {
  logs = replicate (stations g) [];
  places = map (λ arc. replicate arc.tokens 0) g.arcs;
}
