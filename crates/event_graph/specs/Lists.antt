-- The lists of arcs that a graph keeps for each station, for the functions that make and hold them.
use Rattle.std.specs.Prelude.{◌≡◌, ℕ, List, [], ◌∷◌, ◌++◌, map, slice_index_or, slice_set}
use Rattle.std.specs.List.{range_with_len}
use Rattle.line_base.specs.declared.event.Arc.{Arc}
use Rattle.line_base.specs.declared.event.Parts.{Parts}
use Rattle.event_graph.specs.declared.lists.End.{End}
use Rattle.event_graph.specs.declared.lists.End.TheVariants.{Start, Finish}
use Rattle.event_graph.specs.Network.{IsGraph, stations, ins, outs}
use Rattle.event_graph.specs.Limits.{IsWithinLimits}

-- the station at this end of an arc
abbrev pub station_at : End → Arc → ℕ
station_at Start arc = arc.from
station_at Finish arc = arc.to

-- the lists with one more arc at the end of a station's
abbrev pub with_arc : List (List ℕ) → ℕ → ℕ → List (List ℕ)
with_arc lists station arc =
    slice_set lists station (slice_index_or lists station [] ++ arc ∷ [])

-- the arcs that have this end at station t
abbrev pub arcs_at : End → Parts → ℕ → List ℕ
arcs_at Start g t = outs g t
arcs_at Finish g t = ins g t

-- for each station the arcs that have this end there
abbrev pub lists_at : End → Parts → List (List ℕ)
lists_at end g = map (arcs_at end g) (range_with_len 0 (stations g))

-- a graph within the limits, with the arcs into and out of each station
pub record IsListed (g : Parts) (into out_of : List (List ℕ)) : Type 0 where
  pub graph : IsGraph g
  pub limits : IsWithinLimits g
  pub into_are : into ≡ lists_at Finish g
  pub out_of_are : out_of ≡ lists_at Start g
