-- What `cycle` writes of a certificate: `cycle TIME/CARDS`, `circuit LABEL .. time W cards M`, and `potential LABEL V`
-- for each station.
use Rattle.std.specs.Prelude.{◌≡◌, ℕ, ℤ, pos, List, ◌++◌, length, slice_index_or, codes, decimal}
use Rattle.std.specs.Fmt.{signed_decimal}
use Rattle.std.specs.List.{flat_map, range_with_len}
use Rattle.line_base.specs.declared.event.Parts.{Parts}
use Rattle.event_graph.specs.Network.{stations, label}
use Rattle.event_graph.specs.Circuit.{starting_stations, tokens_on, time_along}
use Rattle.line_graph.specs.Turned.{IsTurned}
use Rattle.command_line.specs.Lines.{after_space}
use Rattle.cycle_time.specs.declared.certificate.Certificate.{Certificate}

-- the ratio
abbrev pub ratio_line : ℕ → ℕ → List ℕ
ratio_line time cards = codes "cycle " ++ (decimal time ++ (codes "/" ++ (decimal cards ++ codes "\n")))

-- the label of station t with a space before it
abbrev pub spaced_label : Parts → ℕ → List ℕ
spaced_label g t = after_space (label g t)

-- the labels of the stations along a circuit, from the one with the least number on, stand behind what was there
pub record AreStationsAdded (g : Parts) (arcs before after : List ℕ) : Type 0 where
  pub stations : List ℕ
  pub turned : IsTurned (starting_stations g arcs) stations
  pub text : after ≡ before ++ flat_map (spaced_label g) stations

-- the time and the tokens of a circuit
abbrev pub sums_words : ℕ → ℕ → List ℕ
sums_words time cards = codes " time " ++ (decimal time ++ (codes " cards " ++ (decimal cards ++ codes "\n")))

-- the line of a circuit whose stations stand in this order
abbrev pub circuit_line : Parts → List ℕ → List ℕ → List ℕ
circuit_line g arcs turned =
    codes "circuit" ++ (flat_map (spaced_label g) turned ++ sums_words (time_along g arcs) (tokens_on g arcs))

-- the line of a circuit stands behind what was there
pub record IsCircuitText (g : Parts) (arcs before after : List ℕ) : Type 0 where
  pub stations : List ℕ
  pub turned : IsTurned (starting_stations g arcs) stations
  pub text : after ≡ before ++ circuit_line g arcs stations

-- there is a potential for each station
abbrev pub HaveOneEach : Parts → List ℤ → Type 0
HaveOneEach g potentials = length potentials ≡ stations g

-- the potential of a station with this label, and of station t
abbrev pub potential_words : List ℕ → ℤ → List ℕ
potential_words label potential =
    codes "potential " ++ (label ++ (codes " " ++ (signed_decimal potential ++ codes "\n")))

abbrev pub potential_line : Parts → List ℤ → ℕ → List ℕ
potential_line g potentials t = potential_words (label g t) (slice_index_or potentials t (pos 0))

-- the lines of all potentials
abbrev pub potential_lines : Parts → List ℤ → List ℕ
potential_lines g potentials = flat_map (potential_line g potentials) (range_with_len 0 (stations g))

-- the text of a certificate whose circuit's stations stand in this order
abbrev pub cycle_text : Parts → Certificate → List ℕ → List ℕ
cycle_text g c turned =
    ratio_line c.time c.cards ++ (circuit_line g c.circuit turned ++ potential_lines g c.potentials)

-- the text of a certificate, with the stations of its circuit from the one with the least number on
pub record IsCycleText (g : Parts) (c : Certificate) (text : List ℕ) : Type 0 where
  pub stations : List ℕ
  pub turned : IsTurned (starting_stations g c.circuit) stations
  pub text_is : text ≡ cycle_text g c stations
