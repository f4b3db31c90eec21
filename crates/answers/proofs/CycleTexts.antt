-- The text of a certificate: a list that is turned round to its least number, and the parts one after the other.
use Rattle.std.proofs.Common.{◌≡◌, ℕ, List, ◌++◌, refl, ap, ◌∙◌, append_assoc}
use Rattle.std.specs.Prelude.{OnOk, Result, Ok, Err, codes}
use Rattle.std.specs.List.{flat_map}
use Rattle.line_base.specs.declared.event.Parts.{Parts}
use Rattle.event_graph.specs.Circuit.{starting_stations, tokens_on, time_along}
use Rattle.line_graph.specs.Turned.{IsTurned}
use Rattle.cycle_time.specs.declared.certificate.Certificate.{Certificate}
use Rattle.answers.specs.CycleText.{spaced_label, AreStationsAdded, IsCircuitText, IsCycleText, ratio_line, sums_words, circuit_line, potential_lines}

-- a text after which three others were added, one after the other
three_added : (start word middle end : List ℕ) → ((start ++ word) ++ middle) ++ end ≡ start ++ (word ++ (middle ++ end))
three_added start word middle end = append_assoc (start ++ word) middle end ∙ append_assoc start word (middle ++ end)

-- the line of a circuit: its word, its stations, and its sums
pub circuit_added : (g : Parts) (arcs start worded along end : List ℕ) (time cards : ℕ) → worded ≡ start ++ codes "circuit" → AreStationsAdded g arcs worded along → end ≡ along ++ sums_words time cards → time ≡ time_along g arcs → cards ≡ tokens_on g arcs → IsCircuitText g arcs start end
circuit_added g arcs start worded along end time cards word added sums time_is cards_is =
    let labels = flat_map (spaced_label g) added.stations in
    let same : sums_words time cards ≡ sums_words (time_along g arcs) (tokens_on g arcs) = rw (time_is, cards_is) refl in
    record {
      stations = added.stations;
      turned = added.turned;
      text =
          sums
          ∙ ap (λ v. v ++ sums_words time cards) (added.text ∙ ap (λ v. v ++ labels) word)
          ∙ three_added start (codes "circuit") labels (sums_words time cards)
          ∙ ap (λ v. start ++ (codes "circuit" ++ (labels ++ v))) same;
    }

-- the text of a certificate: the ratio, the circuit, and the potentials
pub cycle_added : (g : Parts) (c : Certificate) (ratio circled end : List ℕ) → ratio ≡ ratio_line c.time c.cards → IsCircuitText g c.circuit ratio circled → end ≡ circled ++ potential_lines g c.potentials → IsCycleText g c end
cycle_added g c ratio circled end ratio_is circuit potentials =
    let line = circuit_line g c.circuit circuit.stations in
    let rest = potential_lines g c.potentials in
    record {
      stations = circuit.stations;
      turned = circuit.turned;
      text_is =
          potentials
          ∙ ap (λ v. v ++ rest) circuit.text
          ∙ append_assoc ratio line rest
          ∙ ap (λ v. v ++ (line ++ rest)) ratio_is;
    }

-- stations that were added, where that went well
pub stations_added : {E : Type 0} (g : Parts) (arcs stations before after : List ℕ) (r : Result (Unit {0}) E) → IsTurned (starting_stations g arcs) stations → OnOk r (after ≡ before ++ flat_map (spaced_label g) stations) → OnOk r (AreStationsAdded g arcs before after)
stations_added g arcs stations before after (Ok done) turned added = record { stations = stations; turned = turned; text = added }
stations_added g arcs stations before after (Err error) turned added = tt
