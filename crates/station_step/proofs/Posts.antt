-- A station stands where it stood: its queues come from its log, whatever was taken and put since.
use Rattle.std.proofs.Common.{◌≡◌, ℕ, List, length, map, sym, ap, ◌∙◌, arith}
use Rattle.std.specs.Prelude.{slice_index}
use Rattle.event_graph.specs.Network.{delay, ins, outs}
use Rattle.station_step.specs.declared.ends.Outlet.{Outlet}
use Rattle.station_step.specs.declared.source.Source.{Source}
use Rattle.station_step.specs.Shelf.{WorkShelf, log_on, source_at}
use Rattle.station_step.specs.Ends.{bare_outlet}
use Rattle.station_step.specs.declared.input.Input.{Input}
use Rattle.station_step.specs.Input.{input_at}
use Rattle.station_step.specs.Station.{WorkStation, outlet_at, bare_input, ComeFrom, TakeLater, StandsAt}
use Rattle.station_step.proofs.OwnQueues.{inlet_queue-same, input-same, outlet_queue-same, outlet-same}

pub come-same : (i : ℕ) (delays delays' : List ℕ) (old new : WorkShelf) (before after : List Outlet) → delays' ≡ delays → new.sources ≡ old.sources → length new.queues ≡ length old.queues → length after ≡ length before → map bare_outlet after ≡ map bare_outlet before → ComeFrom i delays old before → ComeFrom i delays' new after
come-same i delays delays' old new before after noted sources count outlets same come =
    let which = λ (k : ℕ). outlet_queue-same (outlet_at before k) (outlet_at after k) (outlet-same before after k same) in
    record {
      own = λ k q low is.
          let from = come.own k q (omega (arith, low, outlets)) (sym (which k) ∙ is) in
          let at : ℕ → Source = λ d. record { station = i; delay = d } in
          ap (λ (l : List Source). source_at l q) sources
          ∙ from
          ∙ ap (λ (l : List ℕ). at (slice_index l k)) (sym noted);
      puts = λ q low e.
          let some = come.puts q (omega (arith, low, count)) (ap (λ (l : List Source). (source_at l q).station) (sym sources) ∙ e) in (
            some.0,
            (
              omega (arith, some.1.0, outlets),
              which some.0 ∙ some.1.1,
            ),
          );
    }

pub later-same : (delays delays' : List ℕ) (old new : WorkShelf) (before after : List Input) → delays' ≡ delays → new.sources ≡ old.sources → length after ≡ length before → map bare_input after ≡ map bare_input before → TakeLater delays old.sources before → TakeLater delays' new.sources after
later-same delays delays' old new before after noted sources count same later k q low is =
    ap (λ (l : List Source). (source_at l q).delay) sources
    ∙ later k q (omega (arith, low, count)) (sym (inlet_queue-same (input_at before k).inlet (input_at after k).inlet (input-same before after k same)) ∙ is)
    ∙ ap (λ (l : List ℕ). slice_index l k) (sym noted)

-- a station that is the same but for its tokens, where its log stands in place of the one that stood there
pub stands-same : (i : ℕ) (old new : WorkShelf) (s now : WorkStation) → length new.logs ≡ length old.logs → log_on new.logs i ≡ now.log → new.sources ≡ old.sources → length new.queues ≡ length old.queues → now.graph ≡ s.graph → now.number ≡ s.number → length now.inputs ≡ length s.inputs → map bare_input now.inputs ≡ map bare_input s.inputs → length now.outlets ≡ length s.outlets → map bare_outlet now.outlets ≡ map bare_outlet s.outlets → StandsAt i old s → StandsAt i new now
stands-same i old new s now logs log sources count graph number inputs same_inputs outlets same stands = record {
  there = omega (arith, stands.there, logs);
  log = log;
  come = come-same i (map (delay s.graph) (outs s.graph s.number)) (map (delay now.graph) (outs now.graph now.number)) old new s.outlets now.outlets
      (ap (λ g. map (delay g) (outs g now.number)) graph ∙ ap (λ n. map (delay s.graph) (outs s.graph n)) number)
      sources count outlets same stands.come;
  later = later-same (map (delay s.graph) (ins s.graph s.number)) (map (delay now.graph) (ins now.graph now.number)) old new s.inputs now.inputs
      (ap (λ g. map (delay g) (ins g now.number)) graph ∙ ap (λ n. map (delay s.graph) (ins s.graph n)) number)
      sources inputs same_inputs stands.later;
}
