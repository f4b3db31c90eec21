-- A live graph has a least solution: the logs of a finished state.
use Rattle.std.proofs.Common.{◌≤◌, inl, inr, arith}
use Rattle.std.proofs.lemmas.Bool.{cases_lt}
use Rattle.line_base.specs.declared.event.Parts.{Parts}
use Rattle.event_graph.specs.Network.{stations, demand, IsGraph}
use Rattle.event_graph.specs.Live.{IsLive}
use Rattle.event_graph.specs.Table.{Table, date_in}
use Rattle.event_graph.specs.Least.{IsLeast}
use Rattle.event_graph.proofs.GreatestTerms.{greatest_of_terms}
use Rattle.live_check.proofs.LiveOrder.{has_order}
use Rattle.line_core.specs.Laws.{HasLeast}
use Rattle.line_core.proofs.Progress.{some_is_finished}
use Rattle.line_core.proofs.Solution.{finished_is_least}

-- of a graph without stations any table with the demand dates is one
no_station_least : (g : Parts) → IsGraph g → stations g ≤ 0 → IsLeast g (λ t n. demand g n)
no_station_least g graph none = record {
  solves = record {
    feed = λ n one within. omega arith;
    others = λ a n known one within. absurd (omega (arith, graph.starts_exist a known));
  };
  least = λ y solves t n there one within. absurd (omega arith);
}

pub has_least : (g : Parts) → IsGraph g → IsLive g → HasLeast g
has_least g graph live =
    elim (cases_lt 0 (stations g)) [
      | inl some ↦
          let order = has_order g graph live in
          let end = some_is_finished g order.0 graph order.1.upward in
          let x : Table = date_in end.0.logs in
          let least = finished_is_least g end.0 some graph end.1 end.2 in
          (x, least, greatest_of_terms g x graph least)
      | inr none ↦
          let x : Table = λ t n. demand g n in
          let least = no_station_least g graph none in
          (x, least, greatest_of_terms g x graph least)
    ]
