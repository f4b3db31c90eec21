use Rattle.std.proofs.Common.{◌≡◌, ℕ, ◌+◌, ◌-◌, ◌<◌, ap, ◌∙◌, subst, sym, refl, List, length, arith}
use Rattle.std.proofs.lemmas.List.{length_push, get_or_default}
use Rattle.std.proofs.lemmas.Result.{err_from_is_err_and}
use Rattle.line_base.specs.Roomy.{RoomyLog}
use Rattle.event_graph.specs.State.{log}
use Rattle.station_step.specs.Shelf.{log_on}
use Rattle.line_worker.specs.Team.{member}
use Rattle.station_step.specs.Station.{WorkStation}
use Rattle.line_setup.specs.Making.{QueueEnds, AreNewStations}
use Rattle.line_setup.proofs.MadeStations.{no_stations, one_more_made, one_more_with_log, same-without}
use Rattle.line_setup.proofs.making.new_stations.Goals as goal
use Rattle.line_setup.proofs.making.new_stations.Goals.{After-index-copy}

-- the log of the station whose turn it is
there : (c : After-index-copy) → c.loop-t.t - c.args.first < length c.args.logs.now.items
there c = omega (arith, c.loop-t-test.true, c.requires.count, c.loop-t.invariant.count)

copy_is : (c : After-index-copy) → c.index-copy.result.now ≡ log_on c.args.logs.now.items (c.loop-t.t - c.args.first)
copy_is c = c.index-copy.ensures ∙ get_or_default c.args.logs.now.items (c.loop-t.t - c.args.first) _ _ (there c)

at_is : (c : After-index-copy) → c.args.first + (c.loop-t.t - c.args.first) ≡ c.loop-t.t
at_is c = omega (arith, c.loop-t.invariant.count)

pub new_station-requires-clause-dates : goal.new_station-requires-clause-dates
new_station-requires-clause-dates c =
    let from = (goal.at.new_station-requires-clause-dates c).After-index-copy in
    ap (λ (l : RoomyLog). l.dates) (copy_is from) ∙ c.requires.logs.dates (c.loop-t.t - c.args.first) (there from) ∙ ap (log c.args.state.now.state) (at_is from)

pub new_station-requires-clause-few : goal.new_station-requires-clause-few
new_station-requires-clause-few c =
    let from = (goal.at.new_station-requires-clause-few c).After-index-copy in
    omega (arith, ap (λ (l : RoomyLog). length l.dates) (copy_is from), c.requires.logs.few (c.loop-t.t - c.args.first) (there from))

pub new_station-requires-clause-room : goal.new_station-requires-clause-room
new_station-requires-clause-room c =
    let from = (goal.at.new_station-requires-clause-room c).After-index-copy in
    ap (λ (l : RoomyLog). l.room) (copy_is from) ∙ c.requires.logs.room (c.loop-t.t - c.args.first) (there from)

pub loop-t-preserved : goal.loop-t-preserved
loop-t-preserved c =
    let g = c.args.live.now.graph in
    let begun = c.args.state.now.state in
    let before = c.loop-t.invariant in
    let pushed = c.push_reserved.ensures.items in
    let low = there (goal.at.loop-t-preserved c).After-index-copy in
    let at : c.index-copy.result.now ≡ log_on c.args.logs.now.items (c.loop-t.t - c.args.first) = c.index-copy.ensures ∙ get_or_default c.args.logs.now.items (c.loop-t.t - c.args.first) _ _ low in
    record {
      count = omega (arith, before.count, ap length pushed, length_push c.loop-t.made.items c.in_ok-station.station);
      made =
          subst (λ (l : List WorkStation). AreNewStations g begun c.args.first c.args.ends.now l) (sym pushed) (
          one_more_made g begun c.args.first c.loop-t.t c.args.ends.now c.loop-t.ends c.loop-t.made.items c.in_ok-station.station before.rest before.count before.made c.in_ok-station.ensures.station);
      rest = same-without c.loop-t.t c.args.ends.now c.loop-t.ends c.new_station.new.ends before.rest c.in_ok-station.ensures.rest;
      logs = subst (λ (l : List WorkStation). (i : ℕ) → i < length l → (member l i).log ≡ log_on c.args.logs.now.items i) (sym pushed) (
          one_more_with_log c.args.first c.loop-t.t c.args.logs.now.items c.loop-t.made.items c.in_ok-station.station c.index-copy.result.now before.count at c.in_ok-station.ensures.log before.logs);
      shelves = ap (λ (e : QueueEnds). e.shelves) c.in_ok-station.ensures.rest ∙ before.shelves;
      arcs = ap (λ (e : QueueEnds). e.arcs) c.in_ok-station.ensures.rest ∙ before.arcs;
      room = omega (arith, before.room, c.push_reserved.ensures.capacity);
    }

pub loop-t-init : goal.loop-t-init
loop-t-init c =
    let none = c.in_ok-made.ensures.items in
    record {
      count = omega (arith, ap length none);
      made = no_stations c.args.live.now.graph c.args.state.now.state c.args.first c.args.ends.now c.in_ok-made.made.items none;
      logs = λ i low. absurd (omega (arith, low, ap length none));
      rest = record { outlet_lists = refl; inlet_lists = refl; outlets = λ u low. refl; inlets = λ u low. refl };
      shelves = refl;
      arcs = refl;
      room = omega (arith, c.in_ok-made.ensures.capacity, c.len.ensures, c.args.logs.now.ok.0, c.requires.count);
    }

pub push_reserved-requires : goal.push_reserved-requires
push_reserved-requires c =
    omega (arith, c.loop-t.made.ok.0, c.loop-t.invariant.count, c.loop-t.invariant.room, c.loop-t-test.true)

pub returns-in_err-made : goal.returns-in_err-made
returns-in_err-made c = rw (err_from_is_err_and c.from_residual.result c.from_residual.ensures.1).1 (record { count = tt; made = tt; logs = tt; rest = tt; shelves = tt; arcs = tt })

pub returns-in_err-station : goal.returns-in_err-station
returns-in_err-station c = rw (err_from_is_err_and c.from_residual-in_err-station.result c.from_residual-in_err-station.ensures.1).1 (record { count = tt; made = tt; logs = tt; rest = tt; shelves = tt; arcs = tt })
