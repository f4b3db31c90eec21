use Rattle.std.proofs.Common.{◌≡◌, ap, arith}
use Rattle.std.proofs.lemmas.Result.{IfOk-weaker}
use Rattle.station_step.specs.Station.{WorkStation, new_station}
use Rattle.line_setup.proofs.MadeStations.{CanMake, can_make_read, new_station-is}
use Rattle.line_setup.proofs.making.new_station.Goals as goal
use Rattle.line_setup.proofs.making.new_station.Goals.{After-take_station-outlets}

-- a station can be made of the ends that were taken
can_make : (c : After-take_station-outlets) → CanMake c.args.live.now.graph c.args.t c.take_station-outlets.result.0.items c.take_station-outlets.result.1.items c.args.copy.now.dates
can_make c =
    let taken = c.take_station-outlets.ensures in
    can_make_read c.args.live.now.graph c.args.state.now.state c.args.t c.args.ends.now c.take_station-outlets.result.0.items c.take_station-outlets.result.1.items c.args.copy.now.dates c.requires.dates taken.outlets taken.inlets (c.requires.fit.each c.args.t (omega arith) c.requires.station)

pub new-requires-clause-an_inlet_each : goal.new-requires-clause-an_inlet_each
new-requires-clause-an_inlet_each c = (can_make c).an_inlet_each

pub new-requires-clause-an_outlet_each : goal.new-requires-clause-an_outlet_each
new-requires-clause-an_outlet_each c = (can_make c).an_outlet_each

pub new-requires-clause-untaken : goal.new-requires-clause-untaken
new-requires-clause-untaken c = (can_make c).untaken

pub new-requires-clause-unfilled : goal.new-requires-clause-unfilled
new-requires-clause-unfilled c = (can_make c).unfilled

pub new-requires-clause-ring_room : goal.new-requires-clause-ring_room
new-requires-clause-ring_room c = (can_make c).ring_room

pub returns-clause-station : goal.returns-clause-station
returns-clause-station c =
    let taken = c.take_station-outlets.ensures in
    let made = c.new.ensures in
    new_station-is c.args.live.now.graph c.args.state.now.state c.args.t c.args.ends.now c.take_station-outlets.result.0.items c.take_station-outlets.result.1.items c.args.copy.now c.new.result taken.outlets taken.inlets c.requires.dates made.made made.station made.kept

pub returns-clause-log : goal.returns-clause-log
returns-clause-log c =
    let made = new_station c.args.live.now.graph c.args.t c.take_station-outlets.result.1.items c.take_station-outlets.result.0.items c.args.copy.now in
    IfOk-weaker c.new.result (λ s. s ≡ made) (λ s. s.log ≡ c.args.copy.now) (λ s is. ap (λ (m : WorkStation). m.log) is) c.new.ensures.made
