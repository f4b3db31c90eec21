use Rattle.station_step.specs.Noted.{outlets_of, delays_of}
use Rattle.station_step.proofs.FilledOutlets.{AddedTo, only-puts, grows, each-got, none-puts, room-there}
use Rattle.station_step.proofs.outlets.put_all.Goals as goal
use Rattle.station_step.proofs.outlets.put_all.Goals.{After-add}

-- what came of the date on the shelf
added : (c : After-add) → AddedTo c.args.i c.args.date c.args.shelf.now.sources c.args.shelf.now.queues c.add.new.self.queues
added c = let e = c.add.ensures in record { count = e.count; added = e.added; others = e.others; taken = e.taken }

pub returns-clause-each : goal.returns-clause-each
returns-clause-each c k low =
    each-got c.args.i c.args.date (delays_of c.args.outlets.now.items) c.args.shelf.now c.add.new.self (outlets_of c.args.outlets.now.items) (outlets_of c.put_rings.new.outlets.items) (added (goal.at.returns-clause-each c).After-add) c.requires.come c.requires.within k low (c.put_rings.ensures.each k low)

pub returns-clause-only_puts : goal.returns-clause-only_puts
returns-clause-only_puts c =
    only-puts c.args.i c.args.date c.args.shelf.now.sources c.args.shelf.now.queues c.add.new.self.queues (added (goal.at.returns-clause-only_puts c).After-add)

pub returns-clause-grows : goal.returns-clause-grows
returns-clause-grows c =
    grows c.args.i c.args.date c.args.shelf.now.sources c.args.shelf.now.queues c.add.new.self.queues (added (goal.at.returns-clause-grows c).After-add)

pub returns-clause-others : goal.returns-clause-others
returns-clause-others c q none =
    none-puts c.args.i c.args.date (delays_of c.args.outlets.now.items) c.args.shelf.now c.add.new.self (outlets_of c.args.outlets.now.items) (added (goal.at.returns-clause-others c).After-add) c.requires.come q none

pub add-requires-clause-room : goal.add-requires-clause-room
add-requires-clause-room c q low e =
    room-there c.args.i (delays_of c.args.outlets.now.items) c.args.shelf.now (outlets_of c.args.outlets.now.items) c.requires.come c.requires.shelf_room q low e
