use Rattle.line_setup.proofs.StateRoom.{start_fits}
use Rattle.line_workers.proofs.line.Line.prepare_room.Goals as goal

pub of-line-requires-clause-fits : goal.of-line-requires-clause-fits
of-line-requires-clause-fits c =
    start_fits c.args.live.now.graph c.in_ok-state.state c.args.room c.in_ok-state.ensures.start c.requires.some_room c.requires.most_room
