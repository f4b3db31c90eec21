use Rattle.checkpoint.proofs.OneState.{finds}
use Rattle.checkpoint.proofs.read.read_state.Goals as goal

pub returns-clause-found : goal.returns-clause-found
returns-clause-found c s reached text =
    let said = c.read_bytes.ensures in
    finds c.args.live.now.graph c.args.bytes.now c.graph.ensures.ranked.limits c.requires s reached text c.read_bytes.result said.made_for said.text said.reached said.refused
