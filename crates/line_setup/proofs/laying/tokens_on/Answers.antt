use Rattle.line_setup.proofs.StateRoom.{few_tokens}
use Rattle.line_setup.proofs.laying.tokens_on.Goals as goal

pub returns-clause-few : goal.returns-clause-few
returns-clause-few c =
    few_tokens c.args.live.now.graph c.args.state.now c.args.a c.requires.made_for c.place.ensures.reached c.requires.arc
