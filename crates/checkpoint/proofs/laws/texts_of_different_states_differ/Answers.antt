use Rattle.checkpoint.proofs.OneState.{texts_differ}
use Rattle.checkpoint.proofs.laws.texts_of_different_states_differ.Goals as goal

pub returns : goal.returns
returns c = λ g graph limits s u bytes reached_s reached_u text_s text_u. texts_differ g s u bytes graph limits reached_s reached_u text_s text_u
