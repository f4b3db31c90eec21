use Rattle.checkpoint.proofs.Lengths.{texts_fit}
use Rattle.checkpoint.proofs.laws.texts_of_few_arcs_fit.Goals as goal

pub returns : goal.returns
returns c = texts_fit
