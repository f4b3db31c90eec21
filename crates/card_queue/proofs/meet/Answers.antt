use Rattle.std.proofs.lemmas.List.{take-append-drop}
use Rattle.card_queue.proofs.meet.Goals as goal

pub returns-clause-met : goal.returns-clause-met
returns-clause-met c = rw take-append-drop (cc)
