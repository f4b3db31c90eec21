use Rattle.commands.proofs.asks.ask_alone.Goals as goal

pub returns-in-Big-clause-answers : goal.returns-in-Big-clause-answers
returns-in-Big-clause-answers g c = rw c.in-Big.is c.big.ensures
