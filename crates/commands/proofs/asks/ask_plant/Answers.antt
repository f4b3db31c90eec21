use Rattle.commands.proofs.asks.ask_plant.Goals as goal

pub returns-in-Run-clause-answers : goal.returns-in-Run-clause-answers
returns-in-Run-clause-answers g c = rw c.in-Run.is c.run_whole.ensures

pub returns-in-RunRoom-clause-answers : goal.returns-in-RunRoom-clause-answers
returns-in-RunRoom-clause-answers g c = rw c.in-RunRoom.is c.run_whole-in-RunRoom.ensures

pub returns-in-Summary-clause-answers : goal.returns-in-Summary-clause-answers
returns-in-Summary-clause-answers g c = rw c.in-Summary.is c.summary.ensures

pub returns-in-Table-clause-answers : goal.returns-in-Table-clause-answers
returns-in-Table-clause-answers g c = rw c.in-Table.is c.date_table.ensures
