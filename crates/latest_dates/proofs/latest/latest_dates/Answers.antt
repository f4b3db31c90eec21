use Rattle.latest_dates.proofs.latest.latest_dates.Goals as goal

pub invariant_of-result : goal.invariant_of-result
invariant_of-result c =
    (record { of_graph = c.requires.of_graph; found = c.in-Ok.ensures.found }, c.in-Ok.ensures.room)

pub returns-in-Ok-clause-found : goal.returns-in-Ok-clause-found
returns-in-Ok-clause-found c = c.in-Ok.ensures.found

pub returns-in-Err-clause-refused : goal.returns-in-Err-clause-refused
returns-in-Err-clause-refused c = c.in-Err.ensures.refused
