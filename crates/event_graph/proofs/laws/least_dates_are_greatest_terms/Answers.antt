use Rattle.event_graph.proofs.GreatestTerms.{greatest_of_terms}
use Rattle.event_graph.proofs.laws.least_dates_are_greatest_terms.Goals as goal

pub returns : goal.returns
returns c = λ g graph x least. greatest_of_terms g x graph least
