use Rattle.latest_dates.proofs.LatestSolution.{latest_serve}
use Rattle.latest_dates.proofs.laws.latest_dates_serve.Goals as goal

pub returns : goal.returns
returns c = λ g some graph may y latest n one inside. latest_serve g graph may y latest some n one inside
