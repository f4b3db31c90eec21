use Rattle.std.proofs.Common.{◌∙◌}
use Rattle.event_graph.specs.Network.{stations}
use Rattle.date_causes.proofs.Chains.{chain_sums, chain_links}
use Rattle.date_causes.proofs.Sums.{shares_total}
use Rattle.date_causes.proofs.laws.shares_sum_to_dates.Goals as goal

pub returns : goal.returns
returns c g x t n links chain =
    shares_total links (stations g) (λ k d low. (chain_links g x t n links chain k d low).station) ∙ chain_sums g x t n links chain
