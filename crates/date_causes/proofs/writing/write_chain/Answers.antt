use Rattle.std.proofs.Common.{ap, ◌∙◌, length}
use Rattle.std.proofs.lemmas.List.FromFn.{length-map-range_with_len}
use Rattle.event_graph.specs.Network.{stations}
use Rattle.outside_io.proofs.OutgoingLemmas.{◌⨟◌}
use Rattle.date_causes.specs.Shares.{share}
use Rattle.date_causes.specs.WhyText.{why_text}
use Rattle.date_causes.proofs.writing.write_chain.Goals as goal

pub write_shares-requires : goal.write_shares-requires
write_shares-requires g c =
    ap length (c.as_slice.ensures.value ∙ c.requires.shares_are)
    ∙ length-map-range_with_len (share c.args.chain.now.links) 0 (stations c.args.graph.now)

pub returns : goal.returns
unfolding why_text
returns g c =
    let lines = rw c.as_slice-links.ensures at c.write_links.ensures in
    let shares = rw (c.as_slice.ensures.value ∙ c.requires.shares_are, c.requires.of_plant.graph_is) at c.write_shares.ensures in
    lines ⨟ shares
