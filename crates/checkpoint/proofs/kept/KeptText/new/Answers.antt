use Rattle.std.proofs.Common.{ap, ◌∙◌}
use Rattle.line_base.specs.declared.event.Parts.{Parts}
use Rattle.event_graph.specs.Network.{stations}
use Rattle.checkpoint.proofs.KeptWords.{none_follows}
use Rattle.checkpoint.proofs.kept.KeptText.new.Goals as goal

pub returns-clause-follows : goal.returns-clause-follows
returns-clause-follows c s =
    none_follows c.args.live.now.graph s _ c.stations.result (c.stations.ensures.count ∙ ap (λ (h : Parts). stations h) c.graph.ensures.graph) c.in_ok-empty_logs.ensures
