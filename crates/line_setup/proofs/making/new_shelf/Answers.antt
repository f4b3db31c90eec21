use Rattle.std.proofs.Common.{◌<◌, ◌≤◌, [], length, get_or, ap, ◌∙◌, arith, subst}
use Rattle.std.proofs.lemmas.List.{get_or_default}
use Rattle.line_base.specs.Roomy.{RoomyLog}
use Rattle.event_graph.specs.Network.{jobs}
use Rattle.station_step.specs.declared.source.Source.{Source}
use Rattle.line_setup.proofs.MadeStations.{shelve_small, new_shelf-is}
use Rattle.line_setup.proofs.making.new_shelf.Goals as goal

pub new-requires-clause-small : goal.new-requires-clause-small
new-requires-clause-small c =
    shelve_small c.args.live.now.graph c.args.firsts.items c.jobs.result (c.jobs.ensures.count ∙ ap jobs c.graph.ensures.graph) c.requires.shelf

pub new-requires-clause-logs_there : goal.new-requires-clause-logs_there
new-requires-clause-logs_there c q d low =
    subst (λ (s : Source). s.station < length c.args.logs.items) (get_or_default c.args.sources.items q _ d low) (c.requires.there q low)

pub new-requires-clause-few_dates : goal.new-requires-clause-few_dates
new-requires-clause-few_dates c i d low =
    let none : RoomyLog = record { dates = []; room = 0 } in
    let few : length (get_or c.args.logs.items i none).dates ≤ c.jobs.result = omega (arith, c.requires.few i low, c.jobs.ensures.count ∙ ap jobs c.graph.ensures.graph) in
    subst (λ (l : RoomyLog). length l.dates ≤ c.jobs.result) (get_or_default c.args.logs.items i none d low) few

pub returns-clause-queues : goal.returns-clause-queues
returns-clause-queues c =
    new_shelf-is c.args.live.now.graph c.args.firsts.items c.jobs.result (c.jobs.ensures.count ∙ ap jobs c.graph.ensures.graph) c.new.result c.new.ensures.queues
