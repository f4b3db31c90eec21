use Rattle.std.proofs.Common.{◌+◌, ◌<◌, ap, sym, subst, arith}
use Rattle.line_base.specs.declared.event.Parts.{Parts}
use Rattle.event_graph.specs.Network.{stations}
use Rattle.live_check.specs.Order.{IsRanked}
use Rattle.line_core.specs.Run.{Run}
use Rattle.line_core.specs.Round.{IsInRound}
use Rattle.line_core.proofs.RoundLemmas.{can_fire_next, round_goes_on}
use Rattle.line_core.proofs.rounds.fire_at.Goals as goal

pub fire_ready-requires-clause-can : goal.fire_ready-requires-clause-can
fire_ready-requires-clause-can c =
    let r = c.args.state.now in
    let ranks = c.args.live.now.ranks in
    let ranked = subst (λ (h : Parts). IsRanked (record { graph = h; ranks = ranks })) c.requires.made_for c.station_at.ensures.ranked in
    let there : c.station_at.result < stations r.graph = omega (arith, ap stations c.requires.made_for, c.station_at.ensures.exists) in
    can_fire_next r.graph ranks r.state c.args.done c.args.rank c.station_at.result ranked c.requires.reached c.requires.round c.requires.more there c.station_at.ensures.rank

pub returns-clause-round : goal.returns-clause-round
returns-clause-round c =
    let r = c.args.state.now in
    let ranks = c.args.live.now.ranks in
    let ranked = subst (λ (h : Parts). IsRanked (record { graph = h; ranks = ranks })) c.requires.made_for c.station_at.ensures.ranked in
    let there : c.station_at.result < stations r.graph = omega (arith, ap stations c.requires.made_for, c.station_at.ensures.exists) in
    let on = round_goes_on r.graph ranks r.state c.args.done c.args.rank c.station_at.result ranked c.requires.reached c.requires.round there c.station_at.ensures.rank in
    subst (λ (next : Run). IsInRound ranks next c.args.done (c.args.rank + 1)) (sym c.fire_ready.ensures.fired) on
