use Rattle.std.proofs.Common.{◌≡◌, ℕ, ◌+◌, ◌-◌, ◌<◌, List, get_or, ap, ◌∙◌, subst, arith}
use Rattle.line_base.specs.declared.event.Parts.{Parts}
use Rattle.event_graph.specs.Least.{IsLeast}
use Rattle.event_graph.specs.Network.{stations}
use Rattle.event_graph.specs.State.{log}
use Rattle.card_sizing.proofs.ReachedDates.{reached_dates}
use Rattle.card_sizing.proofs.waits.last_wait.Goals as goal

pub returns : goal.returns
returns c =
    λ x least.
    let r = c.args.state.now in
    let g = r.graph in
    let s = r.state in
    let done = c.args.done in
    let made_for = c.requires.made_for in
    let reached = c.requires.reached in
    let here = subst (λ (h : Parts). IsLeast h x) made_for least in
    let some = reached.limits.some_station in
    let last : stations g - 1 < stations g = omega (arith, some) in
    let first : 0 < stations g = omega (arith, some) in
    let dates = reached_dates g s reached.sound some reached.reached x here in
    let delivered = dates (stations g - 1) done last (omega (arith, c.requires.fired (stations g - 1) last)) in
    let demanded = dates 0 done first (omega (arith, c.requires.fired 0 first)) in
    let end : c.stations.result - 1 ≡ stations g - 1 = omega (arith, c.stations.ensures.count, ap stations c.graph.ensures.graph, ap stations made_for) in
    let read_last = ap (λ (dates : List ℕ). get_or dates done 0) (c.log-delivered.ensures.log ∙ ap (λ (t : ℕ). log s t) end) in
    let read_first = ap (λ (dates : List ℕ). get_or dates done 0) c.log-demanded.ensures.log in
    let there = ap (λ (h : Parts). x (stations h - 1) (done + 1)) made_for in
    omega (arith, delivered, demanded, read_last, read_first, there, c.saturating_sub.ensures)
