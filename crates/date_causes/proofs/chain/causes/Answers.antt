use Rattle.std.proofs.Common.{◌≡◌, ℕ, ◌<◌, List, sym, ap, ◌∙◌, subst}
use Rattle.std.specs.Prelude.{Option, Some}
use Rattle.line_base.specs.declared.event.Parts.{Parts}
use Rattle.event_graph.specs.Table.{Table, date_in}
use Rattle.date_causes.specs.declared.link.Link.{Link}
use Rattle.date_causes.specs.Chain.{IsLink, before_of}
use Rattle.date_causes.proofs.WaysBack.{IsAhead, IsOnWay, steps_left, one_more, steps_fall}
use Rattle.date_causes.proofs.chain.causes.Goals as goal
use Rattle.date_causes.proofs.chain.causes.Goals.{After-before-next}

-- the date that is looked at, as the link has it
at_link : (c : After-before-next) → c.loop-next.next ≡ Some (c.link_of-link.result.station, c.link_of-link.result.job)
at_link c = cc (c.in-Some.is, c.in-Some.station-is, c.in-Some.job-is, c.link_of-link.ensures.station, c.link_of-link.ensures.job)

link_made : (c : After-before-next) → IsLink c.args.live.now.graph (date_in c.args.table.now.rows) c.link_of-link.result
link_made c =
    subst (λ (h : Parts). IsLink h (date_in c.args.table.now.rows) c.link_of-link.result) c.graph-graph.ensures.graph c.link_of-link.ensures.link

next_made : (c : After-before-next) → c.before-next.result ≡ before_of c.args.live.now.graph c.link_of-link.result.job c.link_of-link.result.cause
next_made c =
    c.before-next.ensures ∙ ap (λ (h : Parts). before_of h c.link_of-link.result.job c.link_of-link.result.cause) c.graph-graph.ensures.graph

pub loop-next-smaller : goal.loop-next-smaller
loop-next-smaller c =
    let live = c.args.live.now in
    let l = c.link_of-link.result in
    subst (λ (o : Option (ℕ × ℕ)). steps_left live c.before-next.result < steps_left live o) (sym (at_link c))
    (steps_fall live c.graph-graph.ensures.ranked (date_in c.args.table.now.rows) l (link_made c) c.before-next.result (next_made c))

pub loop-next-preserved : goal.loop-next-preserved
loop-next-preserved c =
    let g = c.args.live.now.graph in
    let x : Table = date_in c.args.table.now.rows in
    let l = c.link_of-link.result in
    let links = c.loop-next.links.items in
    let ahead : IsAhead g x c.args.t c.args.n links l.station l.job =
    subst (λ (o : Option (ℕ × ℕ)). IsOnWay g x c.args.t c.args.n links o) (at_link c) c.loop-next.invariant in
    let more = one_more g x c.args.t c.args.n links l (link_made c) c.graph-graph.ensures.ranked.sound ahead c.before-next.result (next_made c) in
    subst (λ (ls : List Link). IsOnWay g x c.args.t c.args.n ls c.before-next.result) (sym c.in_ok-push.ensures.items) more
