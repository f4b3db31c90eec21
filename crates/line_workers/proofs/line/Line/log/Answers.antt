use Rattle.std.proofs.Common.{◌≡◌, ◌<◌, length, ap, ◌∙◌, subst, arith}
use Rattle.event_graph.specs.Network.{stations}
use Rattle.event_graph.specs.State.{log}
use Rattle.line_worker.specs.Workers.{graph_of}
use Rattle.line_workers.specs.declared.link.Seat.{Seat}
use Rattle.line_workers.specs.Line.{WorkLine, IsLine}
use Rattle.line_workers.specs.Link.{seat_among, seat_of}
use Rattle.line_workers.proofs.Lines.{at_rest_is_line}
use Rattle.line_workers.proofs.StationLogs.{HasLog, read_at_seat}
use Rattle.line_workers.proofs.line.Line.log.Goals as goal
use Rattle.line_workers.proofs.line.Line.log.Goals.{After-index}

-- what stands at the seat
found : (c : After-index) → HasLog c.self.inside.workers.items c.args.t c.seat_of-seat.result.number c.index.result.now
found c =
    let workers = c.self.inside.workers.items in
    let t = c.args.t in
    let seat : Seat = c.seat_of-seat.result in
    let there : t < stations (graph_of workers) = omega (arith, c.requires, ap (λ (l : WorkLine). stations l.live.graph) c.self.view_is) in
    let many : c.len.result ≡ length workers = omega (arith, c.len.ensures) in
    let is : seat ≡ seat_of (graph_of workers) (length workers) t =
    c.seat_of-seat.ensures
    ∙ ap (λ n. seat_among n c.self.inside.station_count t) many
    ∙ ap (λ n. seat_among (length workers) n t) c.self.invariant.station_count in
    read_at_seat workers c.self.invariant.rest.whole t there seat is c.index.result.now c.index.ensures

pub log-requires : goal.log-requires
log-requires c = (found (goal.at.log-requires c).After-index).there

pub returns-clause-log : goal.returns-clause-log
returns-clause-log c =
    c.log.ensures.log
    ∙ (found (goal.at.returns-clause-log c).After-index).log
    ∙ ap (λ (l : WorkLine). log l.state c.args.t) c.self.view_is

pub returns-clause-line : goal.returns-clause-line
returns-clause-line c = subst IsLine c.self.view_is (at_rest_is_line c.self.inside.workers.items c.self.inside.made c.self.invariant.rest)
