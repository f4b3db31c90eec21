use Rattle.std.proofs.Common.{◌≡◌, ℕ, List, [], length, replicate, ap, ◌∙◌, subst, arith}
use Rattle.std.proofs.lemmas.Result.{err_from_is_err_and}
use Rattle.station_step.specs.declared.ends.Inlet.{Inlet}
use Rattle.station_step.specs.declared.ends.Outlet.{Outlet}
use Rattle.event_graph.specs.Network.{stations, arc_count}
use Rattle.line_setup.specs.Start.{AreLaidFor}
use Rattle.line_setup.proofs.LaidEnds.{laid_none}
use Rattle.line_setup.proofs.laying.Ends.of.Goals as goal

pub loop-a-init : goal.loop-a-init
loop-a-init c =
    let many = c.stations.ensures.count ∙ ap stations c.graph-graph.ensures.graph in
    record {
      laid =
          laid_none
          c.args.start.now.live.now.graph
          c.args.start.now.state.now.state
          c.args.start.now.worker_count
          c.in_ok-ends.ends
          c.in_ok-ends.ensures.shelves
          c.in_ok-ends.ensures.arcs
          (c.in_ok-ends.ensures.outlets ∙ ap (λ n. replicate {A = List Outlet} n []) many)
          (c.in_ok-ends.ensures.inlets ∙ ap (λ n. replicate {A = List Inlet} n []) many);
      room = c.in_ok-ends.ensures.room;
    }

pub loop-a-preserved : goal.loop-a-preserved
loop-a-preserved c =
    let laid = c.in_default.ensures in
    record { laid = laid.laid; room = laid.room ∙ c.loop-a.invariant.room }

pub returns-clause-laid : goal.returns-clause-laid
returns-clause-laid c =
    let start = c.args.start.now in
    let all : c.loop-a.a ≡ arc_count start.live.now.graph =
    omega (arith, c.loop-a-test.false, c.loop-a.auto.a-end, ap length c.arcs.ensures.arcs, ap arc_count c.graph-graph.ensures.graph) in
    subst (λ (n : ℕ). AreLaidFor start c.loop-a.ends n) all c.loop-a.invariant.laid

pub returns-in_err-ends : goal.returns-in_err-ends
returns-in_err-ends c = rw (err_from_is_err_and c.from_residual.result c.from_residual.ensures.1).1 (record { laid = tt; room = tt; sound = tt; some_station = tt; few_arcs = tt })

pub returns-in-Err : goal.returns-in-Err
returns-in-Err c = record { laid = tt; room = tt; sound = tt; some_station = tt; few_arcs = tt }
