use Rattle.std.proofs.Common.{refl, inl}
use Rattle.commands.proofs.CycleAnswers.{cycle_refused}
use Rattle.live_plant.proofs.CycleRefusals.{names_station}
use Rattle.commands.proofs.graphs.cycle_of.Goals as goal

pub cycle_refusal-requires : goal.cycle_refusal-requires
cycle_refusal-requires c =
    rw c.graph-in-Err.ensures.graph
    (names_station c.args.line.now.live.graph c.in-Err.error c.in-Err.ensures.refused)

pub returns-in_ok-text-in-Ok : goal.returns-in_ok-text-in-Ok
returns-in_ok-text-in-Ok c =
    inl (inl (record {
      certificate = c.in-Ok.certificate;
      fixed = rw c.requires.graph at c.in-Ok.ensures.fixed;
      cycle_time = rw c.requires.graph at c.in-Ok.ensures.cycle_time;
      text = c.in_ok-text-in-Ok.text;
      certified = rw (c.graph.ensures.graph, c.requires.graph) at c.in_ok-text-in-Ok.ensures;
      written = refl;
    }))

pub returns-in-Err : goal.returns-in-Err
returns-in-Err c =
    cycle_refused c.args.line.now.plant c.in-Err.error c.cycle_refusal.result
    (rw c.requires.graph at c.in-Err.ensures.refused)
    (rw (c.graph-in-Err.ensures.graph, c.requires.graph) at c.cycle_refusal.ensures)
