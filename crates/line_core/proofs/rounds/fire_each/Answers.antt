use Rattle.std.proofs.Common.{refl, sym, ap, ◌∙◌, arith}
use Rattle.event_graph.specs.Network.{stations, jobs}
use Rattle.line_core.proofs.rounds.fire_each.Goals as goal

pub loop-rank-init : goal.loop-rank-init
loop-rank-init c = record {
  graph = refl;
  round = record { ahead = λ t there before. absurd (omega arith); behind = λ t there after. c.requires.fired t there };
  reached = c.requires.reached;
}

pub fire_at-requires : goal.fire_at-requires
fire_at-requires c =
    let at = c.loop-rank.invariant in
    let same = c.requires.made_for ∙ sym at.graph in
    record {
      made_for = same;
      rank = omega (arith, c.loop-rank-test.true, c.stations-rank-end.ensures.count, ap stations (c.graph.ensures.graph ∙ same));
      more = omega (arith, c.requires.more, ap jobs at.graph);
      round = at.round;
      reached = at.reached;
    }

pub loop-rank-preserved : goal.loop-rank-preserved
loop-rank-preserved c = record {
  graph = c.fire_at.ensures.graph ∙ c.loop-rank.invariant.graph;
  round = c.fire_at.ensures.round;
  reached = c.fire_at.ensures.reached;
}
