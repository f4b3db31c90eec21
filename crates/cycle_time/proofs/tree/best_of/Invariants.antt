use Rattle.std.proofs.Common.{◌≡◌, ℕ, ◌+◌, ◌*◌, ◌<◌, ◌≤◌, ◌⊎◌, get_or}
use Rattle.event_graph.specs.Network.{arc, EndsAt}
use Rattle.cycle_time.specs.Certificate.{most_potential}
use Rattle.cycle_time.specs.Search.{gain, loss, IsGiven}
use Rattle.cycle_time.proofs.tree.best_of.Given as goal

abbrev pub invariant-loop-a : goal.invariant-loop-a
invariant-loop-a l = record {
  small : l.best.potential ≤ 2 * most_potential;
  kept : get_or l.potentials l.t 0 ≤ l.best.potential;
  covers : (k : ℕ) → k < l.a-index →
      get_or l.potentials (arc l.graph (get_or l.ins k 0)).from 0 + gain l.graph l.weights.weighing (get_or l.ins k 0)
      ≤ l.best.potential + loss l.graph l.weights.weighing (get_or l.ins k 0);
  cause : (l.best.potential ≡ get_or l.potentials l.t 0)
      ⊎ (EndsAt l.graph l.t l.best.entry × IsGiven l.graph l.weights.weighing l.potentials l.best.entry (get_or l.potentials l.t 0) l.best);
}
