use Rattle.std.proofs.Common.{◌<◌, IfSome, sym, ap, ◌∙◌, subst}
use Rattle.line_base.specs.declared.event.Parts.{Parts}
use Rattle.event_graph.specs.Network.{stations}
use Rattle.line_core.specs.Refusals.{first_unfinished}
use Rattle.line_core.specs.Run.{Run, IsReached, IsRunWithRoom}
use Rattle.line_core.proofs.Runs.{state_in}
use Rattle.line_core.proofs.state.State.first_unfinished.Goals as goal

pub first_unfinished-requires : goal.first_unfinished-requires
first_unfinished-requires c =
    let same = c.graph.ensures.graph ∙ c.requires.made_for ∙ sym (ap (λ (r : Run). r.graph) c.self.view_is) in
    record { has_room = subst (λ (g : Parts). IsRunWithRoom g c.self.inside.logs) (sym same) c.self.invariant }

pub returns : goal.returns
returns c =
    let logs = c.self.inside.logs in
    let found = c.first_unfinished.ensures in
    let made_for = c.graph.ensures.graph ∙ c.requires.made_for in
    let same = made_for ∙ sym (ap (λ (r : Run). r.graph) c.self.view_is) in
    record {
      station =
          found.found
          ∙ ap (λ (g : Parts). first_unfinished g (state_in g logs)) same
          ∙ ap (λ (r : Run). first_unfinished r.graph r.state) c.self.view_is;
      exists = subst (λ (g : Parts). IfSome c.first_unfinished.result (λ t. t < stations g)) made_for found.exists;
      reached = subst IsReached c.self.view_is c.self.invariant.run;
    }
