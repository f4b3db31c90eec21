use Rattle.std.proofs.Common.{sym, ◌∙◌, subst}
use Rattle.line_base.specs.declared.event.Parts.{Parts}
use Rattle.line_core.specs.Run.{IsRunWithRoom}
use Rattle.line_core.proofs.Runs.{held_from}
use Rattle.line_core.proofs.state.State.of_reached.Goals as goal

pub invariant_of-result : goal.invariant_of-result
invariant_of-result c =
    let ranked = c.graph.ensures.ranked in
    subst (λ (g : Parts). IsRunWithRoom g c.args.logs) (sym (c.of.ensures ∙ c.graph.ensures.graph)) (held_from c.args.live.now.graph c.args.logs ranked.sound ranked.limits c.requires.reached c.requires.room)

pub returns-clause-reached : goal.returns-clause-reached
returns-clause-reached c = (invariant_of-result c).run
