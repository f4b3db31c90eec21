use Rattle.std.proofs.Common.{ap, ◌∙◌}
use Rattle.line_base.specs.declared.event.Parts.{Parts}
use Rattle.event_graph.specs.Network.{arc, delay}
use Rattle.line_core.proofs.ReachedTokens.{few_taken, tokens_add, tokens_read}
use Rattle.line_core.proofs.as_state.place_in.Goals as goal

pub after_takes-requires-clause-few : goal.after_takes-requires-clause-few
after_takes-requires-clause-few g c =
    let graph_is = c.graph-graph.ensures.graph ∙ c.requires.made_for in
    let is = c.arc-arc.ensures.arc ∙ ap (λ (h : Parts). arc h c.args.a) graph_is in
    few_taken (g.S.AsState.run c.args.of.now) c.args.a c.log_of-dates.ensures.reached c.requires.arc c.arc-arc.result is _ _ c.log_of-taken.ensures.log c.log_of-dates.ensures.log

pub after_takes-requires-clause-within : goal.after_takes-requires-clause-within
after_takes-requires-clause-within g c =
    let graph_is = c.graph-graph.ensures.graph ∙ c.requires.made_for in
    let is = c.arc-arc.ensures.arc ∙ ap (λ (h : Parts). arc h c.args.a) graph_is in
    let later = c.delay.ensures.delay ∙ ap (λ (h : Parts). delay h c.args.a) graph_is in
    tokens_add (g.S.AsState.run c.args.of.now) c.args.a c.log_of-dates.ensures.reached c.requires.arc c.arc-arc.result is _ _ c.log_of-taken.ensures.log c.log_of-dates.ensures.log c.delay.result later

pub returns-clause-tokens : goal.returns-clause-tokens
returns-clause-tokens g c =
    let graph_is = c.graph-graph.ensures.graph ∙ c.requires.made_for in
    let is = c.arc-arc.ensures.arc ∙ ap (λ (h : Parts). arc h c.args.a) graph_is in
    let later = c.delay.ensures.delay ∙ ap (λ (h : Parts). delay h c.args.a) graph_is in
    c.after_takes.ensures ∙ tokens_read (g.S.AsState.run c.args.of.now) c.args.a c.log_of-dates.ensures.reached c.requires.arc c.arc-arc.result is _ _ c.log_of-taken.ensures.log c.log_of-dates.ensures.log c.delay.result later
