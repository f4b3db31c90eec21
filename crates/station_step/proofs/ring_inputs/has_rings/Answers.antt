use Rattle.std.proofs.Common.{sym, ◌∙◌, rules, tests}
use Rattle.std.proofs.lemmas.Iterator.{YieldsList-from_slice}
use Rattle.std.proofs.lemmas.Iterator.Search.{any_from_yields_List}
use Rattle.station_step.specs.declared.noted.NotedInput.{NotedInput}
use Rattle.station_step.specs.RingInputs.{is_ring_input}
use Rattle.station_step.proofs.RingInputs.{any-inputs}
use Rattle.station_step.proofs.ring_inputs.has_rings.Goals as goal

pub returns : goal.returns
returns c =
    any_from_yields_List (λ (n : NotedInput). is_ring_input n.input) _ _ c.any.result c.any.ensures.ran (YieldsList-from_slice c.args.inputs.now c.iter.ensures.rest) (λ x b q k. search (rules, tests))
    ∙ sym (any-inputs is_ring_input c.args.inputs.now)
