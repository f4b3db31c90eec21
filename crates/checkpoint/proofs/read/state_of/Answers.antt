use Rattle.std.proofs.Common.{ap, ◌∙◌, sym, subst}
use Rattle.event_graph.specs.State.{State}
use Rattle.line_core.specs.Run.{Run}
use Rattle.checkpoint.specs.Text.{IsTextOf}
use Rattle.checkpoint.proofs.ReadParts.{long_refused, marked_refused, token_refused, state_said}
use Rattle.checkpoint.proofs.read.state_of.Goals as goal

pub returns-in-Err-clause-refused : goal.returns-in-Err-clause-refused
returns-in-Err-clause-refused c bytes read =
    long_refused c.args.live.now.graph bytes _ _ _ _ read _ c.in-Err.ensures.refused

pub returns-in-Err-of_logs-clause-refused : goal.returns-in-Err-of_logs-clause-refused
returns-in-Err-of_logs-clause-refused c bytes read =
    marked_refused c.args.live.now.graph bytes _ _ _ _ read c.in-Ok.ensures.none _ c.in-Err-of_logs.ensures.refused

pub returns-in-Err-check_noted-clause-refused : goal.returns-in-Err-check_noted-clause-refused
returns-in-Err-check_noted-clause-refused c bytes read =
    token_refused c.args.live.now.graph bytes _ _ _ _ read c.in-Ok.ensures.none c.in-Ok-of_logs.ensures.tokens _ c.in-Err-check_noted.ensures.refused

pub returns-in-Ok-check_noted-clause-text : goal.returns-in-Ok-check_noted-clause-text
returns-in-Ok-check_noted-clause-text c bytes read =
    let g = c.args.live.now.graph in
    let said = ap (λ (r : Run). r.state) c.in-Ok-of_logs.ensures.state ∙ state_said g bytes _ _ _ _ read c.in-Ok.ensures.none c.in-Ok-of_logs.ensures.tokens c.in-Ok-check_noted.ensures.none in
    subst (λ (u : State). IsTextOf g u bytes) (sym said) read.said.text
