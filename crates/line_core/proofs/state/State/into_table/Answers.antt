use Rattle.std.proofs.Common.{ℕ, List, sym, ap, ◌∙◌, subst}
use Rattle.line_base.specs.declared.event.Parts.{Parts}
use Rattle.line_base.specs.Roomy.{dates_of}
use Rattle.line_core.specs.Consistent.{IsFinished}
use Rattle.line_core.specs.Run.{Run, Dates, IsLeastTable}
use Rattle.line_core.proofs.Runs.{logs-state_of, least_table}
use Rattle.line_core.proofs.state.State.into_table.Goals as goal

pub of-requires : goal.of-requires
of-requires c =
    let g = c.self.inside.graph.value in
    let logs = c.self.inside.logs in
    let at = c.graph.ensures.graph ∙ c.requires.made_for ∙ sym (ap (λ (r : Run). r.graph) c.self.view_is) in
    let finished = subst (λ (r : Run). IsFinished r.graph r.state) (sym c.self.view_is) c.requires.finished in
    subst (λ h. IsLeastTable (record { graph = h; rows = dates_of logs })) (sym at) (least_table g logs c.self.invariant finished)

pub returns-clause-dates : goal.returns-clause-dates
returns-clause-dates c =
    let logs = c.self.inside.logs in
    let rows = sym (logs-state_of c.self.inside.graph.value (dates_of logs)) ∙ ap (λ (r : Run). r.state.logs) c.self.view_is in
    let of_graph : Parts → Dates = λ h. record { graph = h; rows = dates_of logs } in
    let of_rows : List (List ℕ) → Dates = λ l. record { graph = c.args.self.graph; rows = l } in
    c.of.ensures ∙ ap of_graph (c.graph.ensures.graph ∙ c.requires.made_for) ∙ ap of_rows rows
