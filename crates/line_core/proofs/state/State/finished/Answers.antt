use Rattle.std.proofs.Common.{◌∙◌, sym}
use Rattle.line_core.proofs.Consistency.{reached_is_consistent}
use Rattle.line_core.proofs.Searches.{none_from_test, test_from_none, is_finished, none_is_behind}
use Rattle.line_core.proofs.state.State.finished.Goals as goal

pub returns-clause-finished : goal.returns-clause-finished
returns-clause-finished c =
    let g = c.args.self.now.graph in
    let s = c.args.self.now.state in
    let regular = reached_is_consistent g s c.first_unfinished.ensures.reached.reached in (
      λ test. is_finished g s regular (sym c.first_unfinished.ensures.station ∙ none_from_test c.first_unfinished.result c.is_none.result (sym c.is_none.ensures) test),
      λ finished. test_from_none c.first_unfinished.result c.is_none.result (sym c.is_none.ensures) (c.first_unfinished.ensures.station ∙ none_is_behind g s regular finished),
    )
