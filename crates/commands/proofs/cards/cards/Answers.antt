use Rattle.std.proofs.Common.{inl, inr}
use Rattle.std.proofs.lemmas.Result.{err_from_is_err_and}
use Rattle.card_sizing.specs.Sizing.{IsSizingRefusal}
use Rattle.commands.proofs.CardAnswers.{cards_found, no_error}
use Rattle.commands.proofs.OrNoMemory.{refused_for}
use Rattle.live_plant.specs.Refusals.{sizing_refusal}
use Rattle.commands.proofs.cards.cards.Goals as goal

pub least_cards-requires-clause-live : goal.least_cards-requires-clause-live
least_cards-requires-clause-live c = rw c.requires.graph at c.graph-graph.ensures.ranked.live

pub returns-in_err-sizing : goal.returns-in_err-sizing
returns-in_err-sizing c =
    let p = err_from_is_err_and c.from_residual.result c.from_residual.ensures.1 in
    rw p.1
    (inl (inr
    (refused_for (IsSizingRefusal c.args.line.now.plant c.args.wait) sizing_refusal c.in_err-sizing.field-0.0 p.0
    c.in_err-sizing.ensures.refused p.2)))

pub returns : goal.returns
returns c =
    let asked = c.in_ok-sizing.ensures in
    let sizing = c.in_ok-sizing.sizing in
    cards_found c.args.line.now.plant c.args.wait sizing c.in_ok-text.text
    (λ none. no_error sizing (asked.no_single_count.1 none)) asked.serves asked.least asked.below c.in_ok-text.ensures
