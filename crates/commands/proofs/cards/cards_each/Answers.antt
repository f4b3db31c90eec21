use Rattle.std.proofs.Common.{inl, inr}
use Rattle.std.proofs.lemmas.Bool.{true_from_ne_false}
use Rattle.std.proofs.lemmas.Result.{err_from_is_err_and}
use Rattle.card_sizing.specs.Each.{IsEachRefusal}
use Rattle.card_sizing.specs.Counted.{has_stage_counts}
use Rattle.commands.proofs.CardAnswers.{no_error}
use Rattle.commands.proofs.OrNoMemory.{refused_for}
use Rattle.live_plant.specs.Refusals.{sizing_refusal}
use Rattle.commands.proofs.cards.cards_each.Goals as goal

pub least_each-requires-clause-live : goal.least_each-requires-clause-live
least_each-requires-clause-live c = rw c.requires.graph at c.graph-graph.ensures.ranked.live

pub returns-in_err-each : goal.returns-in_err-each
returns-in_err-each c =
    let p = err_from_is_err_and c.from_residual.result c.from_residual.ensures.1 in
    rw p.1
    (inl (inr
    (refused_for (IsEachRefusal c.args.line.now.plant c.args.wait) sizing_refusal c.in_err-each.field-0.0 p.0
    c.in_err-each.ensures.refused p.2)))

pub returns : goal.returns
returns c =
    let each = c.in_ok-each.each in
    let sized = c.in_ok-each.ensures in
    inl (inl (record {
      each = each;
      counted = true_from_ne_false (has_stage_counts c.args.line.now.plant)
          (λ none. no_error each (sized.no_single_count.1 none));
      serves = sized.serves;
      least = sized.least;
      in_order = sized.in_order;
      below = sized.below;
      named = sized.named;
      total = sized.total;
      written = c.in_ok-text.ensures;
    }))
