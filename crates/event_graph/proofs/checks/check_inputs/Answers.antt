use Rattle.std.proofs.Common.{length, [], get_or, arith, ap, ◌∙◌, sym}
use Rattle.std.proofs.lemmas.Bool.{eqb-true, eqb-false}
use Rattle.event_graph.specs.declared.lists.End.TheVariants.{Finish}
use Rattle.event_graph.proofs.ArcNumbers.{get_or-lists_at, length-lists_at, lacks_input, has_input}
use borrow.Author.Count.{below_more}
use Rattle.event_graph.proofs.checks.check_inputs.Goals as goal

pub of-requires : goal.of-requires
of-requires c = omega (arith, ap length c.requires.listed, length-lists_at Finish c.args.parts.now)

pub returns-then-is_empty : goal.returns-then-is_empty
returns-then-is_empty c =
    let listed = c.of.ensures ∙ ap (λ l. get_or l c.loop-station.station []) c.requires.listed ∙ get_or-lists_at Finish c.args.parts.now c.loop-station.station (omega arith) in
    let none = eqb-true _ _ (sym c.is_empty.ensures ∙ c.if-is_empty.true) in (
      c.requires.ends,
      c.requires.feed,
      record { within = omega arith; found = lacks_input _ _ _ listed (omega arith) none; first = c.loop-station.invariant },
    )

pub loop-station-preserved : goal.loop-station-preserved
loop-station-preserved c =
    let listed = c.of.ensures ∙ ap (λ l. get_or l c.loop-station.station []) c.requires.listed ∙ get_or-lists_at Finish c.args.parts.now c.loop-station.station (omega arith) in
    let some = eqb-false _ _ (sym c.is_empty.ensures ∙ c.if-is_empty.false) in
    below_more _ _ c.loop-station.invariant (has_input _ _ _ listed some)

pub returns : goal.returns
returns c = λ k low. c.loop-station.invariant k (omega arith)
