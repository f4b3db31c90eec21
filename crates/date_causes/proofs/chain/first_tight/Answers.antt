use Rattle.std.proofs.Common.{◌<◌, sym, ap, ◌∙◌, subst, arith}
use Rattle.line_base.specs.declared.event.Parts.{Parts}
use Rattle.event_graph.specs.Greatest.{IsGreatestTerm, IsGreatestOfTerms}
use Rattle.event_graph.specs.Table.{Table, date_in}
use Rattle.event_graph.specs.Term.{term}
use Rattle.date_causes.proofs.WaysBack.{earlier_listed, listed_input}
use Rattle.date_causes.proofs.chain.first_tight.Goals as goal

pub returns-then-term_of-date : goal.returns-then-term_of-date
returns-then-term_of-date c =
    let g = c.args.graph.now in
    let x : Table = date_in c.args.table.now.rows in
    let listed = c.ins-ins.result.now in
    record {
      enters = c.ins-ins.ensures.each c.loop-a.a-index 0 c.loop-a-test.true;
      tight = sym c.term_of.ensures ∙ c.if-term_of-date.true ∙ c.date-date.ensures.date;
      first = λ b lower enters same.
          (let found = earlier_listed g c.args.t listed c.ins-ins.ensures.arcs c.loop-a.a-index b c.loop-a-test.true lower enters in
          c.loop-a.invariant found.0 found.1 (ap (λ k. term g x k c.args.n) found.2 ∙ same ∙ sym c.date-date.ensures.date));
    }

pub unreachable-requires : goal.unreachable-requires
unreachable-requires c =
    let g = c.args.graph.now in
    let x : Table = date_in c.args.table.now.rows in
    let all : IsGreatestOfTerms g x = subst (λ (h : Parts). IsGreatestOfTerms h x) c.requires.of_graph c.date-date.ensures.least.greatest in
    let greatest : IsGreatestTerm g x c.args.t c.args.n = all.others c.args.t c.args.n c.requires.not_the_feed c.requires.station c.requires.from_one c.requires.job in
    let found = listed_input g c.args.t c.ins-ins.result.now c.ins-ins.ensures.arcs greatest.last greatest.enters in
    let before : found.0 < c.loop-a.a-index = omega (arith, found.1, c.loop-a-test.false) in
    c.loop-a.invariant found.0 before (ap (λ k. term g x k c.args.n) found.2 ∙ sym greatest.equal ∙ sym c.date-date.ensures.date)

pub date-date-requires-clause-station : goal.date-date-requires-clause-station
date-date-requires-clause-station c = rw c.requires.of_graph c.requires.station

pub date-date-requires-clause-job : goal.date-date-requires-clause-job
date-date-requires-clause-job c = rw c.requires.of_graph c.requires.job
