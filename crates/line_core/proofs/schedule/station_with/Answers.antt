use Rattle.std.proofs.Common.{sym, ap, ◌∙◌, arith}
use Rattle.std.specs.Str.{bytes_eq}
use Rattle.event_graph.specs.Network.{stations}
use Rattle.line_core.specs.Schedule.{is_label_of}
use Rattle.line_core.proofs.Searches.{find-number_here, find-number_later, find-number_past}
use Rattle.line_core.proofs.schedule.station_with.Goals as goal

pub returns-then-eq-clause-found : goal.returns-then-eq-clause-found
returns-then-eq-clause-found c =
    let named = ap (λ l. bytes_eq l c.args.text.now) (sym c.label.ensures.text) ∙ sym c.eq.ensures ∙ c.if-eq.true in
    find-number_here (is_label_of c.args.graph.now c.args.text.now) (stations c.args.graph.now) c.loop-t.t (omega (arith, c.stations-t-end.ensures.count, c.loop-t-test.true)) named
    ∙ c.loop-t.invariant

pub loop-t-preserved : goal.loop-t-preserved
loop-t-preserved c =
    let other = ap (λ l. bytes_eq l c.args.text.now) (sym c.label.ensures.text) ∙ sym c.eq.ensures ∙ c.if-eq.false in
    find-number_later (is_label_of c.args.graph.now c.args.text.now) (stations c.args.graph.now) c.loop-t.t (omega (arith, c.stations-t-end.ensures.count, c.loop-t-test.true)) other
    ∙ c.loop-t.invariant

pub returns-clause-found : goal.returns-clause-found
returns-clause-found c =
    find-number_past (is_label_of c.args.graph.now c.args.text.now) (stations c.args.graph.now) c.loop-t.t (omega (arith, c.stations-t-end.ensures.count, c.loop-t-test.false))
    ∙ c.loop-t.invariant
