use Rattle.std.proofs.Common.{◌≡◌, ◌*◌, ap, ◌∙◌, sym, subst, arith}
use Rattle.std.proofs.lemmas.Bool.{eqb-true, eq-eqb}
use Rattle.event_graph.specs.Network.{stations, jobs}
use Rattle.line_core.specs.Consistent.{firing_count}
use Rattle.line_core.proofs.Consistency.{reached_is_consistent}
use Rattle.line_workers.specs.Line.{WorkLine, IsLine}
use Rattle.line_workers.proofs.AllFirings.{all_is_finished, finished_is_all}
use Rattle.line_workers.proofs.Lines.{at_rest_is_line}
use Rattle.line_workers.proofs.line.Line.finished.Goals as goal

pub returns-clause-line : goal.returns-clause-line
returns-clause-line c = subst IsLine c.self.view_is (at_rest_is_line c.self.inside.workers.items c.self.inside.made c.self.invariant.rest)

pub returns-clause-finished : goal.returns-clause-finished
returns-clause-finished c =
    let line = c.args.self.now in
    let g = line.live.graph in
    let is : IsLine line = subst IsLine c.self.view_is (at_rest_is_line c.self.inside.workers.items c.self.inside.made c.self.invariant.rest) in
    let consistent = reached_is_consistent g line.state is.reached.reached in
    let count = c.self.inside.counts.fired in
    let all = c.self.inside.all in
    let count_is : count ≡ firing_count line.state = c.self.invariant.counts.fired ∙ ap (λ (l : WorkLine). firing_count l.state) c.self.view_is in
    let all_is : all ≡ stations g * jobs g = c.self.invariant.all ∙ ap (λ (l : WorkLine). stations l.live.graph * jobs l.live.graph) c.self.view_is in (
      λ yes. all_is_finished g line.state consistent (omega (arith, eqb-true count all yes, count_is, all_is)),
      λ finished. eq-eqb count all (count_is ∙ finished_is_all g line.state consistent finished ∙ sym all_is),
    )
