use Rattle.std.proofs.Common.{sym, ap, ◌∙◌, get_or, length, drop, ◌+◌}
use Rattle.std.specs.List.{fold}
use Rattle.event_graph.specs.Network.{outs}
use Rattle.what_if.specs.Evaluation.{with_reader, with_readers}
use Rattle.what_if.proofs.Readers.{length-reader}
use Rattle.what_if.proofs.Walks.{fold-next, fold-past}
use Rattle.what_if.proofs.renewal.mark_readers.Goals as goal

pub loop-a-preserved : goal.loop-a-preserved
loop-a-preserved c =
    let l = c.args.live.now in
    let n = c.args.n in
    let items = c.outs-a-items.result.now in
    let i = c.loop-a.a-index in
    record {
      rest = ap (λ marks. fold (with_reader l n) marks (drop (i + 1) items)) c.mark_reader.ensures ∙ fold-next (with_reader l n) c.loop-a.marks items i 0 c.loop-a-test.true ∙ c.loop-a.invariant.rest;
      room = ap length c.mark_reader.ensures ∙ length-reader l n c.loop-a.marks (get_or items i 0) ∙ c.loop-a.invariant.room;
    }

pub returns : goal.returns
unfolding with_readers
returns c =
    let l = c.args.live.now in
    let f = with_reader l c.args.n in
    sym (fold-past f c.loop-a.marks c.outs-a-items.result.now c.loop-a.a-index c.loop-a-test.false)
    ∙ c.loop-a.invariant.rest
    ∙ ap (fold f c.args.marks.now) (c.outs-a-items.ensures.arcs ∙ ap (λ g. outs g c.args.t) c.graph.ensures.graph)
