use Rattle.std.proofs.Common.{◌≡◌, length, sym, ap, ◌∙◌, arith}
use Rattle.event_graph.specs.Network.{arc_count}
use Rattle.std.proofs.lemmas.List.{length_push}
use Rattle.checkpoint.proofs.WrittenTexts.{delayed_below, delayed_below-0, delayed_below-all, delayed_below-yes, delayed_below-no}
use Rattle.checkpoint.proofs.writer.count_delayed.Goals as goal
use Rattle.checkpoint.proofs.writer.count_delayed.Goals.{then-delay-gt0, else-delay-gt0}

pub loop-a-init : goal.loop-a-init
loop-a-init c = record {
  counted = sym (ap length (delayed_below-0 c.args.graph.now));
  few = omega arith;
}

pub loop-a-preserved : goal.loop-a-preserved
loop-a-preserved c =
    let g = c.args.graph.now in
    let a = c.loop-a.a in
    elim c.if-delay-gt0.branch [
      | then-delay-gt0 w ↦ record {
        counted = omega (arith, w.count-is, c.loop-a.invariant.counted, ap length (delayed_below-yes g a (omega (arith, c.delay.ensures.delay, w.if-delay-gt0.true))), length_push (delayed_below g a) a);
        few = omega (arith, w.count-is, c.loop-a.invariant.few);
      }
      | else-delay-gt0 w ↦ record {
        counted = omega (arith, w.count-is, c.loop-a.invariant.counted, ap length (delayed_below-no g a (omega (arith, c.delay.ensures.delay, w.if-delay-gt0.false))));
        few = omega (arith, w.count-is, c.loop-a.invariant.few);
      }
    ]

pub returns : goal.returns
returns c =
    let g = c.args.graph.now in
    let all : c.loop-a.a ≡ arc_count g = omega (arith, ap length c.arcs.ensures.arcs, c.loop-a-test.false, c.loop-a.auto.a-end) in
    c.loop-a.invariant.counted ∙ ap (λ n. length (delayed_below g n)) all ∙ ap length (delayed_below-all g)
