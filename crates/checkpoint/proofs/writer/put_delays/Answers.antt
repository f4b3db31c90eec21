use Rattle.std.proofs.Common.{◌≡◌, ◌++◌, length, sym, ap, ◌∙◌, arith, append-nil, append_assoc}
use Rattle.std.specs.Prelude.{codes, decimal}
use Rattle.std.specs.List.{flat_map}
use Rattle.event_graph.specs.Network.{arc_count}
use Rattle.checkpoint.specs.Text.{delay_words, two_words}
use Rattle.checkpoint.proofs.WrittenTexts.{delayed_below, delayed_below-0, delayed_below-all, delay_words-more, delay_words-same, delays_written, ok_appended}
use Rattle.checkpoint.proofs.writer.put_delays.Goals as goal
use Rattle.checkpoint.proofs.writer.put_delays.Goals.{then-delay-gt0+in_ok-put_delay, else-delay-gt0}

pub loop-a-init : goal.loop-a-init
loop-a-init c =
    sym (append-nil c.put_numbered.new.text.items)
    ∙ ap (λ l. c.put_numbered.new.text.items ++ flat_map (delay_words c.args.graph.now) l) (sym (delayed_below-0 c.args.graph.now))

pub loop-a-preserved : goal.loop-a-preserved
loop-a-preserved c =
    let g = c.args.graph.now in
    let a = c.loop-a.a in
    let start = c.put_numbered.new.text.items in
    let before = flat_map (delay_words g) (delayed_below g a) in
    elim c.if-delay-gt0.branch [
      | then-delay-gt0+in_ok-put_delay w ↦
          ap (λ v. v.items) w.text-is
          ∙ w.in_ok-put_delay.ensures
          ∙ ap (λ d. c.loop-a.text.items ++ two_words a d) c.delay-delay.ensures.delay
          ∙ ap (λ l. l ++ delay_words g a) c.loop-a.invariant
          ∙ append_assoc start before (delay_words g a)
          ∙ ap (λ l. start ++ l) (sym (delay_words-more g a (omega (arith, c.delay-delay.ensures.delay, w.if-delay-gt0.true))))
      | else-delay-gt0 w ↦
          ap (λ v. v.items) w.text-is
          ∙ c.loop-a.invariant
          ∙ ap (λ l. start ++ l) (sym (delay_words-same g a (omega (arith, c.delay-delay.ensures.delay, w.if-delay-gt0.false))))
    ]

pub returns : goal.returns
returns c =
    let g = c.args.graph.now in
    let start = c.put_numbered.new.text.items in
    let all : c.loop-a.a ≡ arc_count g = omega (arith, ap length c.arcs.ensures.arcs, c.loop-a-test.false, c.loop-a.auto.a-end) in
    let words = c.loop-a.invariant ∙ ap (λ n. start ++ flat_map (delay_words g) (delayed_below g n)) all ∙ ap (λ l. start ++ flat_map (delay_words g) l) (delayed_below-all g) in
    let counted = c.in_ok-put_numbered.ensures ∙ ap (λ n. c.args.text.now.items ++ (codes "delays " ++ decimal n)) (c.from.ensures ∙ c.count_delayed.ensures) in
    ok_appended c.extend_from_slice.result _ c.loop-a.text.items (codes "\n") _ c.extend_from_slice.ensures.items
    (delays_written g c.args.text.now.items start c.loop-a.text.items counted words)
