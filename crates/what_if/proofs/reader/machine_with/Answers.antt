use Rattle.std.proofs.Common.{◌≡◌, ◌-◌, ◌<◌, sym, ap, ◌∙◌, arith, false, true}
use Rattle.std.specs.Str.{bytes_eq}
use Rattle.std.specs.List.{range_with_len}
use Rattle.std.proofs.lemmas.List.FromFn.{length-range_with_len}
use Rattle.event_graph.specs.Network.{stations}
use Rattle.line_core.specs.Schedule.{is_label_of}
use Rattle.line_core.proofs.Searches.{find-past}
use Rattle.what_if.specs.Edits.{is_machine, is_machine_with}
use Rattle.what_if.proofs.WordsOfEdits.{and-true, and-first, and-second, find-from_one_here, find-from_one_later}
use Rattle.what_if.proofs.reader.machine_with.Goals as goal
use Rattle.what_if.proofs.reader.machine_with.Goals.{else-eq-via-then-eq+else-is_machine, else-eq-via-else-eq}

pub returns-then-is_machine-clause-found : goal.returns-then-is_machine-clause-found
returns-then-is_machine-clause-found c =
    let g = c.args.graph.now in
    let text = c.args.text.now in
    let t = c.loop-t.t in
    let low : t < stations g = omega (arith, c.stations-t-end.ensures.count, c.loop-t-test.true) in
    let named : is_label_of g text t ≡ true = ap (λ l. bytes_eq l text) (sym c.label.ensures.text) ∙ sym c.eq.ensures ∙ c.if-eq.true in
    let machine : is_machine g t ≡ true = sym c.is_machine.ensures ∙ c.if-is_machine.true in
    find-from_one_here (is_machine_with g text) (stations g) t c.loop-t.auto.t low (and-true (is_label_of g text t) (is_machine g t) named machine)
    ∙ c.loop-t.invariant

pub loop-t-preserved : goal.loop-t-preserved
loop-t-preserved c =
    let g = c.args.graph.now in
    let text = c.args.text.now in
    let t = c.loop-t.t in
    let low : t < stations g = omega (arith, c.stations-t-end.ensures.count, c.loop-t-test.true) in
    let other : is_machine_with g text t ≡ false = elim c.else-eq.branch [
      | else-eq-via-then-eq+else-is_machine w ↦ and-second (is_label_of g text t) (is_machine g t) (sym w.is_machine.ensures ∙ w.if-is_machine.false)
      | else-eq-via-else-eq w ↦ and-first (is_label_of g text t) (is_machine g t) (ap (λ l. bytes_eq l text) (sym c.label.ensures.text) ∙ sym c.eq.ensures ∙ w.if-eq.false)
    ] in
    find-from_one_later (is_machine_with g text) (stations g) t c.loop-t.auto.t low other ∙ c.loop-t.invariant

pub returns-clause-found : goal.returns-clause-found
returns-clause-found c =
    let g = c.args.graph.now in
    sym (find-past (is_machine_with g c.args.text.now) (range_with_len 1 (stations g - 1)) (c.loop-t.t - 1) (omega (arith, length-range_with_len 1 (stations g - 1), c.stations-t-end.ensures.count, c.loop-t-test.false)))
    ∙ c.loop-t.invariant
