use Rattle.std.proofs.Common.{◌≡◌, ◌+◌, length, sym, ap, ◌∙◌, refl, arith, subst}
use Rattle.std.proofs.lemmas.Bool.{eqb-true, eqb-false}
use Rattle.std.proofs.lemmas.List.{nil_from_length}
use Rattle.event_graph.specs.Network.{stations, arc_count}
use Rattle.checkpoint.specs.FirstBadLine.{IsFirstBadLine}
use Rattle.checkpoint.specs.Reading.{head_count}
use Rattle.checkpoint.proofs.ReadLines.{length-lines, end_bad, end_read, rest_bad, whole_read}
use Rattle.checkpoint.proofs.read.read_end.Goals as goal

pub returns-then-not-pass-clause-refused : goal.returns-then-not-pass-clause-refused
returns-then-not-pass-clause-refused c =
    let format = c.args.format in
    let g = c.args.graph.now in
    let n = head_count format + stations g + arc_count g in
    let number : n + 1 ≡ c.head_count.result + c.from.result + length c.arcs.result.now + 1 = omega (arith, c.head_count.ensures, c.from.ensures, c.stations.ensures.count, ap length c.arcs.ensures.arcs) in
    subst (IsFirstBadLine g c.args.reader.now.text) number
    (end_bad format g n c.requires.read.0 c.args.reader.now c.args.reader.now.text c.requires.read.1 c.requires.short refl refl c.requires.readable
    (λ after is.
    let known = c.if-not-pass.ensures.tells after is in
    let none : ⊥ = cc known.0 in
    none))

pub returns-then-not-is_empty-clause-refused : goal.returns-then-not-is_empty-clause-refused
returns-then-not-is_empty-clause-refused c =
    let format = c.args.format in
    let g = c.args.graph.now in
    let n = head_count format + stations g + arc_count g in
    let number : n + 1 + 1 ≡ c.head_count.result + c.from.result + length c.arcs.result.now + 2 = omega (arith, c.head_count.ensures, c.from.ensures, c.stations.ensures.count, ap length c.arcs.ensures.arcs) in
    let ended = end_read format g n c.requires.read.0 c.args.reader.now c.args.reader.now.text c.requires.read.1 c.requires.short refl refl c.pass.new.self (c.if-not-pass.ensures.passed refl) c.pass.ensures.text in
    subst (IsFirstBadLine g c.args.reader.now.text) number
    (rest_bad format g (n + 1) c.requires.read.0 c.pass.new.self c.args.reader.now.text ended c.requires.readable (sym (length-lines format g)) c.requires.short c.pass.ensures.text
    (λ none. absurd (eqb-false _ _ (sym c.is_empty.ensures ∙ c.if-not-is_empty.true) (ap length (c.rest.ensures ∙ none)))))

pub returns-clause-read : goal.returns-clause-read
returns-clause-read c lists has =
    let format = c.args.format in
    let g = c.args.graph.now in
    let n = head_count format + stations g + arc_count g in
    let ended = end_read format g n lists c.args.reader.now c.args.reader.now.text has c.requires.short refl refl c.pass.new.self (c.if-not-pass.ensures.passed refl) c.pass.ensures.text in
    let none = nil_from_length c.pass.new.self.rest (ap length (sym c.rest.ensures) ∙ eqb-true _ _ (sym c.is_empty.ensures ∙ c.if-not-is_empty.false)) in
    sym c.pass.ensures.text ∙ whole_read format g (n + 1) lists c.pass.new.self ended (sym (length-lines format g)) none
