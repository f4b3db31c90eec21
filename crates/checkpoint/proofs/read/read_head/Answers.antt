use Rattle.std.proofs.Common.{sym, ◌∙◌, refl}
use Rattle.checkpoint.specs.declared.format.Format.TheVariants.{Dates, Differences}
use Rattle.checkpoint.proofs.ReadLines.{head_bad, head_read}
use Rattle.checkpoint.proofs.read.read_head.Goals as goal

pub read_delays-requires-clause-read : goal.read_delays-requires-clause-read
read_delays-requires-clause-read c =
    head_read Differences c.args.graph.now c.args.reader.now c.pass.new.self c.requires.fresh (c.if-pass.ensures.passed refl) c.pass.ensures.text

pub returns-then-has_delays-clause-refused : goal.returns-then-has_delays-clause-refused
returns-then-has_delays-clause-refused c =
    head_bad c.args.graph.now c.args.reader.now.text
    (λ after is.
    let known = c.if-pass.ensures.tells after (c.requires.fresh ∙ is) in
    let none : ⊥ = cc known.0 in
    none)
    (λ after none is. c.if-has_delays.ensures.some refl none)

pub returns-then-not-pass-clause-refused : goal.returns-then-not-pass-clause-refused
returns-then-not-pass-clause-refused c =
    head_bad c.args.graph.now c.args.reader.now.text
    (λ after is.
    let known = c.if-pass.ensures.tells after (c.requires.fresh ∙ is) in
    let none : ⊥ = cc known.0 in
    none)
    (λ after none is.
    let known = c.if-not-pass.ensures.tells after (c.if-pass.ensures.kept refl ∙ c.requires.fresh ∙ is) in
    let nothing : ⊥ = cc known.0 in
    nothing)

pub returns-clause-read : goal.returns-clause-read
returns-clause-read c =
    head_read Dates c.args.graph.now c.args.reader.now c.pass-2.new.self c.requires.fresh (sym (c.if-pass.ensures.kept refl) ∙ c.if-not-pass.ensures.passed refl) (c.pass-2.ensures.text ∙ c.pass.ensures.text)

pub returns-then-not-pass-clause-text : goal.returns-then-not-pass-clause-text
returns-then-not-pass-clause-text c = c.if-not-pass.ensures.text ∙ c.if-pass.ensures.text

pub returns-clause-text : goal.returns-clause-text
returns-clause-text c = c.if-not-pass.ensures.text ∙ c.if-pass.ensures.text
