use Rattle.std.proofs.Common.{◌++◌, List, ℕ, sym, ap, ◌∙◌, refl}
use Rattle.checkpoint.specs.Text.{delays_line}
use Rattle.checkpoint.proofs.ReadLines.{delays_bad, delays_read}
use Rattle.checkpoint.proofs.read.read_delays.Goals as goal

pub returns-then-not-pass-clause-refused : goal.returns-then-not-pass-clause-refused
returns-then-not-pass-clause-refused c =
    let g = c.args.graph.now in
    let line = c.as_slice.ensures.value ∙ c.in-Ok.ensures ∙ ap (λ (l : List ℕ). l ++ delays_line g) c.new-expected.ensures.items in
    delays_bad g c.args.reader.now c.args.reader.now.text c.requires.read c.requires.short refl
    (λ after is.
    let known = c.if-not-pass.ensures.tells after (is ∙ ap (λ (l : List ℕ). l ++ after) (sym line)) in
    let none : ⊥ = cc known.0 in
    none)

pub returns-clause-read : goal.returns-clause-read
returns-clause-read c =
    let g = c.args.graph.now in
    let line = c.as_slice.ensures.value ∙ c.in-Ok.ensures ∙ ap (λ (l : List ℕ). l ++ delays_line g) c.new-expected.ensures.items in
    delays_read g c.args.reader.now c.pass.new.self c.requires.read (c.if-not-pass.ensures.passed refl ∙ ap (λ (l : List ℕ). l ++ c.pass.new.self.rest) line) c.pass.ensures.text
