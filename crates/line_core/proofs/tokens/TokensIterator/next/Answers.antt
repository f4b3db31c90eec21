use Rattle.std.proofs.Common.{◌<◌, ◌+◌, ◌^◌, ℕ, subst}
use Rattle.std.specs.List.{All}
use Rattle.std.proofs.lemmas.List.Elements.{All-tail}
use Rattle.line_core.proofs.tokens.TokensIterator.next.Goals as goal

pub invariant_of-self-2 : goal.invariant_of-self-2
invariant_of-self-2 c =
    let Fits_ : ℕ → Type 0 = λ date. date + c.self.inside.delay < 2 ^ 64 in
    All-tail Fits_ c.in_ok-first.first.now c.in_ok-first.rest.now (subst (All Fits_) c.in_ok-first.ensures.cases.0 c.self.invariant)
