use Rattle.std.proofs.Common.{ℕ, Bool, List, length, sym, ap, ◌∙◌, subst}
use Rattle.std.specs.Prelude.{MatchOption}
use Rattle.what_if.specs.Marks.{bits_of, HasNone, IsFirstFrom}
use Rattle.what_if.proofs.Bits.{length-bits}
use Rattle.what_if.proofs.marks.Marks.first_from.Goals as goal

pub returns : goal.returns
returns c =
    let from = c.args.from in
    let first = c.first_bit.result in
    let words = c.deref.result.now in
    let Tells : List Bool → ℕ → Type 0 = λ marks end. MatchOption first (HasNone marks from end) (IsFirstFrom marks from) in
    let here = subst (Tells (bits_of words)) (sym (length-bits words)) c.first_bit.ensures in
    subst (λ marks. Tells marks (length marks)) (ap bits_of c.deref.ensures.value ∙ c.self.view_is) here
